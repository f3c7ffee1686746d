-- The three tables are lent, and no rule is read.
use mathlib.Core.Path.{sym, ◌∙◌}
use Rattle.reach.proofs.Owning.{orphaned_by_tables}
use Rattle.reach.proofs.Policy.orphaned.Goals as goal

pub returns : goal.returns
returns c = c.ownerless.ensures ∙ sym (orphaned_by_tables _)
