-- `direct` reads the two tables that are lent.
use mathlib.Core.Path.{◌∙◌}
use Rattle.reach.proofs.Meeting.{direct_by}
use Rattle.reach.proofs.Policy.direct.Goals as goal

pub returns : goal.returns
returns c = c.direct.ensures ∙ direct_by _ _ _
