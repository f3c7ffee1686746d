-- `under` is its test: that of what x is under, by the law that both decide `Under`.
use mathlib.Core.Path.{◌∙◌}
use Rattle.reach.proofs.WordSets.{has_is}
use Rattle.reach.proofs.Chains.{under_decides}
use Rattle.reach.proofs.Policy.under.Goals as goal

pub returns : goal.returns
returns c = c.has.ensures ∙ has_is c.above.ensures _ _ (under_decides _ _ _)
