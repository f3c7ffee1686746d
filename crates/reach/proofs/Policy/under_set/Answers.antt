-- All that is under the one number g.
use mathlib.Core.Path.{refl}
use Rattle.reach.proofs.Meeting.{one_below}
use Rattle.reach.proofs.Policy.under_set.Goals as goal

pub returns : goal.returns
returns c = one_below _ c.just.ensures (c.descend.ensures _ (record { rows = refl; masks = c.masks_of.ensures _ refl }))
