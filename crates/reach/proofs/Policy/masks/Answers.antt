-- The masks are those of its sorts.
use mathlib.Core.Path.{refl}
use Rattle.reach.proofs.Policy.masks.Goals as goal

pub returns : goal.returns
returns c = c.masks_of.ensures _ refl
