-- Whether the sort is a group's, by its number.
use mathlib.Core.Path.{◌∙◌, ap}
use Prim.Native.Nat.{ℕ}
use lib.Dec.{eqb}
use Rattle.reach.proofs.Sorts.{of_sort}
use Rattle.reach.proofs.Policy.is_group.Goals as goal

pub returns : goal.returns
returns c = c.eq.ensures ∙ of_sort _ _ ∙ ap (λ (n : ℕ). eqb n 1) c.sort.ensures
