-- In each set one side, where the kind is an administrator's and the other side is in the set.
use native.Mathlib.Omega.{arith}
use Rattle.reach.proofs.Testing.{decides_at, decides_and, decides_number}
use Rattle.reach.proofs.WordSets.{has_decides}
use Rattle.reach.proofs.Posting.{first_posted, second_posted}
use Rattle.reach.proofs.appointments.sides_by.Goals as goal

pub returns : goal.returns
returns c = (
  first_posted _ c.just.ensures c.only_if.ensures
      (decides_and _ _ (decides_number _ _ 3 (omega arith)) (decides_at c.has.ensures (has_decides _ _)))
      (omega arith),
  second_posted _ c.just-2.ensures c.only_if-2.ensures
      (decides_and _ _ (decides_number _ _ 3 (omega arith)) (decides_at c.has-2.ensures (has_decides _ _)))
      (omega arith),
)
