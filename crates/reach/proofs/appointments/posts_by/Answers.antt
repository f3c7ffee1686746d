-- The set of its A, where the kind is the one asked for.
use native.Mathlib.Omega.{arith}
use Rattle.reach.proofs.Testing.{decides_number}
use Rattle.reach.proofs.Posting.{posted}
use Rattle.reach.proofs.appointments.posts_by.Goals as goal

pub returns : goal.returns
returns c =
    let a = c.just-a.ensures in (
      posted _ a c.only_if.ensures (decides_number _ _ 1 (omega arith)),
      posted _ a c.only_if-2.ensures (decides_number _ _ 2 (omega arith)),
    )
