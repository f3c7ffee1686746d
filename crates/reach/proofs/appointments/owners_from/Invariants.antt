-- The places that have an owner's appointment are gone through, the lowest first: the set has what was seen by then.
use mathlib.Core.Path.{◌≡◌}
use Prim.Native.Nat.{◌<◌}
use lib.ListN.{get_or}
use Rattle.reach.specs.Tables.{no_appointment}
use Rattle.reach.specs.Privileges.{owner}
use Rattle.reach.specs.Asking.{OwnersA}
use Rattle.reach.proofs.Marking.{Marked, SeenSet}
use Rattle.reach.proofs.appointments.owners_from.Given as goal

abbrev pub invariant-loop-i : goal.invariant-loop-i
invariant-loop-i l =
    let left = l.i-iterator.0 in
    Marked (λ j. (get_or l.appointments j no_appointment).kind ≡ owner) left
    × SeenSet (λ j a. (a < 64) × OwnersA l.objects.sorts.now (get_or l.appointments j no_appointment) a) left l.set
