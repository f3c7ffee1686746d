-- The places that u holds are gone through, the lowest first: both sets have what was seen by then.
use mathlib.Core.Path.{◌≡◌}
use Prim.Native.Nat.{◌<◌}
use lib.ListN.{get_or}
use Rattle.reach.specs.Tables.{no_appointment}
use Rattle.reach.specs.Asking.{HasB, HasFirst}
use Rattle.reach.proofs.Marking.{Marked, SeenSet}
use Rattle.reach.proofs.appointments.sides_of.Given as goal

abbrev pub invariant-loop-i : goal.invariant-loop-i
invariant-loop-i l =
    let left = l.i-iterator.0 in
    Marked (λ j. (get_or l.appointments j no_appointment).holder ≡ l.fn.u) left
    × SeenSet (λ j a. (a < 64) × HasFirst (get_or l.appointments j no_appointment) l.fn.u l.set a) left l.first
    × SeenSet (λ j b. (b < 64) × HasB (get_or l.appointments j no_appointment) l.fn.u l.set b) left l.second
