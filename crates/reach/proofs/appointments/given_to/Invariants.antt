-- The places that u holds are gone through, the lowest first: both sets, and the test of the pair, have what was seen by then.
use mathlib.Core.Path.{◌≡◌}
use lib.ListN.{get_or}
use Rattle.reach.specs.Tests.{Decides}
use Rattle.reach.specs.Tables.{no_appointment}
use Rattle.reach.specs.Privileges.{owner, manager}
use Rattle.reach.specs.Asking.{CoversPair}
use Rattle.reach.proofs.Marking.{Marked, SeenSet}
use Rattle.reach.proofs.Marking.{Seen}
use Rattle.reach.proofs.Posting.{Posted}
use Rattle.reach.proofs.appointments.given_to.Given as goal

abbrev pub invariant-loop-i : goal.invariant-loop-i
invariant-loop-i l =
    let left = l.i-iterator.0 in
    Marked (λ j. (get_or l.appointments j no_appointment).holder ≡ l.fn.u) left
    × SeenSet (Posted l.appointments owner l.fn.u) left l.owner
    × SeenSet (Posted l.appointments manager l.fn.u) left l.manager
    × Decides l.pair (Seen left (λ j. CoversPair (get_or l.appointments j no_appointment) l.fn.u l.first l.second))
