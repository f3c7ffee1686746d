-- Whether the rest fits is whether all of them do, as long as none was met that does not.
use Rattle.std.proofs.Common.{◌≡◌, length}
use Rattle.queue.specs.Stored.{fit}
use Rattle.queue.proofs.rows.fits.Given as goal

abbrev pub invariant-loop-w : goal.invariant-loop-w
invariant-loop-w l = fit l.rest ≡ fit l.waiters

abbrev pub decreases-loop-w : goal.decreases-loop-w
decreases-loop-w l = length l.rest
