-- A call of the rest is the call of all of them, as long as none was met who is permitted.
use Rattle.std.proofs.Common.{◌≡◌, ◌≤◌, length}
use Rattle.queue.specs.Line.{counted, called}
use Rattle.queue.specs.Stored.{may_at, waiters}
use Rattle.queue.proofs.Queue.call.Given as goal

abbrev pub invariant-loop-w : goal.invariant-loop-w
invariant-loop-w l =
    (length l.rest ≤ 8)
    × (called (may_at l.fn.self l.fn.p) (counted l.fn.self.turn) l.rest ≡ called (may_at l.fn.self l.fn.p) (counted l.fn.self.turn) (waiters l.fn.self))

abbrev pub decreases-loop-w : goal.decreases-loop-w
decreases-loop-w l = length l.rest
