-- The record so far has those before, but for u.
use Rattle.std.proofs.Common.{◌≡◌, take}
use Rattle.queue.specs.Line.{held, without}
use Rattle.queue.specs.Stored.{queue_of}
use Rattle.queue.proofs.Queue.left_by.Given as goal

abbrev pub invariant-loop-w : goal.invariant-loop-w
invariant-loop-w l =
    let q = l.fn.self in l.after ≡ queue_of q (held q.holder q.left (without l.fn.u (take l.w-index l.waiters)))
