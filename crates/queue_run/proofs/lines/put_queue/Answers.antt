-- `put_queue` writes holder, ticks left and waiters of a radio that is held, each going on where the one before it
-- ended; else the text of a free one.
use Rattle.std.proofs.Common.{arith}
use borrow.Author.Tests.{eq-eqb, ne_eqb}
use Rattle.text.proofs.Paging.{puts_then, puts_sign}
use Rattle.queue_run.specs.Output.{queue_text}
use Rattle.queue_run.proofs.lines.put_queue.Goals as goal

pub returns-then-queue-ne1 : goal.returns-then-queue-ne1
unfolding queue_text
returns-then-queue-ne1 c = rw (ne_eqb _ _ c.if-queue-ne1.true) c.bytes.ensures

pub returns : goal.returns
unfolding queue_text
returns c =
    rw (eq-eqb _ _ c.if-queue-ne1.false)
    (puts_then (puts_then (puts_sign 32 c.small.ensures c.byte.ensures (omega arith)) c.number.ensures)
    (rw c.waiters.ensures at c.put_waiters.ensures))
