-- `put_waiters` writes the waiters: each turn writes the next one behind those before him.
use Rattle.std.proofs.Common.{arith}
use Rattle.queue_run.proofs.Spacing.{spaced_start, spaced_next, spaced_end}
use Rattle.queue_run.proofs.lines.put_waiters.Goals as goal

pub loop-w-init : goal.loop-w-init
loop-w-init c = spaced_start _

pub loop-w-preserved : goal.loop-w-preserved
loop-w-preserved c =
    spaced_next c.args.waiters.now c.loop-w.w-index c.loop-w-test.true c.loop-w.invariant
    c.byte.ensures (omega arith) c.small.ensures (omega arith)

pub returns : goal.returns
returns c = spaced_end c.args.waiters.now c.loop-w.w-index c.loop-w-test.false c.loop-w.invariant
