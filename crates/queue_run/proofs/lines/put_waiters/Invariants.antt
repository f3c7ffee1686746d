-- The waiters so far are written.
use Rattle.std.proofs.Common.{take}
use Rattle.text.specs.Paging.{Puts}
use Rattle.queue_run.specs.Output.{spaced}
use Rattle.queue_run.proofs.lines.put_waiters.Given as goal

abbrev pub invariant-loop-w : goal.invariant-loop-w
invariant-loop-w l = Puts l.initial.page (spaced (take l.w-index l.waiters)) l.page
