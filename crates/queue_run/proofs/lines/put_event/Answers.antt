-- `put_event` writes the line of an event: its six parts are what its six calls write, in their order.
use Rattle.std.proofs.Common.{arith}
use Rattle.text.proofs.Paging.{puts_then, puts_sign}
use Rattle.queue_run.specs.Output.{event_line}
use Rattle.queue_run.proofs.lines.put_event.Goals as goal

pub returns : goal.returns
unfolding event_line
returns c =
    let indexed = puts_sign 32 c.number.ensures c.byte.ensures (omega arith) in
    let coded = puts_sign 32 (puts_then indexed c.small.ensures) c.byte-2.ensures (omega arith) in
    puts_sign 10 (puts_then coded c.put_queue.ensures) c.byte-3.ensures (omega arith)
