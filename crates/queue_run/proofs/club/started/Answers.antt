-- `started` sets the line anew: its gear and its N are those of the record.
use Rattle.std.proofs.Common.{◌≡◌, ◌∙◌, ap, arith}
use Rattle.frame.specs.Fields.{byte, little_endian}
use Rattle.queue.specs.declared.Queue.{Queue}
use Rattle.queue_run.specs.Program.{event_told}
use Rattle.queue_run.proofs.club.started.Goals as goal

pub returns : goal.returns
returns c =
    let b = c.args.bytes.now in
    let turn : c.from_le_bytes-turn.result ≡ little_endian (byte b 5) (byte b 6) =
    omega (arith, c.from_le_bytes-turn.ensures, c.byte.ensures, c.byte-2.ensures) in
    c.event.ensures ∙ ap (λ (q : Queue). event_told c.args.club.now q 0) (c.start.ensures.value ∙ rw (turn, c.byte-3.ensures))
