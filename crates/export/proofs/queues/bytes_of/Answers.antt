-- `bytes_of` stores the eight bytes before the waiters, and then the waiters behind them.
use Rattle.std.proofs.Common.{append-nil}
use Rattle.export.specs.Queued.{queue_bytes}
use Rattle.export.specs.Picture.{bytes_of}
use Rattle.export.proofs.queues.bytes_of.Goals as goal

pub returns : goal.returns
unfolding queue_bytes bytes_of
returns c = rw (c.copy_from_slice-2.ensures.after, c.copy_from_slice.ensures.after, c.to_le_bytes.ensures, c.to_le_bytes-2.ensures, append-nil)
