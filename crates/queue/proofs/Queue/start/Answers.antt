-- `start` makes the empty line, field by field; and from any record nobody waits longer than the bound says.
use Rattle.std.proofs.Common.{rules}
use Rattle.queue.proofs.Waiting.{wait_bound_any}
use Rattle.queue.proofs.Queue.start.Goals as goal

pub returns : goal.returns
returns c = record { value = search rules; wait_bound_from = wait_bound_any _ }
