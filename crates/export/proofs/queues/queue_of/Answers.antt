-- `queue_of` reads the two numbers by the library, and the waiters place by place.
use Rattle.std.proofs.Common.{rules, arith, ◌≡◌}
use Rattle.export.specs.Picture.{table, number_from}
use Rattle.export.specs.Queued.{queue_from, waiter_at}
use Rattle.export.proofs.Tabling.{table_called}
use Rattle.export.proofs.Queueing.{number_of_two}
use Rattle.export.proofs.queues.queue_of.Goals as goal

pub returns : goal.returns
unfolding queue_from
returns c =
    let b = c.args.picture.now in
    let waiting : c.from_fn.result ≡ table 8 (waiter_at b) =
    table_called _ 8 _ _ (λ i x q h k. (search rules, search rules)) _ c.from_fn.ensures.items in
    let turn : c.from_le_bytes.result ≡ number_from 2 b 1 = omega (arith, c.from_le_bytes.ensures, number_of_two b 1) in
    let left : c.from_le_bytes-2.result ≡ number_from 2 b 5 = omega (arith, c.from_le_bytes-2.ensures, number_of_two b 5) in
    rw (waiting, turn, left)
