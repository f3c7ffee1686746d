-- The picture of a waiting line, 16 bytes, as C and Rust hand it in and get it back: 0 gear; 1 and 2 N, the lowest byte
-- first; 3 mark; 4 holder; 5 and 6 ticks left, the lowest byte first; 7 count; 8 to 15 waiters. The definitions quote
-- these words. Any 16 bytes are the picture of one record, and each record that the program can hold has one
-- (proofs/Queueing, `bytes_of_queue` and `queue_of_bytes`).
use Rattle.std.specs.Prelude.{◌≡◌, Bool, ◌&&◌, [], ◌∷◌, ◌++◌, ℕ, ◌+◌, eqb, length}
use Rattle.reach.specs.declared.Policy.{Policy}
use Rattle.reach.specs.Tests.{◌⇒◌∥◌}
use Rattle.frame.specs.Fields.{byte}
use Rattle.text.specs.Text.{Bytes}
use Rattle.queue.specs.declared.Queue.{Queue}
use Rattle.queue.specs.Stored.{Joined, start}
use Rattle.export.specs.Picture.{table, number_from, bytes_of, policy_of}

-- ---- The record of a picture

-- "8 to 15 waiters"
abbrev pub waiter_at : Bytes → ℕ → ℕ
waiter_at b i = byte b (8 + i)

-- The record of a picture. A byte past the end of the bytes reads as 0, so all bytes have one.
unfoldable pub queue_from : Bytes → Queue
queue_from b =
    record {
      gear = byte b 0;
      turn = number_from 2 b 1;
      held = byte b 3;
      holder = byte b 4;
      left = number_from 2 b 5;
      count = byte b 7;
      waiting = table 8 (waiter_at b);
    }

-- ---- The picture of a record

-- "0 gear; 1 and 2 N, the lowest byte first; 3 mark; 4 holder; 5 and 6 ticks left, the lowest byte first; 7 count; 8 to
-- 15 waiters".
unfoldable pub queue_bytes : Queue → Bytes
queue_bytes q =
    (q.gear ∷ []) ++ bytes_of 2 q.turn ++ (q.held ∷ q.holder ∷ []) ++ bytes_of 2 q.left ++ (q.count ∷ []) ++ q.waiting

-- ---- What the calls leave

-- Whether the line has its 16 bytes, and the picture of the policy its 960.
abbrev pub line_fits : Bytes → Bool
line_fits queue = eqb (length queue) 16

abbrev pub queue_fits : Bytes → Bytes → Bool
queue_fits picture queue = eqb (length picture) 960 && line_fits queue

-- The bytes of the line after a start, and the result: an empty line, and 0. Where they are not 16, nothing is written,
-- and the result is 255.
pub record QueueStarted (gear n : ℕ) (queue queue' : Bytes) (r : ℕ) : Type 0 where
  pub written : queue' ≡ (line_fits queue ⇒ queue_bytes (start gear n) ∥ queue)
  pub code : r ≡ (line_fits queue ⇒ 0 ∥ 255)

-- The bytes of the line after an event, and the result: the event on the policy of the picture and the record of the
-- bytes, and its code. Where the picture isn't 960 bytes or the line isn't 16, nothing is written, and the result is
-- 255.
pub record QueueTold (picture queue queue' : Bytes) (event : Policy → Queue → Joined) (r : ℕ) : Type 0 where
  pub written : queue' ≡ (queue_fits picture queue ⇒ queue_bytes (event (policy_of picture) (queue_from queue)).queue ∥ queue)
  pub code : r ≡ (queue_fits picture queue ⇒ (event (policy_of picture) (queue_from queue)).code ∥ 255)
