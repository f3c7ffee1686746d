-- The picture of a waiting line is one to one.
use mathlib.Core.Path.{◌≡◌, refl, ap₂}
use mathlib.Core.List.{[], ◌∷◌}
use Prim.Native.Nat.{ℕ, suc, ◌+◌, ◌*◌, ◌^◌, ◌<◌}
use native.Mathlib.Omega.{arith}
use lib.ListN.{length}
use Rattle.frame.specs.Fields.{byte}
use Rattle.text.specs.Text.{Bytes}
use Rattle.queue.specs.declared.Queue.{Queue}
use Rattle.export.specs.Picture.{table, number_from, bytes_of}
use Rattle.export.specs.Queued.{queue_from, queue_bytes}
use Rattle.export.proofs.Tabling.{table_of}
use Rattle.export.proofs.Faithful.{number_of_bytes}

-- ---- Numbers of two bytes

-- The number of two bytes: the first, and 256 times the second.
pub number_of_two : (b : Bytes) (at : ℕ) → number_from 2 b at ≡ byte b at + 256 * byte b (at + 1)
unfolding number_from
number_of_two b at = let next : at + 1 ≡ suc at = omega arith in rw next (omega arith)

-- The two bytes of the number are these again.
two_of_number : (b : Bytes) (at : ℕ) → ((i : ℕ) → byte b i < 256) → bytes_of 2 (number_from 2 b at) ≡ byte b at ∷ byte b (suc at) ∷ []
unfolding bytes_of number_from
two_of_number b at each =
    ap₂ (λ (x y : ℕ). x ∷ y ∷ []) (omega (arith, each at)) (omega (arith, each at, each (suc at)))

-- ---- One to one

-- Any 16 bytes are the picture of the record that they say.
pub bytes_of_queue : (b : Bytes) → length b ≡ 16 → ((i : ℕ) → byte b i < 256) → queue_bytes (queue_from b) ≡ b
unfolding queue_bytes queue_from table
bytes_of_queue b long each =
    rw (two_of_number b 1 each, two_of_number b 5 each) (table_of 16 (byte b) b 0 long (λ _ _. refl))

-- The eight places, one by one, are all that is stored of the waiters.
places : (q : Queue) → length q.waiting ≡ 8 → table 8 (byte q.waiting) ≡ q.waiting
places q eight = table_of 8 (byte q.waiting) q.waiting 0 eight (λ _ _. refl)

-- The picture of a record with eight places and numbers of two bytes gives the record back.
pub queue_of_bytes : (q : Queue) → q.turn < 2 ^ 16 → q.left < 2 ^ 16 → length q.waiting ≡ 8 → queue_from (queue_bytes q) ≡ q
unfolding queue_bytes queue_from table number_from bytes_of
queue_of_bytes q turn left eight = rw (number_of_bytes 2 q.turn turn, number_of_bytes 2 q.left left, places q eight)
