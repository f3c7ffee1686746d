-- What C and Rust are told of a policy: a set of objects in eight bytes, a number in one, and the founding as a picture.
use Rattle.std.specs.Prelude.{◌≡◌, Bool, ◌&&◌, ℕ, eqb, leb, length, Option, Some, None}
use Rattle.reach.specs.declared.Policy.{Policy}
use Rattle.reach.specs.Words.{SetOf}
use Rattle.reach.specs.Tests.{◌⇒◌∥◌}
use Rattle.reach.specs.Tables.{initial}
use Rattle.text.specs.Text.{Bytes}
use Rattle.list.specs.Filling.{over}
use Rattle.export.specs.Picture.{policy_of, picture_of, bytes_of}

-- Whether the picture has its 960 bytes and the buffer room for the answer.
abbrev pub answer_fits : Bytes → Bytes → Bytes → Bool
answer_fits picture answer buffer = eqb (length picture) 960 && leb (length answer) (length buffer)

-- The buffer after a question on a picture, and the result: the bytes of the answer over the first ones of the buffer, and
-- how many they are. Bytes behind them stay as they were. Where the picture isn't 960 bytes or the buffer is shorter than the
-- answer, nothing is written, and the result is 0.
pub record AnswerTold (picture answer buffer buffer' : Bytes) (n : ℕ) : Type 0 where
  pub written : buffer' ≡ (answer_fits picture answer buffer ⇒ over answer buffer ∥ buffer)
  pub count : n ≡ (answer_fits picture answer buffer ⇒ length answer ∥ 0)

-- The same of a set: it has exactly the objects that are asked for, on the policy of the picture, and goes into eight bytes,
-- the lowest first.
pub record SetTold (picture : Bytes) (asked : Policy → ℕ → Type 0) (buffer buffer' : Bytes) (n : ℕ) : Type 0 where
  pub set : ℕ
  pub exactly : SetOf set (asked (policy_of picture))
  pub told : AnswerTold picture (bytes_of 8 set) buffer buffer' n

-- A place of a table in one byte: 255 for none.
abbrev pub place_byte : Option ℕ → ℕ
place_byte (Some i) = i
place_byte None = 255

-- The founding's picture over the first 960 bytes of the buffer. A shorter buffer gets nothing, and the result is 0.
pub record InitialTold (buffer buffer' : Bytes) (n : ℕ) : Type 0 where
  pub written : buffer' ≡ (leb 960 (length buffer) ⇒ over (picture_of initial) buffer ∥ buffer)
  pub count : n ≡ (leb 960 (length buffer) ⇒ 960 ∥ 0)
