-- What the writer of a card and its reader answer.
use Rattle.std.specs.Prelude.{◌≡◌, ℕ, ◌≤◌, ◌<◌, length, take, Result, Ok, Err}
use Rattle.reach.specs.declared.Policy.{Policy}
use Rattle.reach.specs.Tables.{View, view, Sized}
use Rattle.text.specs.Text.{Bytes}
use Rattle.list.specs.Filling.{over}
use Rattle.soundness.specs.Soundness.{Sound}
use Rattle.snapshot.specs.declared.CardError.{CardError}
use Rattle.snapshot.specs.declared.CardError.TheVariants.{Damaged, Short}
use Rattle.snapshot.specs.Card.{file_of, Same, Zeroed}

-- [02:2.10] "Turned away: 13 damaged, ..; then 14 short card": and 0 for what is done.
abbrev pub code_of : {A : Type 0} → Result A CardError → ℕ
code_of (Ok done) = 0
code_of (Err Damaged) = 13
code_of (Err Short) = 14

-- [02:2.8] "The writer returns the file's length, 0 when refused": the number of what the writer answers.
abbrev pub length_of : Result ℕ CardError → ℕ
length_of (Ok n) = n
length_of (Err e) = 0

-- [02:2.10] "13 damaged, .. the board's sheet kept": the policy after a card is read, where the board had the policy `kept`.
abbrev pub policy_after : Policy → Result Policy CardError → Policy
policy_after kept (Ok p) = p
policy_after kept (Err e) = kept

-- How many bytes the file of a sound policy has at the most: with 63 groups and a user, all 4,032 memberships in the groups, 32 appointments and
-- 64 rules.
abbrev pub largest : ℕ
largest = 25376

abbrev pub NoneLonger : Type 0
NoneLonger = (v : View) → Sound v → length (file_of v) ≤ largest

-- What is written of the policy p into the lent bytes, which then are `after`.
pub data Writes (p : Policy) (lent after : Bytes) (r : Result ℕ CardError) : Type 0 where
  -- [02:2.8] "The writer returns the file's length, .., and leaves lent bytes past the file untouched."
  done : Sound (view p) → length (file_of (view p)) ≤ length lent → r ≡ Ok (length (file_of (view p)))
      → after ≡ over (file_of (view p)) lent → Writes p lent after r
  -- [02:2.10] "13 damaged, when the writer's sheet isn't sound", [02:2.11] "Neither writes anything."
  damaged : (Sound (view p) → ⊥) → r ≡ Err Damaged → after ≡ lent → Writes p lent after r
  -- [02:2.10] "then 14 short card, when the lent bytes are fewer than the file needs", and as before.
  short : Sound (view p) → length lent < length (file_of (view p)) → r ≡ Err Short → after ≡ lent → Writes p lent after r

-- The bytes are the file of a sound policy, of tables with their sizes as every policy has them that the program holds.
pub record FileOf (p : Policy) (card : Bytes) : Type 0 where
  pub sized : Sized p
  pub sound : Sound (view p)
  pub file : file_of (view p) ≡ card

-- What is read of a card.
pub data Reads (card : Bytes) (r : Result Policy CardError) : Type 0 where
  -- [02:2.5] "The reader takes only what the writer produces for a sound sheet, and gives a sheet whose empty places hold zeros." [02:2.7] "A
  -- sound sheet, written and read, comes back the same in those": whichever policy was written.
  taken : (p : Policy) → r ≡ Ok p → FileOf p card → Zeroed p → ((q : Policy) → FileOf q card → Same (view q) (view p)) → Reads card r
  -- [02:2.10] "13 damaged, .. for any other bytes at the reader, the board's sheet kept": there is no other policy.
  damaged : ((p : Policy) → FileOf p card → ⊥) → r ≡ Err Damaged → Reads card r

-- ---- What holds of all cards (proved in proofs/Theorems)

-- [02:2.6] "Two sound sheets have equal files exactly when they agree in every place in use and every membership."
pub record FilesTell (p q : Policy) : Type 0 where
  pub same_if_equal : file_of (view p) ≡ file_of (view q) → Same (view p) (view q)
  pub equal_if_same : Same (view p) (view q) → file_of (view p) ≡ file_of (view q)

abbrev pub EqualFiles : Type 0
EqualFiles = (p q : Policy) → Sized p → Sized q → Sound (view p) → Sound (view q) → FilesTell p q

-- [02:2.7] "A sound sheet, written and read, comes back the same in those": by any writer and any reader of these promises.
pub record Returned (p : Policy) (r : Result Policy CardError) : Type 0 where
  pub read : Policy
  pub done : r ≡ Ok read
  pub same : Same (view p) (view read)

abbrev pub WrittenAndRead : Type 0
WrittenAndRead =
    (p : Policy) (lent after : Bytes) (n : ℕ) (r : Result Policy CardError) → Sized p → Writes p lent after (Ok n) → Reads (take n after) r
    → Returned p r
