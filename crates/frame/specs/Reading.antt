-- What a reader over lent bytes finds at each position: a record, a torn place, or the end; and all that it finds from
-- a position on. Every position has an answer: past the end stands what stands at the end.
use Rattle.std.specs.Prelude.{◌≡◌, Bool, true, false, cond, ◌||◌, List, [], ◌∷◌, ◌++◌, map, ℕ, zero, suc, ◌+◌, ltb, leb, length, take, drop}
use Rattle.std.specs.Prelude.{Option, Some, None, Result, Ok, Err, option_map}
use Rattle.std.specs.Borrow.{Bor}
use Rattle.std.specs.Iterator.{YieldsFirstBy}
use Rattle.frame.specs.declared.Torn as mark
use Rattle.frame.specs.declared.Reader.{Reader}
use Rattle.frame.specs.Fields.{length_field}

-- What stands at a position: a whole record, that is where it starts, its length and the place after it; a torn place; or
-- the end.
pub data Step : Type 0 where
  Record : (start len next : ℕ) → Step
  Torn : Step
  End : Step

-- [01:runner.7] "Fewer than 4 bytes left over, a length field below 4, or one running past the end, is torn": said of the
-- bytes left over.
abbrev pub torn : List ℕ → Bool
torn left = ltb (length left) 4 || ltb (length_field left) 4 || ltb (length left) (length_field left)

-- [01:runner.8] "No bytes left is the plain end." Bytes left over that are not torn begin with a record: where it starts,
-- its length, and the next place. A record of an unknown kind is a record too; the judge refuses it.
unfoldable pub step_at : List ℕ → ℕ → Step
step_at b at =
    cond (leb (length b) at) End
    (cond (torn (drop at b)) Torn
    (Record at (length_field (drop at b)) (at + length_field (drop at b))))

-- The bytes of the record that starts there and has that length.
abbrev pub record_bytes : List ℕ → ℕ → ℕ → List ℕ
record_bytes b start len = take len (drop start b)

-- [01:runner.6] "A reader over the lent bytes gives record after record." [01:runner.7] "no later record is read": at a
-- torn place the list stops. The records from a position on, at most n of them, and whether the bytes are torn after them:
abbrev pub records_by : List ℕ → (ℕ → List (List ℕ)) → Step → List (List ℕ)
records_by b from (Record start len next) = record_bytes b start len ∷ from next
records_by b from Torn = []
records_by b from End = []

unfoldable pub records_within : ℕ → List ℕ → ℕ → List (List ℕ)
records_within zero b at = []
records_within (suc n) b at = records_by b (records_within n b) (step_at b at)

abbrev pub torn_by : (ℕ → Bool) → Step → Bool
torn_by from (Record start len next) = from next
torn_by from Torn = true
torn_by from End = false

unfoldable pub torn_within : ℕ → List ℕ → ℕ → Bool
torn_within zero b at = false
torn_within (suc n) b at = torn_by (torn_within n b) (step_at b at)

-- All of them: there are no more records than bytes, so that bound leaves none out (`proofs/Records.records_step` and
-- `torn_step`).
unfoldable pub records_from : List ℕ → ℕ → List (List ℕ)
records_from b at = records_within (length b) b at

unfoldable pub torn_from : List ℕ → ℕ → Bool
torn_from b at = torn_within (length b) b at

-- How many steps the reader makes before it stops: one for each record, and one for a torn place behind them.
abbrev pub steps_of : List ℕ → ℕ
steps_of b = length (records_from b 0) + cond (torn_from b 0) 1 0

-- The reader of some bytes at a position.
abbrev pub reader_at : Bor (List ℕ) → ℕ → Reader
reader_at bytes at = record { bytes = bytes; at = at }

-- What a reader gives, read as values: the bytes of a record, or the mark of a torn place.
abbrev pub Item : Type 0
Item = Result (List ℕ) mark.Torn

abbrev pub item : Result (Bor (List ℕ)) mark.Torn → Item
item (Ok bytes) = Ok bytes.now
item (Err m) = Err m

-- What a reader at a position has left to give: the records from there on, and behind them, if the bytes are torn there, the mark.
abbrev pub marked : Bool → List Item
marked true = Err (record {}) ∷ []
marked false = []

unfoldable pub items_from : List ℕ → ℕ → List Item
items_from b at = map (λ (r : List ℕ). Ok r) (records_from b at) ++ marked (torn_from b at)

abbrev pub left : Reader → List Item
left r = items_from r.bytes.now r.at

-- What it gives at a step: nothing at the end.
abbrev pub found : List ℕ → Step → Option Item
found b (Record start len next) = Some (Ok (record_bytes b start len))
found b Torn = Some (Err (record {}))
found b End = None

-- The step at a position as what is given there tells it: a record starts at the position, and has as many bytes as are given.
abbrev pub step_told : ℕ → Option Item → Step
step_told at (Some (Ok bytes)) = Record at (length bytes) (at + length bytes)
step_told at (Some (Err m)) = Torn
step_told at None = End

-- What is given is what stands at the position, and tells the step there.
pub record Finds (b : List ℕ) (at : ℕ) (given : Option (Result (Bor (List ℕ)) mark.Torn)) : Type 0 where
  pub gives : option_map item given ≡ found b (step_at b at)
  pub step : step_told at (option_map item given) ≡ step_at b at

-- Where reading goes on: after a record at its next place. A torn place is not left, and is torn again; nor is the end.
abbrev pub place_after : ℕ → Step → ℕ
place_after at (Record start len next) = next
place_after at Torn = at
place_after at End = at

abbrev pub reader_after : Reader → Reader
reader_after r = reader_at r.bytes (place_after r.at (step_at r.bytes.now r.at))

-- What is still read by one that goes on itself: from a torn place on nothing.
abbrev pub bytes_after : List ℕ → ℕ → Step → List ℕ
bytes_after b at (Record start len next) = b
bytes_after b at Torn = take at b
bytes_after b at End = b

-- A reader gives the first of what it had left, which is what stands at its position, and goes on.
pub record Goes (r : Reader) (given : Option (Result (Bor (List ℕ)) mark.Torn)) (r' : Reader) : Type 0 where
  pub first : YieldsFirstBy item left r given r'
  pub gives : option_map item given ≡ found r.bytes.now (step_at r.bytes.now r.at)
  pub place : r'.at ≡ place_after r.at (step_at r.bytes.now r.at)
  pub bytes : r'.bytes.now ≡ bytes_after r.bytes.now r.at (step_at r.bytes.now r.at)
