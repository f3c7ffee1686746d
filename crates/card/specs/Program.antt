-- What the program does with the bytes that it read: what it writes on a card, and what it prints. [02:2.1] "A club that replaces a blown board
-- wants its sheet written and read back."
use Rattle.std.specs.Prelude.{◌≡◌, Bool, [], ◌∷◌, ◌++◌, ℕ, ◌≤◌, ltb, length, take, Some, None, Result}
use Rattle.frame.specs.Reading.{records_from}
use Rattle.text.specs.Text.{Bytes, decimal, lines}
use Rattle.reach.specs.declared.Policy.{Policy}
use Rattle.reach.specs.Tests.{◌⇒◌∥◌}
use Rattle.reach.specs.Tables.{view, initial}
use Rattle.list.specs.Runs.{run}
use Rattle.list.specs.Report.{answers_from, too_long}
use Rattle.list.specs.Filling.{over}
use Rattle.list.specs.Demand.{Demand3, FoundingDemand3}
use Rattle.snapshot.specs.declared.CardError.{CardError}
use Rattle.snapshot.specs.Card.{file_of}
use Rattle.snapshot.specs.Answers.{code_of, policy_after, Reads}
use Rattle.card.specs.declared.Saved.{Saved}
use Rattle.card.specs.declared.Told.{Told}

-- [01:runner.9] "The program reads standard input, at most 65,536 bytes; with more it prints the one line `too long`."
abbrev pub is_long : Bytes → Bool
is_long input = ltb 65536 (length input)

-- The first n bytes of the buffer are the text, all of it.
pub record Shows (buffer : Bytes) (n : ℕ) (text : Bytes) : Type 0 where
  pub count : n ≡ length text
  pub bytes : take n buffer ≡ text

-- ---- Saving

-- The file of the policy that the records of the input leave from the founding.
abbrev pub card_of : Bytes → Bytes
card_of input = file_of (view (run initial (records_from input 0)))

-- A code and the length of a card, with one space (32) between them, and a line feed (10).
abbrev pub saved_line : ℕ → ℕ → Bytes
saved_line code long = decimal code ++ (32 ∷ []) ++ decimal long ++ (10 ∷ [])

-- The input is saved. The buffers are that for the card, before and after, and that for the line, after.
pub record Saves (input card card' line' : Bytes) (r : Saved) : Type 0 where
  -- [02:2.8] "The writer returns the file's length": there is a card to write but for an input that is too long.
  pub file : r.card ≡ (is_long input ⇒ None ∥ Some (length (card_of input)))
  -- The card is the file, and the bytes behind it are as they were; for an input that is too long all are.
  pub on_card : card' ≡ (is_long input ⇒ card ∥ over (card_of input) card)
  -- The line says so, with the code 0: no list leads from the founding to a policy that isn't sound, and there is room for every sound one.
  pub line : Shows line' r.printed (is_long input ⇒ too_long ∥ saved_line 0 (length (card_of input)))
  -- Of the records that are run demand 3 holds, whole.
  pub demand : FoundingDemand3 (records_from input 0)

-- ".XXXXXX", the end of the name of a new file: the system chooses the six letters.
abbrev pub six_unknown : Bytes
six_unknown = 46 ∷ 88 ∷ 88 ∷ 88 ∷ 88 ∷ 88 ∷ 88 ∷ []

-- The first n bytes of the buffer are in it, and they are n.
abbrev pub IsPrefixLen : ℕ → Bytes → Type 0
IsPrefixLen n buffer = (n ≤ length buffer) × (n ≡ length (take n buffer))

-- ---- Loading

-- What is printed for an input that is judged from the policy p: from the founding what the runner prints (`proofs/Loading.output_founding`).
unfoldable pub output_from : Policy → Bytes → Bytes
output_from p input = is_long input ⇒ too_long ∥ lines 0 (answers_from p input 0)

-- The code on a line of its own.
abbrev pub code_line : ℕ → Bytes
code_line code = decimal code ++ (10 ∷ [])

-- The card is loaded, and the input judged. The buffers are those for the first line and for the text, after.
pub record Loads (card input head' text' : Bytes) (r : Told) : Type 0 where
  -- What the reader answers for the card; the board has the founding's policy.
  pub loaded : Result Policy CardError
  pub reads : Reads card loaded
  -- [02:2.10] "13 damaged, .. for any other bytes at the reader", or 0: the first line.
  pub head : Shows head' r.head (code_line (code_of loaded))
  -- The input is judged from the policy that was read, or from the founding's, "the board's sheet kept".
  pub text : Shows text' r.text (output_from (policy_after initial loaded) input)
  -- [02:2.9] "After a read, demand 3 holds for every list from the read sheet too": for the records of this input.
  pub demand : Demand3 (policy_after initial loaded) (records_from input 0)
