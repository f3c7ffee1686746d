-- What the program prints for its input.
use Rattle.std.specs.Prelude.{List, [], ◌∷◌, ◌++◌, ℕ, ltb, length}
use Rattle.reach.specs.declared.Policy.{Policy}
use Rattle.reach.specs.Tests.{◌⇒◌∥◌}
use Rattle.reach.specs.Tables.{initial}
use Rattle.frame.specs.Reading.{records_from, torn_from}
use Rattle.rules.specs.Judging.{answers}
use Rattle.text.specs.Text.{Bytes, lines, torn_place}

-- The answers to the records that stand in the input from a position on, the first judged on p; and behind them, if the input is torn
-- there, that of the torn place.
unfoldable pub answers_from : Policy → Bytes → ℕ → List (ℕ × ℕ)
answers_from p input at = answers p (records_from input at) ++ (torn_from input at ⇒ torn_place ∷ [] ∥ [])

-- [01:runner.10] "From a founding it prints per record: index from 0, code, cited."
unfoldable pub report : Bytes → Bytes
report input = lines 0 (answers_from initial input 0)

-- "too long" and a line feed.
abbrev pub too_long : Bytes
too_long = 116 ∷ 111 ∷ 111 ∷ 32 ∷ 108 ∷ 111 ∷ 110 ∷ 103 ∷ 10 ∷ []

-- [01:runner.9] "The program reads standard input, at most 65,536 bytes; with more it prints the one line `too long`."
unfoldable pub output : Bytes → Bytes
output input = ltb 65536 (length input) ⇒ too_long ∥ report input
