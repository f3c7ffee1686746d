-- Document 01's sample from the bytes that the program reads to the bytes that it prints; and the lines after it; and a torn place behind
-- it. By computation, of the rules themselves.
use mathlib.Core.Path.{◌≡◌, refl}
use mathlib.Core.List.{[], ◌∷◌, ◌++◌}
use Rattle.frame.specs.Reading.{step_at, records_within, torn_within, records_from, torn_from}
use Rattle.rules.specs.Sample.{records, further}
use Rattle.rules.proofs.Answered.{computed}
use Rattle.text.specs.Text.{Bytes, digits, decimal, line, lines}
use Rattle.list.specs.Report.{answers_from, report, output}
use Rattle.list.proofs.Handed.{joined}

-- The sixteen lines of the sample, each with its line feed.
abbrev pub sixteen_lines : Bytes
sixteen_lines =
    48 ∷ 32 ∷ 48 ∷ 32 ∷ 50 ∷ 53 ∷ 53 ∷ 10 ∷
    49 ∷ 32 ∷ 48 ∷ 32 ∷ 50 ∷ 53 ∷ 53 ∷ 10 ∷
    50 ∷ 32 ∷ 48 ∷ 32 ∷ 50 ∷ 53 ∷ 53 ∷ 10 ∷
    51 ∷ 32 ∷ 48 ∷ 32 ∷ 50 ∷ 53 ∷ 53 ∷ 10 ∷
    52 ∷ 32 ∷ 48 ∷ 32 ∷ 50 ∷ 53 ∷ 53 ∷ 10 ∷
    53 ∷ 32 ∷ 48 ∷ 32 ∷ 50 ∷ 53 ∷ 53 ∷ 10 ∷
    54 ∷ 32 ∷ 48 ∷ 32 ∷ 50 ∷ 53 ∷ 53 ∷ 10 ∷
    55 ∷ 32 ∷ 48 ∷ 32 ∷ 50 ∷ 53 ∷ 53 ∷ 10 ∷
    56 ∷ 32 ∷ 48 ∷ 32 ∷ 50 ∷ 53 ∷ 53 ∷ 10 ∷
    57 ∷ 32 ∷ 48 ∷ 32 ∷ 48 ∷ 10 ∷
    49 ∷ 48 ∷ 32 ∷ 57 ∷ 32 ∷ 50 ∷ 53 ∷ 53 ∷ 10 ∷
    49 ∷ 49 ∷ 32 ∷ 48 ∷ 32 ∷ 50 ∷ 53 ∷ 53 ∷ 10 ∷
    49 ∷ 50 ∷ 32 ∷ 48 ∷ 32 ∷ 48 ∷ 10 ∷
    49 ∷ 51 ∷ 32 ∷ 49 ∷ 48 ∷ 32 ∷ 50 ∷ 53 ∷ 53 ∷ 10 ∷
    49 ∷ 52 ∷ 32 ∷ 49 ∷ 50 ∷ 32 ∷ 50 ∷ 53 ∷ 53 ∷ 10 ∷
    49 ∷ 53 ∷ 32 ∷ 48 ∷ 32 ∷ 50 ∷ 53 ∷ 53 ∷ 10 ∷
    []

-- The eight lines after them.
abbrev pub eight_lines : Bytes
eight_lines =
    49 ∷ 54 ∷ 32 ∷ 48 ∷ 32 ∷ 50 ∷ 53 ∷ 53 ∷ 10 ∷
    49 ∷ 55 ∷ 32 ∷ 49 ∷ 49 ∷ 32 ∷ 50 ∷ 53 ∷ 53 ∷ 10 ∷
    49 ∷ 56 ∷ 32 ∷ 48 ∷ 32 ∷ 50 ∷ 53 ∷ 53 ∷ 10 ∷
    49 ∷ 57 ∷ 32 ∷ 49 ∷ 50 ∷ 32 ∷ 50 ∷ 53 ∷ 53 ∷ 10 ∷
    50 ∷ 48 ∷ 32 ∷ 48 ∷ 32 ∷ 50 ∷ 53 ∷ 53 ∷ 10 ∷
    50 ∷ 49 ∷ 32 ∷ 53 ∷ 32 ∷ 50 ∷ 53 ∷ 53 ∷ 10 ∷
    50 ∷ 50 ∷ 32 ∷ 48 ∷ 32 ∷ 50 ∷ 53 ∷ 53 ∷ 10 ∷
    50 ∷ 51 ∷ 32 ∷ 53 ∷ 32 ∷ 50 ∷ 53 ∷ 53 ∷ 10 ∷
    []

-- "16 1 255": a torn place behind the sixteen records.
abbrev pub torn_line : Bytes
torn_line =
    49 ∷ 54 ∷ 32 ∷ 49 ∷ 32 ∷ 50 ∷ 53 ∷ 53 ∷ 10 ∷
    []

-- What the program prints, with every rule open: what is to compute opens this one.
printed : Bytes → Bytes
unfolding computed step_at records_within torn_within records_from torn_from digits decimal line lines answers_from report output
printed input = output input

-- [01:runner.14] The sample.
pub sample_printed : output (joined records) ≡ sixteen_lines
unfolding printed
sample_printed = refl

-- [01:runner.15] What comes after it.
pub further_printed : output (joined (records ++ further)) ≡ sixteen_lines ++ eight_lines
unfolding printed
further_printed = refl

-- [01:runner.11] A byte too many is a torn place.
pub torn_printed : output (joined records ++ (9 ∷ [])) ≡ sixteen_lines ++ torn_line
unfolding printed
torn_printed = refl

-- [01:runner.12] "Empty input prints nothing."
pub empty_printed : output [] ≡ []
unfolding printed
empty_printed = refl
