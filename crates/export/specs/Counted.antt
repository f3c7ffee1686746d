-- How many lines a report has, and how a report that was cut off is told from a whole one.
use Rattle.std.specs.Prelude.{◌≡◌, ℕ, ◌*◌, ◌≤◌, ◌<◌, length, take}
use Rattle.frame.specs.Reading.{steps_of}
use Rattle.text.specs.Text.{Bytes, feeds, Printed}
use Rattle.list.specs.Report.{report}

-- The number of lines: one for each record of the input, and one for a torn place. With 28 bytes for each, a buffer has room for the whole
-- report. A report has that many line feeds; where it was cut off, what stands in the buffer has fewer.
pub record LinesTold (input : Bytes) (r : ℕ) : Type 0 where
  pub count : r ≡ steps_of input
  pub room : length (report input) ≤ 28 * r
  pub whole : feeds (report input) ≡ r
  pub cut : (buffer buffer' : Bytes) (n : ℕ) → Printed buffer (report input) buffer' n → n < length (report input)
      → feeds (take n buffer') < r
