-- 212,992 bytes are enough for what an input of 65,536 bytes prints. Its records take 4 bytes or more, so it has at most 16,384
-- lines; a line takes at most 13: five digits of an index below 100,000, two of a code, three of a cited byte, two spaces, a line feed.
use mathlib.Core.Path.{◌≡◌, refl, sym, ◌∙◌}
use mathlib.Core.Bool.{Bool, true, false, cond}
use mathlib.Core.List.{List, [], ◌∷◌, ◌++◌, append-nil}
use Prim.Native.Nat.{ℕ, ◌+◌, ◌*◌, ◌≤◌, ◌<◌, zero-le}
use native.Mathlib.Omega.{arith}
use lib.Dec.{ltb}
use lib.ListN.{length, take, length-append}
use borrow.Author.Tests.{lt-ltb, ltb-false}
use Rattle.std.specs.Prelude.{Err}
use Rattle.reach.specs.declared.Policy.{Policy}
use Rattle.reach.specs.Tests.{◌⇒◌∥◌}
use Rattle.reach.specs.Tables.{initial}
use Rattle.frame.specs.Reading.{records_from, torn_from}
use Rattle.frame.proofs.Records.{records_few}
use Rattle.rules.specs.declared.Refusal.TheVariants.{Torn}
use Rattle.rules.specs.Judging.{judge, numbers_of, answers}
use Rattle.rules.proofs.Table.{answers_none, answers_next}
use Rattle.rules.proofs.Bounded.{code_bounded, cited_bounded}
use Rattle.text.specs.Text.{Bytes, lines, torn_place, Printed}
use Rattle.list.specs.Report.{answers_from, report, too_long, output}
use Rattle.text.proofs.Lengths.{Bounded, lines_fit, torn_lines_fit}
use Rattle.text.proofs.Writing.{printed_all}

-- The numbers of a torn place are those of the verdict torn.
pub torn_numbers : torn_place ≡ numbers_of (Err Torn)
torn_numbers = refl

-- The answers of a list are bounded, and as many as its records.
pub answers_bounded : (p : Policy) (bs : List Bytes) → Bounded (answers p bs)
answers_bounded p [] = rw (answers_none p) tt
answers_bounded p (b ∷ bs) =
    rw (answers_next p b bs) (code_bounded (judge p b).verdict, cited_bounded p b, answers_bounded (judge p b).policy bs)

pub answers_length : (p : Policy) (bs : List Bytes) → length (answers p bs) ≡ length bs
answers_length p [] = rw (answers_none p)
answers_length p (b ∷ bs) = rw (answers_next p b bs, answers_length (judge p b).policy bs)

-- The lines for an input within the limit, from any start.
pub lines_from_fit : (p : Policy) (input : Bytes) → length input ≤ 65536 → length (lines 0 (answers_from p input 0)) ≤ 212992
unfolding answers_from
lines_from_fit p input h = go (torn_from input 0) (records_few input 0 zero-le)
  where
    records : List Bytes
    records = records_from input 0

    go : (torn : Bool) → 0 + 4 * length records + cond torn 1 0 ≤ length input
        → length (lines 0 (answers p records ++ (torn ⇒ torn_place ∷ [] ∥ []))) ≤ 212992
    go true few = torn_lines_fit (answers p records) (answers_bounded p records) (omega (arith, answers_length p records))
    go false few =
        rw append-nil (lines_fit (answers p records) (answers_bounded p records) (omega (arith, answers_length p records)))

-- The report is those from the founding.
pub report_fits : (input : Bytes) → length input ≤ 65536 → length (report input) ≤ 212992
unfolding report
report_fits input h = lines_from_fit initial input h

-- What the program prints fits into its buffer, whatever its input.
pub output_fits : (input : Bytes) → length (output input) ≤ 212992
unfolding output
output_fits input = go (ltb 65536 (length input)) refl
  where
    go : (long : Bool) → ltb 65536 (length input) ≡ long → length (long ⇒ too_long ∥ report input) ≤ 212992
    go true e = omega arith
    go false e = report_fits input (ltb-false 65536 (length input) e)

-- So what is printed into a buffer of that size is all of the text, and nothing is cut off.
pub printed_whole : (input buffer : Bytes) {buffer' : Bytes} {n : ℕ} → length buffer ≡ 212992 → Printed buffer (output input) buffer' n
    → take n buffer' ≡ output input
printed_whole input buffer e p = printed_all p (omega (arith, output_fits input))

pub printed_count : (input buffer : Bytes) {buffer' : Bytes} {n : ℕ} → length buffer ≡ 212992 → Printed buffer (output input) buffer' n
    → n ≡ length (output input)
printed_count input buffer e p = omega (arith, p.count, output_fits input)

-- An input of more than 65,536 bytes is too long, and so is every longer one that begins so.
pub output_past : (input : Bytes) → 65536 < length input → output input ≡ too_long
unfolding output
output_past input h = rw (lt-ltb 65536 (length input) h)

pub output_longer : (front rest : Bytes) → 65536 < length front → output (front ++ rest) ≡ output front
output_longer front rest h =
    output_past (front ++ rest) (omega (arith, length-append front rest, h)) ∙ sym (output_past front h)
