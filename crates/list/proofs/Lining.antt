-- A report has a line for each record, and one for a torn place: so it has as many line feeds, at most 28 bytes for each, and fewer line
-- feeds where it is cut off.
use mathlib.Core.Path.{◌≡◌, ◌∙◌}
use mathlib.Core.Bool.{Bool, true, false, cond}
use mathlib.Core.List.{[], ◌∷◌, ◌++◌, append-nil}
use Prim.Native.Nat.{ℕ, ◌+◌, ◌*◌, ◌^◌, ◌≤◌, ◌<◌}
use native.Mathlib.Omega.{arith}
use lib.ListN.{length, take, length-append}
use Rattle.reach.specs.declared.Policy.{Policy}
use Rattle.reach.specs.Tests.{◌⇒◌∥◌}
use Rattle.reach.specs.Tables.{initial}
use Rattle.frame.specs.Reading.{records_from, torn_from, steps_of}
use Rattle.frame.proofs.Giving.{steps_few}
use Rattle.rules.specs.Judging.{answers}
use Rattle.text.specs.Text.{Bytes, torn_place, feeds, Printed}
use Rattle.text.proofs.Lengths.{Bounded, bounded_torn, lines_length_any}
use Rattle.text.proofs.Feeds.{lines_feeds, lines_cut, printed_part}
use Rattle.list.specs.Report.{answers_from, report}
use Rattle.list.proofs.Room.{answers_bounded, answers_length}

module _ (p : Policy) (input : Bytes) where
  -- An answer for each record, and behind them one for a torn place.
  pub answers_count : length (answers_from p input 0) ≡ steps_of input
  unfolding answers_from
  answers_count = go (torn_from input 0)
    where
      go : (torn : Bool)
          → length (answers p (records_from input 0) ++ (torn ⇒ torn_place ∷ [] ∥ [])) ≡ length (records_from input 0) + cond torn 1 0
      go true = simp (length-append, answers_length p (records_from input 0))
      go false = simp (length-append, answers_length p (records_from input 0))

  -- Each with numbers of at most two and three digits.
  answers_within : Bounded (answers_from p input 0)
  unfolding answers_from
  answers_within = go (torn_from input 0)
    where
      go : (torn : Bool) → Bounded (answers p (records_from input 0) ++ (torn ⇒ torn_place ∷ [] ∥ []))
      go true = bounded_torn (answers p (records_from input 0)) (answers_bounded p (records_from input 0))
      go false = rw append-nil (answers_bounded p (records_from input 0))

module _ (input : Bytes) where
  -- 28 bytes for each line are room enough.
  pub report_room : length input < 2 ^ 64 → length (report input) ≤ 28 * steps_of input
  unfolding report
  report_room h =
      let count = answers_count initial input in
      let few : length (answers_from initial input 0) < 2 ^ 64 = omega (arith, count, steps_few input) in
      omega (arith, count, lines_length_any (answers_from initial input 0) (answers_within initial input) few)

  -- A line feed for each.
  pub report_feeds : feeds (report input) ≡ steps_of input
  unfolding report
  report_feeds = lines_feeds 0 (answers_from initial input 0) ∙ answers_count initial input

  -- And fewer where the report is cut off.
  part_feeds : (n : ℕ) → n < length (report input) → feeds (take n (report input)) < steps_of input
  unfolding report
  part_feeds n h = omega (arith, answers_count initial input, lines_cut n 0 (answers_from initial input 0) h)

  pub report_cut : {buffer buffer' : Bytes} {n : ℕ} → Printed buffer (report input) buffer' n → n < length (report input)
      → feeds (take n buffer') < steps_of input
  report_cut {n = n} printed short = rw (printed_part printed short) (part_feeds n short)
