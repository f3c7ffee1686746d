-- What is saved. The writer can only say that it is done: every policy that a list leaves from the founding is sound, and the buffer has room
-- for the file of every sound policy.
use mathlib.Core.Path.{◌≡◌, refl, sym, ap, subst, ◌∙◌}
use mathlib.Core.Bool.{Bool, true, false}
use Prim.Native.Nat.{ℕ, ◌≤◌, ◌<◌}
use native.Mathlib.Omega.{arith}
use lib.ListN.{length, drop, length-append}
use lib.Seq.{take-append_seam}
use Rattle.frame.specs.Reading.{records_from}
use Rattle.text.specs.Text.{Bytes, Printed}
use Rattle.text.proofs.Decimals.{decimal_length}
use Rattle.reach.specs.declared.Policy.{Policy}
use Rattle.reach.specs.Tables.{view, initial}
use Rattle.list.specs.Runs.{run}
use Rattle.list.specs.Report.{too_long}
use Rattle.list.specs.Filling.{over}
use Rattle.list.proofs.Demanded.{third}
use Rattle.soundness.specs.Soundness.{Sound}
use Rattle.soundness.proofs.Keeping.{from_founding}
use Rattle.std.specs.Prelude.{Option, Some, None, Result, Ok}
use Rattle.std.specs.Result.{result_ok}
use Rattle.snapshot.specs.declared.CardError.{CardError}
use Rattle.snapshot.specs.Card.{file_of}
use Rattle.snapshot.specs.Answers.{code_of, length_of, Writes}
use Rattle.snapshot.proofs.Largest.{largest_file}
use Rattle.card.specs.declared.Saved.{Saved}
use Rattle.card.specs.Program.{is_long, Shows, card_of, saved_line, Saves}
use Rattle.card.proofs.Showing.{long_input, not_long, shows_of_printed}

-- The line of a card has at most 8 bytes.
line_fits : (n : ℕ) → n ≤ 25376 → length (saved_line 0 n) ≤ 8
line_fits n h = simp length-append (omega (arith, decimal_length 0 0 (omega arith), decimal_length 4 n (omega arith)))

-- An input that is too long.
pub saves_long : (input : Bytes) {card line line' : Bytes} {n : ℕ} → 65536 < length input → length line ≡ 16 → Printed line too_long line' n
    → Saves input card card line' (record { card = None; printed = n })
saves_long input h room w =
    let long = long_input input h in
    record {
      file = rw long;
      on_card = rw long;
      line = rw long (shows_of_printed w (omega (arith, room)));
      demand = third (records_from input 0);
    }

-- What the writer does with a sound policy, in a buffer that has room for each of them.
written_done : {p : Policy} {card card' : Bytes} {w : Result ℕ CardError} → Sound (view p) → length card ≡ 25376 → Writes p card card' w
    → (w ≡ Ok (length (file_of (view p)))) × (card' ≡ over (file_of (view p)) card)
written_done s room (Writes.done t fits is bytes) = (is, bytes)
written_done s room (Writes.damaged n is bytes) = absurd (n s)
written_done {p} s room (Writes.short t few is bytes) = absurd (omega (arith, largest_file (view p) s, few, room))

-- Any other input.
pub saves_done : (input : Bytes) {p : Policy} {card card' line line' : Bytes} {w : Result ℕ CardError} {o : Option ℕ} {n : ℕ}
    → length input ≤ 65536 → p ≡ run initial (records_from input 0) → length card ≡ 25376 → Writes p card card' w → o ≡ result_ok w
    → length line ≡ 16 → Printed line (saved_line (code_of w) (length_of w)) line' n
    → Saves input card card' line' (record { card = o; printed = n })
saves_done input {p} {card} {card'} {line} {line'} {w} {o} {n} h is room writes given long printed =
    let short = not_long input h in
    let sound : Sound (view p) = subst (λ (q : Policy). Sound (view q)) (sym is) (from_founding (records_from input 0)) in
    let done = written_done sound room writes in
    let file : file_of (view p) ≡ card_of input = ap (λ (q : Policy). file_of (view q)) is in
    let told : w ≡ Ok (length (card_of input)) = rw file at done.0 in
    let small = subst (λ (q : Policy). length (file_of (view q)) ≤ 25376) is (largest_file (view p) sound) in
    let said : Printed line (saved_line 0 (length (card_of input))) line' n = rw told at printed in
    record {
      file = rw short (rw told at given);
      on_card = rw short (done.1 ∙ ap (λ (f : Bytes). over f card) file);
      line = rw short (shows_of_printed said (omega (arith, long, line_fits (length (card_of input)) small)));
      demand = third (records_from input 0);
    }

-- The card lies in its buffer, from the start on.
pub card_shows : {input card card' line' : Bytes} {r : Saved} {n : ℕ} → Saves input card card' line' r → r.card ≡ Some n
    → Shows card' n (card_of input)
card_shows {input} {card} {card'} {line'} {r} {n} s some = go (is_long input) refl
  where
    none : ◌≡◌ {A = Option ℕ} None (Some n) → Shows card' n (card_of input)
    none e = absurd cc

    same : {m : ℕ} → ◌≡◌ {A = Option ℕ} (Some m) (Some n) → n ≡ m
    same e = cc

    go : (long : Bool) → is_long input ≡ long → Shows card' n (card_of input)
    go true e = none (rw e at (sym s.file ∙ some))
    go false e =
        let bytes : card' ≡ over (card_of input) card = rw e at s.on_card in
        let told : n ≡ length (card_of input) = same (rw e at (sym s.file ∙ some)) in
        record {
          count = told;
          bytes = rw (bytes, told) (take-append_seam (card_of input) (drop (length (card_of input)) card));
        }
