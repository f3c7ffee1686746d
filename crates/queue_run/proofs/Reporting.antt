-- What the loop of `report` keeps: the lines so far stand in the buffer, and those to come are of what the reader has left,
-- from the club on. Each record, and a torn place, moves one line over; at the end none is to come.
use Rattle.std.specs.Prelude.{Ok, Err}
use mathlib.Core.Path.{◌≡◌, refl, sym, ap, ◌∙◌}
use mathlib.Core.Bool.{Bool, true, false}
use mathlib.Core.List.{List, [], ◌∷◌, ◌++◌, append_assoc, append-nil}
use Prim.Native.Nat.{ℕ, ◌+◌, ◌≤◌, ◌<◌}
use native.Mathlib.Numerals.{add-one}
use lib.ListN.{length}
use borrow.Author.Tests.{lt-ltb, le-ltb}
use Rattle.reach.specs.Tests.{◌⇒◌∥◌}
use Rattle.frame.specs.declared.Torn as mark
use Rattle.frame.specs.Reading.{records_from, torn_from, Item, items_from}
use Rattle.frame.proofs.Giving.{Coming, coming_from, coming_record, coming_torn, coming_none}
use Rattle.text.specs.Text.{Bytes, line, Wrote, Printed}
use Rattle.text.proofs.Writing.{wrote_none, wrote_as, wrote_then, printed_of_wrote}
use Rattle.queue_run.specs.declared.club.Club.{Club}
use Rattle.queue_run.specs.declared.club.Told.{Told}
use Rattle.queue_run.specs.Program.{founding, told_of}
use Rattle.queue_run.specs.Output.{told_line, lines_of, lines_from, too_long, output}

-- ---- The lines of what is to come go by what comes first

lines_first : (c : Club) (i : ℕ) {records others : List Bytes} {r : Bytes} (torn : Bool) → records ≡ r ∷ others
    → lines_of c i records torn ≡ told_line i (told_of c r) ++ lines_of (told_of c r).club (i + 1) others torn
unfolding lines_of
lines_first c i torn e = rw (e, add-one)

lines_last : (c : Club) (i : ℕ) {records : List Bytes} {torn : Bool} (t : Bool) → records ≡ [] → torn ≡ t
    → lines_of c i records torn ≡ (t ⇒ line i 1 255 ∥ [])
unfolding lines_of
lines_last c i t e f = rw (e, f)

-- ---- The loop

module _ (b out₀ : Bytes) where
  pub record Reporting (out : Bytes) (c : Club) (items : List Item) (index n : ℕ) : Type 0 where
    pub records : List Bytes
    pub torn : Bool
    pub coming : Coming items records torn
    pub so_far : Bytes
    pub wrote : Wrote out₀ 0 so_far out n
    pub to_come : so_far ++ lines_of c index records torn ≡ lines_from founding 0 b 0

  pub reporting_start : {c : Club} {items : List Item} {index n : ℕ} → c ≡ founding → items ≡ items_from b 0 → index ≡ 0
      → n ≡ 0 → Reporting out₀ c items index n
  reporting_start e f g h = record {
    records = records_from b 0;
    torn = torn_from b 0;
    coming = rw f (coming_from b 0);
    so_far = [];
    wrote = rw h (wrote_none out₀ 0);
    to_come = rw (e, g);
  }

  module _ {out : Bytes} {c : Club} {items : List Item} {index n : ℕ} (s : Reporting out c items index n) where
    module _ {out' : Bytes} {items' : List Item} {index' r : ℕ} (next : index' ≡ index + 1) where
      pub reporting_record : {t : Told} {bytes : Bytes} → items ≡ Ok bytes ∷ items' → t ≡ told_of c bytes
          → Wrote out n (told_line index t) out' r → Reporting out' t.club items' index' r
      reporting_record {t} e told w =
          let taken = coming_record s.coming e in
          let lines : lines_of c index s.records s.torn ≡ told_line index t ++ lines_of t.club (index + 1) taken.others s.torn =
          rw told (lines_first c index s.torn taken.is_first) in
          record {
            records = taken.others;
            torn = s.torn;
            coming = taken.coming;
            so_far = s.so_far ++ told_line index t;
            wrote = wrote_then s.wrote w;
            to_come = rw (next, append_assoc) (ap (λ (l : Bytes). s.so_far ++ l) (sym lines) ∙ s.to_come);
          }

      pub reporting_torn : {m : mark.Torn} → items ≡ Err m ∷ items' → Wrote out n (line index 1 255) out' r
          → Reporting out' c items' index' r
      reporting_torn e w =
          let last = coming_torn s.coming e in
          let lines : lines_of c index s.records s.torn ≡ line index 1 255 = lines_last c index true last.none last.is_torn in
          let none : lines_of c index' [] false ≡ [] = lines_last c index' false refl refl in
          record {
            records = [];
            torn = false;
            coming = last.coming;
            so_far = s.so_far ++ line index 1 255;
            wrote = wrote_then s.wrote w;
            to_come = rw (none, append-nil) (ap (λ (l : Bytes). s.so_far ++ l) (sym lines) ∙ s.to_come);
          }

    pub reporting_end : items ≡ [] → Printed out₀ (lines_from founding 0 b 0) out n
    reporting_end e =
        let none = coming_none s.coming e in
        let lines : lines_of c index s.records s.torn ≡ [] = lines_last c index false none.0 none.1 in
        printed_of_wrote
        (wrote_as (sym (append-nil s.so_far) ∙ ap (λ (l : Bytes). s.so_far ++ l) (sym lines) ∙ s.to_come) s.wrote)

-- ---- The limit on the input

-- An input past the limit.
pub printed_too_long : (b : Bytes) {out out' : Bytes} {r : ℕ} → 65536 < length b → Printed out too_long out' r
    → Printed out (output b) out' r
unfolding output
printed_too_long b h w = rw (lt-ltb 65536 (length b) h) w

-- An input within it.
pub printed_report : (b : Bytes) {out out' : Bytes} {r : ℕ} → length b ≤ 65536 → Printed out (lines_from founding 0 b 0) out' r
    → Printed out (output b) out' r
unfolding output
printed_report b h q = rw (le-ltb 65536 (length b) h) q
