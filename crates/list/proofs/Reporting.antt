-- What the loop of `report_from` keeps: the lines so far stand in the buffer, and those to come are of the answers to what the reader has
-- left, from the current policy on. Each record, and a torn place, moves one answer over; at the end none is to come.
use Rattle.std.specs.Prelude.{Ok, Err}
use mathlib.Core.Path.{◌≡◌, refl, sym, ap, subst, ◌∙◌}
use mathlib.Core.Bool.{Bool, false}
use mathlib.Core.List.{List, [], ◌∷◌, ◌++◌, append_assoc, append-nil}
use Prim.Native.Nat.{ℕ, ◌+◌, ◌≤◌, ◌<◌}
use lib.ListN.{length, length-append}
use borrow.Author.Tests.{lt-ltb, le-ltb}
use Rattle.reach.specs.declared.Policy.{Policy}
use Rattle.reach.specs.Tests.{◌⇒◌∥◌}
use Rattle.reach.specs.Tables.{initial}
use Rattle.frame.specs.declared.Torn as mark
use Rattle.frame.specs.Reading.{records_from, torn_from, Item, items_from}
use Rattle.frame.proofs.Giving.{Coming, coming_from, coming_record, coming_torn, coming_none}
use Rattle.rules.specs.Judging.{judge, numbers_of, answers}
use Rattle.rules.proofs.Table.{answers_none, answers_next}
use Rattle.text.specs.Text.{Bytes, line, lines, torn_place, Wrote, Printed}
use Rattle.list.specs.declared.Reported.{Reported}
use Rattle.list.specs.Runs.{run}
use Rattle.list.specs.Report.{answers_from, report, output}
use Rattle.list.specs.Filling.{ReportInto}
use Rattle.text.proofs.Writing.{wrote_none, wrote_as, printed_of_wrote}
use Rattle.text.proofs.Printing.{lines_none, wrote_next_line}

-- The answers that are to come: those to records, and behind them, if the bytes are torn there, that of the torn place.
abbrev pub answers_of : Policy → List Bytes → Bool → List (ℕ × ℕ)
answers_of p records torn = answers p records ++ (torn ⇒ torn_place ∷ [] ∥ [])

-- They go by what comes first.
answers_first : (p : Policy) {records others : List Bytes} {r : Bytes} (torn : Bool) → records ≡ r ∷ others
    → answers_of p records torn ≡ numbers_of (judge p r).verdict ∷ answers_of (judge p r).policy others torn
answers_first p torn e = rw (e, answers_next)

answers_last : (p : Policy) {records : List Bytes} (torn : Bool) → records ≡ []
    → answers_of p records torn ≡ (torn ⇒ torn_place ∷ [] ∥ [])
answers_last p torn e = rw (e, answers_none)

module _ (first : Policy) (b out₀ : Bytes) where
  pub record Reporting (out : Bytes) (p : Policy) (items : List Item) (index n : ℕ) : Type 0 where
    pub records : List Bytes
    pub torn : Bool
    pub coming : Coming items records torn
    pub so_far : List (ℕ × ℕ)
    pub count : length so_far ≡ index
    pub wrote : Wrote out₀ 0 (lines 0 so_far) out n
    pub to_come : so_far ++ answers_of p records torn ≡ answers_from first b 0
    pub policy_to_come : run p records ≡ run first (records_from b 0)

  pub reporting_start : {items : List Item} {index n : ℕ} → items ≡ items_from b 0 → index ≡ 0 → n ≡ 0 → Reporting out₀ first items index n
  unfolding answers_from
  reporting_start e f g = record {
    records = records_from b 0;
    torn = torn_from b 0;
    coming = rw e (coming_from b 0);
    so_far = [];
    count = sym f;
    wrote = rw g (wrote_as (sym (lines_none 0)) (wrote_none out₀ 0));
    to_come = refl;
    policy_to_come = refl;
  }

  module _ {out : Bytes} {p : Policy} {items : List Item} {index n : ℕ} (s : Reporting out p items index n) where
    -- The next line, of any answer, follows those so far.
    next_line : {out' : Bytes} {r : ℕ} (code cited : ℕ) → Wrote out n (line index code cited) out' r
        → Wrote out₀ 0 (lines 0 (s.so_far ++ ((code, cited) ∷ []))) out' r
    next_line {out'} {r} code cited w =
        wrote_next_line s.so_far code cited s.wrote
        (subst (λ (k : ℕ). Wrote out n (line k code cited) out' r) (sym s.count) w)

    more : {index' : ℕ} (a : ℕ × ℕ) → index' ≡ index + 1 → length (s.so_far ++ (a ∷ [])) ≡ index'
    more a e = simp (length-append, s.count, e)

    module _ {out' : Bytes} {items' : List Item} {index' r : ℕ} (next : index' ≡ index + 1) where
      -- A record is answered, and the next one is judged on the policy of the answer.
      pub reporting_record : {p' : Policy} {a : ℕ × ℕ} {bytes : Bytes} → items ≡ Ok bytes ∷ items'
          → a ≡ numbers_of (judge p bytes).verdict → p' ≡ (judge p bytes).policy
          → Wrote out n (line index a.0 a.1) out' r → Reporting out' p' items' index' r
      unfolding run
      reporting_record {p'} {a} {bytes} e f g w =
          let taken = coming_record s.coming e in
          let told : answers_of p s.records s.torn ≡ a ∷ answers_of p' taken.others s.torn =
          rw (f, g) (answers_first p s.torn taken.is_first) in
          record {
            records = taken.others;
            torn = s.torn;
            coming = taken.coming;
            so_far = s.so_far ++ (a ∷ []);
            count = more a next;
            wrote = next_line a.0 a.1 w;
            to_come = rw append_assoc (ap (λ (l : List (ℕ × ℕ)). s.so_far ++ l) (sym told) ∙ s.to_come);
            policy_to_come = rw g (ap (run p) (sym taken.is_first) ∙ s.policy_to_come);
          }

      -- A torn place has its line, and nothing comes behind it.
      pub reporting_torn : {m : mark.Torn} → items ≡ Err m ∷ items'
          → Wrote out n (line index 1 255) out' r → Reporting out' p items' index' r
      reporting_torn e w =
          let last = coming_torn s.coming e in
          let told : answers_of p s.records s.torn ≡ torn_place ∷ answers_of p [] false =
          answers_last p s.torn last.none ∙ rw (last.is_torn, answers_none p) in
          record {
            records = [];
            torn = false;
            coming = last.coming;
            so_far = s.so_far ++ (torn_place ∷ []);
            count = more torn_place next;
            wrote = next_line 1 255 w;
            to_come = rw append_assoc (ap (λ (l : List (ℕ × ℕ)). s.so_far ++ l) (sym told) ∙ s.to_come);
            policy_to_come = ap (run p) (sym last.none) ∙ s.policy_to_come;
          }

    -- All that is written is the text, once nothing is to come.
    pub reporting_end : items ≡ [] → ReportInto first b out₀ out (record { written = n; policy = p })
    unfolding run
    reporting_end e =
        let none = coming_none s.coming e in
        let told : answers_of p s.records s.torn ≡ [] = answers_last p s.torn none.0 ∙ rw none.1 in
        let all : s.so_far ≡ answers_from first b 0 =
        sym (append-nil s.so_far) ∙ ap (λ (l : List (ℕ × ℕ)). s.so_far ++ l) (sym told) ∙ s.to_come in
        record {
          text = printed_of_wrote (wrote_as (ap (lines 0) all) s.wrote);
          policy = ap (run p) (sym none.0) ∙ s.policy_to_come;
        }

-- From the founding on it is the report.
pub printed_founding : {p : Policy} {b out out' : Bytes} {r : Reported} → p ≡ initial → ReportInto p b out out' r
    → Printed out (report b) out' r.written
unfolding report
printed_founding e k = rw e at k.text

-- ---- The limit on the input

-- "too long" and the byte behind it.
abbrev too_long_then : ℕ → Bytes
too_long_then end = 116 ∷ 111 ∷ 111 ∷ 32 ∷ 108 ∷ 111 ∷ 110 ∷ 103 ∷ end ∷ []

-- An input past the limit.
pub printed_too_long : (b : Bytes) {out out' : Bytes} {end r : ℕ} → 65536 < length b → Printed out (too_long_then end) out' r
    → end ≡ 10 → Printed out (output b) out' r
unfolding output
printed_too_long b h w e = rw (lt-ltb 65536 (length b) h) (rw e at w)

-- An input within it.
pub printed_report : (b : Bytes) {out out' : Bytes} {r : ℕ} → length b ≤ 65536 → Printed out (report b) out' r
    → Printed out (output b) out' r
unfolding output
printed_report b h q = rw (le-ltb 65536 (length b) h) q
