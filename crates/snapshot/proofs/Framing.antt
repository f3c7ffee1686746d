-- Who reads a file as requests are read finds its records one after the other, and no torn place: the length field of each says how long it is. By
-- induction on the places that are left, with what stands before them fixed.
use mathlib.Core.Path.{◌≡◌, refl, sym, ap, ap₂, ◌∙◌}
use mathlib.Core.Bool.{true, false, false≢true}
use mathlib.Core.Logic.{inl, inr}
use mathlib.Core.List.{List, [], ◌∷◌, ◌++◌, append_assoc, append-nil}
use Prim.Native.Nat.{ℕ, zero, suc, ◌+◌}
use native.Mathlib.Omega.{arith}
use lib.Dec.{leb, ltb}
use lib.ListN.{length, take, drop, length-append}
use lib.Seq.{drop_at, take-append-le, take_all}
use borrow.Author.Tests.{lt-leb, le-ltb}
use Rattle.std.specs.Prelude.{Option, Some, None}
use Rattle.frame.specs.Reading.{Record, End}
use Rattle.frame.specs.Fields.{length_field}
use Rattle.frame.specs.Reading.{step_at, record_bytes, records_from, torn_from}
use Rattle.frame.proofs.Steps.{end_step}
use Rattle.frame.proofs.Records.{records_of_record, torn_of_record, records_of_end, torn_of_end}
use Rattle.reach.specs.Tables.{View}
use Rattle.text.specs.Text.{Bytes}
use Rattle.snapshot.specs.declared.Entry.{Entry}
use Rattle.snapshot.specs.declared.Entry.TheVariants.{Object, Membership, Appointed, Granted}
use Rattle.snapshot.specs.Card.{bytes_of, record_of, from, EveryFileFramed}
use Rattle.snapshot.specs.Loading.{places, entry, valid, size_of}
use Rattle.snapshot.proofs.Records.{size_is, size_large}
use Rattle.snapshot.proofs.Runs.{from_next, from_end}
use Rattle.snapshot.proofs.Places.{Fits, entry_fits, each, in_order_is, file_is}

field_is : (e : Option Entry) (rest : Bytes) → valid e ≡ true → length_field (bytes_of e ++ rest) ≡ size_of e
field_is (Some (Object x s)) rest v = refl
field_is (Some (Membership x g)) rest v = refl
field_is (Some (Appointed i k h a b)) rest v = refl
field_is (Some (Granted i u t o)) rest v = refl
field_is None rest v = absurd (false≢true v)

record_is : (e : Option Entry) → valid e ≡ true → record_of e ≡ bytes_of e ∷ []
record_is (Some e) v = refl
record_is None v = absurd (false≢true v)

-- Behind the bytes that stand before it, a record is found where it stands.
step_here : (before : Bytes) (e : Option Entry) (rest : Bytes) → valid e ≡ true
    → step_at (before ++ (bytes_of e ++ rest)) (length before) ≡ Record (length before) (size_of e) (length before + size_of e)
unfolding step_at
step_here before e rest v =
    let d : drop (length before) (before ++ (bytes_of e ++ rest)) ≡ bytes_of e ++ rest = drop_at before (bytes_of e ++ rest) (length before) refl in
    let six = size_large e v in
    let n : length (bytes_of e ++ rest) ≡ size_of e + length rest = length-append (bytes_of e) rest ∙ ap (λ (m : ℕ). m + length rest) (size_is e) in
    let long : leb (length (before ++ (bytes_of e ++ rest))) (length before) ≡ false =
    lt-leb (length (before ++ (bytes_of e ++ rest))) (length before) (omega (arith, n, length-append before (bytes_of e ++ rest))) in
    let whole : ltb (length (bytes_of e ++ rest)) 4 ≡ false = le-ltb (length (bytes_of e ++ rest)) 4 (omega (arith, n)) in
    let own : ltb (size_of e) 4 ≡ false = le-ltb (size_of e) 4 (omega arith) in
    let fits : ltb (length (bytes_of e ++ rest)) (size_of e) ≡ false = le-ltb (length (bytes_of e ++ rest)) (size_of e) (omega (arith, n)) in
    rw (d, long, field_is e rest v, whole, own, fits)

bytes_here : (before : Bytes) (e : Option Entry) (rest : Bytes) → record_bytes (before ++ (bytes_of e ++ rest)) (length before) (size_of e) ≡ bytes_of e
bytes_here before e rest =
    ap (take (size_of e)) (drop_at before (bytes_of e ++ rest) (length before) refl)
    ∙ take-append-le (size_of e) (bytes_of e) rest (omega (arith, size_is e))
    ∙ take_all (size_of e) (bytes_of e) (omega (arith, size_is e))

-- What is found from there on.
record Found (b : Bytes) (at : ℕ) (list : List Bytes) : Type 0 where
  records : records_from b at ≡ list
  whole : torn_from b at ≡ false

found_end : (before : Bytes) → Found (before ++ []) (length before) []
found_end before =
    let e : step_at (before ++ []) (length before) ≡ End =
    end_step (before ++ []) (length before) (omega (arith, ap length (append-nil before))) in
    record { records = records_of_end (before ++ []) (length before) e; whole = torn_of_end (before ++ []) (length before) e }

found_record : (before : Bytes) (e : Option Entry) (rest : Bytes) (list : List Bytes) → valid e ≡ true
    → Found ((before ++ bytes_of e) ++ rest) (length (before ++ bytes_of e)) list
    → Found (before ++ (bytes_of e ++ rest)) (length before) (record_of e ++ list)
found_record before e rest list v more =
    let b : Bytes = before ++ (bytes_of e ++ rest) in
    let same : (before ++ bytes_of e) ++ rest ≡ b = append_assoc before (bytes_of e) rest in
    let next : length (before ++ bytes_of e) ≡ length before + size_of e = length-append before (bytes_of e) ∙ ap (λ (m : ℕ). length before + m) (size_is e) in
    let s = step_here before e rest v in
    record {
      records =
          records_of_record b (length before) _ _ _ s
          ∙ ap₂ (λ (h : Bytes) (t : List Bytes). h ∷ t) (bytes_here before e rest)
          (ap₂ records_from (sym same) (sym next) ∙ more.records)
          ∙ ap (λ (l : List Bytes). l ++ list) (sym (record_is e v));
      whole = torn_of_record b (length before) _ _ _ s ∙ ap₂ torn_from (sym same) (sym next) ∙ more.whole;
    }

module _ (v : View) where
  -- An empty place, which gives nothing, and a record.
  found_place : (before : Bytes) (k : ℕ) (e : Option Entry) (rest : Bytes) (list : List Bytes) → Fits k e
      → Found ((before ++ bytes_of e) ++ rest) (length (before ++ bytes_of e)) list
      → Found (before ++ (bytes_of e ++ rest)) (length before) (record_of e ++ list)
  found_place before k e rest list (inl x) more =
      rw x (rw (x, append-nil before) at more)
  found_place before k e rest list (inr x) more = found_record before e rest list x.0 more

  found_from : (l n : ℕ) (before : Bytes) → n + l ≡ places
      → Found (before ++ from l n (each bytes_of v)) (length before) (from l n (each record_of v))
  found_from zero n before q =
      rw (from_end n (each bytes_of v), from_end n (each record_of v)) (found_end before)
  found_from (suc l) n before q =
      rw (from_next l n (each bytes_of v), from_next l n (each record_of v))
      (found_place before n (entry v n) _ _ (entry_fits v n (omega arith)) (found_from l (suc n) (before ++ bytes_of (entry v n)) (omega arith)))

pub framed : EveryFileFramed
framed v =
    let f : Found (from places 0 (each bytes_of v)) 0 (from places 0 (each record_of v)) = found_from v places 0 [] (omega arith) in
    record {
      records = ap (λ (b : Bytes). records_from b 0) (sym (file_is v)) ∙ f.records ∙ in_order_is record_of v;
      whole = ap (λ (b : Bytes). torn_from b 0) (sym (file_is v)) ∙ f.whole;
    }
