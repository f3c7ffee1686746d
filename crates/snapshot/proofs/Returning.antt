-- The file of any policy, read back, gives each place as it was. By induction on the places in the order of the file: an empty one has no
-- record, and the record of another is the next one to be read.
use mathlib.Core.Path.{◌≡◌, refl, sym, ap, ◌∙◌, subst}
use mathlib.Core.Bool.{true, false}
use mathlib.Core.Logic.{inl, inr}
use mathlib.Core.List.{[], ◌++◌}
use Prim.Native.Nat.{ℕ, zero, suc, ◌+◌, ◌≤◌, ◌<◌}
use native.Mathlib.Nat.{le_refl, not-suc-le-zero}
use native.Mathlib.Decide.{dec_le}
use native.Mathlib.Omega.{arith}
use lib.Dec.{eqb}
use lib.ListN.{length, drop, length-append}
use lib.Seq.{drop_at}
use borrow.Author.Tests.{ne_eqb, le-leb}
use Rattle.std.specs.Prelude.{Option, None, Result, Ok}
use Rattle.reach.specs.declared.Policy.{Policy}
use Rattle.reach.specs.Tables.{View, view, Sized}
use Rattle.text.specs.Text.{Bytes}
use Rattle.snapshot.specs.declared.Entry.{Entry}
use Rattle.snapshot.specs.declared.CardError.{CardError}
use Rattle.snapshot.specs.Card.{bytes_of, from, file_of}
use Rattle.snapshot.specs.Loading.{places, number_of, entry, valid, size_of, store, blank, load}
use Rattle.snapshot.proofs.Records.{size_is, size_large, front_back}
use Rattle.snapshot.proofs.Runs.{from_next, from_end}
use Rattle.snapshot.proofs.Places.{Fits, entry_fits, each, file_is}
use Rattle.snapshot.proofs.Storing.{store_sized, stored_same, stored_other}
use Rattle.snapshot.proofs.Blank.{blank_sized, blank_none, Inside, blank_inside, store_inside}
use Rattle.snapshot.proofs.Taking.{Open}

-- A policy was read whose places are those of the view.
pub record Back (v : View) (r : Result Policy CardError) : Type 0 where
  pub read : Policy
  pub sized : Sized read
  pub inside : Inside (view read)
  pub entries : (k : ℕ) → k < places → entry (view read) k ≡ entry v k
  pub is : r ≡ Ok read

-- ---- One record

load_end : (i : ℕ) (p : Policy) (n : ℕ) → load i p n [] ≡ Ok p
unfolding load
load_end zero p n = refl
load_end (suc i) p n = refl

load_next : (i : ℕ) (p : Policy) (n : ℕ) (e : Option Entry) (rest : Bytes) → valid e ≡ true → n ≤ number_of e
    → load (suc i) p n (bytes_of e ++ rest) ≡ load i (store p e) (suc (number_of e)) rest
unfolding load
load_next i p n e rest v h =
    let d : drop (size_of e) (bytes_of e ++ rest) ≡ rest = drop_at (bytes_of e) rest (size_of e) (size_is e) in
    let q : eqb (length (bytes_of e ++ rest)) 0 ≡ false =
    ne_eqb (length (bytes_of e ++ rest)) 0 (λ z. omega (arith, size_large e v, size_is e, length-append (bytes_of e) rest)) in
    rw (q, front_back e rest v, v, le-leb n (number_of e) h, d)

-- ---- Place by place

-- p has what v has below n, and nothing from there on.
record Upto (p : Policy) (v : View) (n : ℕ) : Type 0 where
  sized : Sized p
  inside : Inside (view p)
  after : Open p n
  below : (k : ℕ) → k < n → entry (view p) k ≡ entry v k

below_next : (p : Policy) (v : View) (n : ℕ) → ((k : ℕ) → k < n → entry (view p) k ≡ entry v k) → entry (view p) n ≡ entry v n
    → (k : ℕ) → k < suc n → entry (view p) k ≡ entry v k
below_next p v n a x k c = by (dec_le (suc k) n)
  where
    by : Dec (k < n) → entry (view p) k ≡ entry v k
    by (yes d) = a k d
    by (no d) = let e : k ≡ n = omega arith in rw e x

upto_skip : (p : Policy) (v : View) (n : ℕ) → n < places → Upto p v n → entry v n ≡ None → Upto p v (suc n)
upto_skip p v n l u x =
    record {
      sized = u.sized;
      inside = u.inside;
      after = λ k c d. u.after k (omega arith) d;
      below = below_next p v n u.below (u.after n (le_refl n) l ∙ sym x);
    }

upto_store : (p : Policy) (v : View) (n : ℕ) (e : Option Entry) → Upto p v n → entry v n ≡ e → valid e ≡ true → number_of e ≡ n
    → Upto (store p e) v (suc n)
upto_store p v n e u x f w =
    record {
      sized = store_sized p e u.sized;
      inside = store_inside p e u.sized f u.inside;
      after = λ k c d. stored_other p e u.sized f k (λ q. omega arith) ∙ u.after k (omega arith) d;
      below =
          below_next (store p e) v n
          (λ k d. stored_other p e u.sized f k (λ q. omega arith) ∙ u.below k d)
          (ap (entry (view (store p e))) (sym w) ∙ stored_same p e u.sized f ∙ sym x);
    }

module _ (v : View) where
  -- The places from n on are read back, whatever was read before them, and however many more records may come.
  abbrev Backs : ℕ → Bytes → Type 0
  Backs n b = (i m : ℕ) (p : Policy) → m ≤ n → length b ≤ i → Upto p v n → Back v (load i p m b)

  back_place : (n : ℕ) (e : Option Entry) (rest : Bytes) → entry v n ≡ e → Fits n e → n < places → Backs (suc n) rest → Backs n (bytes_of e ++ rest)
  back_place n e rest g (inl x) l more i m p h b u = rw x (more i m p (omega arith) (rw x at b) (upto_skip p v n l u (g ∙ x)))
  back_place n e rest g (inr x) l more zero m p h b u =
      absurd (omega (arith, size_large e x.0, size_is e, length-append (bytes_of e) rest))
  back_place n e rest g (inr x) l more (suc j) m p h b u =
      rw (load_next j p m e rest x.0 (omega (arith, x.1)))
      (more j (suc (number_of e)) (store p e) (omega (arith, x.1))
      (omega (arith, size_large e x.0, size_is e, length-append (bytes_of e) rest))
      (upto_store p v n e u g x.0 x.1))

  back_end : (n : ℕ) → n + 0 ≡ places → Backs n (from 0 n (each bytes_of v))
  back_end n q i m p h b u =
      record {
        read = p;
        sized = u.sized;
        inside = u.inside;
        entries = λ k c. u.below k (omega arith);
        is = rw (from_end n (each bytes_of v)) (load_end i p m);
      }

  back_suc : (l n : ℕ) → n + suc l ≡ places → Backs (suc n) (from l (suc n) (each bytes_of v)) → Backs n (from (suc l) n (each bytes_of v))
  back_suc l n q more =
      rw (from_next l n (each bytes_of v))
      (back_place n (entry v n) (from l (suc n) (each bytes_of v)) refl (entry_fits v n (omega arith)) (omega arith) more)

  on_one : (n l : ℕ) → n + suc l ≡ places → suc n + l ≡ places
  on_one n l q = omega arith

  back : (l n : ℕ) → n + l ≡ places → Backs n (from l n (each bytes_of v))
  back zero n q = back_end n q
  back (suc l) n q = back_suc l n q (back l (suc n) (on_one n l q))

  back_all : Back v (load (length (from places 0 (each bytes_of v))) blank 0 (from places 0 (each bytes_of v)))
  back_all =
      back places 0 (omega arith) (length (from places 0 (each bytes_of v))) 0 blank (le_refl 0) (le_refl _)
      (record { sized = blank_sized; inside = blank_inside; after = λ k c d. blank_none k; below = λ k c. absurd (not-suc-le-zero c) })

  pub load_back : Back v (load (length (file_of v)) blank 0 (file_of v))
  load_back = subst (λ (b : Bytes). Back v (load (length b) blank 0 b)) (file_is v) back_all
