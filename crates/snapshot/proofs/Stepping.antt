-- The loop of the reader: what is left to read, from the policy so far and the next number on, comes to what the whole card comes to. Each record
-- that is stored takes one step of `load`.
use mathlib.Core.Path.{◌≡◌, refl, sym, ap, ◌∙◌}
use mathlib.Core.Bool.{true, false, ◌&&◌}
use mathlib.Core.Logic.{◌≢◌}
use mathlib.Core.List.{◌++◌}
use Prim.Native.Nat.{ℕ, zero, suc, ◌+◌, ◌-◌, ◌≤◌, ◌<◌}
use native.Mathlib.Nat.{le_refl}
use native.Mathlib.Numerals.{add-one}
use native.Mathlib.Omega.{arith}
use lib.Dec.{leb, ltb}
use lib.ListN.{length, drop, length-drop, length-append}
use borrow.Author.Tests.{eq-eqb, ne_eqb, le-leb, lt-leb, ltb-true}
use Rattle.std.specs.Prelude.{Option, Some, None, Result, Ok, Err}
use Rattle.std.specs.Option.{ok_or}
use Rattle.std.specs.Result.{IsErrAnd}
use Rattle.reach.specs.declared.Policy.{Policy}
use Rattle.reach.specs.Tests.{◌⇒◌∥◌}
use Rattle.text.specs.Text.{Bytes}
use Rattle.snapshot.specs.declared.Entry.{Entry}
use Rattle.snapshot.specs.declared.CardError.{CardError}
use Rattle.snapshot.specs.declared.CardError.TheVariants.{Damaged}
use Rattle.snapshot.specs.declared.Entry.TheVariants.{Membership, Appointed, Granted}
use Rattle.snapshot.specs.Card.{known, bytes_of}
use Rattle.snapshot.specs.Loading.{places, number_of, front, valid, size_of, store, blank, load}
use Rattle.snapshot.proofs.Records.{and_both, and_off, size_is, size_large, front_whole, number_low}

-- ---- One step of `load`

load_more : (p : Policy) (l n : ℕ) (c : Bytes) → length c ≢ 0
    → load (suc l) p n c
    ≡ (valid (front c) && leb n (number_of (front c)) ⇒
    load l (store p (front c)) (suc (number_of (front c))) (drop (size_of (front c)) c) ∥ Err Damaged)
unfolding load
load_more p l n c h = rw (ne_eqb (length c) 0 h)

load_done : (p : Policy) (l n : ℕ) (c : Bytes) → length c ≡ 0 → load l p n c ≡ Ok p
unfolding load
load_done p zero n c h = rw (eq-eqb (length c) 0 h)
load_done p (suc l) n c h = rw (eq-eqb (length c) 0 h)

-- What `ok_or` makes of the record at the front.
pub front_of_ok : (b : Bytes) {f : Option Entry} {o : Result Entry CardError} {e : Entry} → f ≡ front b → o ≡ ok_or f Damaged → o ≡ Ok e
    → front b ≡ Some e
front_of_ok b {f = None} q r s = clash (sym r ∙ s)
  where
    clash : {A : Type 0} {x : CardError} {e : Entry} → ◌≡◌ {A = Result Entry CardError} (Err x) (Ok e) → A
    clash c = absurd cc
front_of_ok b {f = Some a} q r s = sym q ∙ same (sym r ∙ s)
  where
    same : {a e : Entry} → ◌≡◌ {A = Result Entry CardError} (Ok a) (Ok e) → ◌≡◌ {A = Option Entry} (Some a) (Some e)
    same c = cc

pub front_of_err : (b : Bytes) {f : Option Entry} {o : Result Entry CardError} {x : CardError} → f ≡ front b → o ≡ ok_or f Damaged → o ≡ Err x
    → (front b ≡ None) × (x ≡ Damaged)
front_of_err b {f = None} q r s = (sym q, same (sym r ∙ s))
  where
    same : {x y : CardError} → ◌≡◌ {A = Result Entry CardError} (Err x) (Err y) → y ≡ x
    same c = cc
front_of_err b {f = Some a} q r s = clash (sym r ∙ s)
  where
    clash : {A : Type 0} {x : CardError} {e : Entry} → ◌≡◌ {A = Result Entry CardError} (Ok e) (Err x) → A
    clash c = absurd cc

-- An error that went through a `?`.
pub err_given : {A : Type 0} (r : Result A CardError) {x : CardError} → IsErrAnd r (λ e. e ≡ x) → r ≡ Err x
err_given (Ok a) h = absurd h
err_given (Err e) h = ap (λ (y : CardError). Err y) h

pub number_small : (e : Option Entry) → valid e ≡ true → number_of e < 4256
unfolding places
number_small e v = number_low e v

-- ---- The loop

-- Where the reader is: the bytes that are left, read into the policy p with n as the least number, come to what the whole card comes to.
pub record PartRead (b : Bytes) (p : Policy) (n : ℕ) (rest : Bytes) : Type 0 where
  pub within : length rest ≤ length b
  pub left : ℕ
  pub enough : length rest ≤ left
  pub whole : load left p n rest ≡ load (length b) blank 0 b

-- It starts with the same in every place of a table: zeros.
pub loading_start : (b : Bytes) → PartRead b blank 0 b
loading_start b = record { within = le_refl _; left = length b; enough = le_refl _; whole = refl }

module _ {b : Bytes} {p : Policy} {n : ℕ} {rest : Bytes} (w : PartRead b p n rest) where
  pub loading_end : length rest ≡ 0 → Ok p ≡ load (length b) blank 0 b
  loading_end l = sym (load_done p w.left n rest l) ∙ w.whole

  module _ (some : length rest ≢ 0) where
    step : (l : ℕ) → l ≡ w.left
        → (valid (front rest) && leb n (number_of (front rest)) ⇒
        load (l - 1) (store p (front rest)) (suc (number_of (front rest))) (drop (size_of (front rest)) rest) ∥ Err Damaged)
        ≡ load (length b) blank 0 b
    step zero q = absurd (some (omega (arith, w.enough)))
    step (suc l) q =
        let one : suc l - 1 ≡ l = omega arith in
        rw one (sym (load_more p l n rest some) ∙ ap (λ (i : ℕ). load i p n rest) q ∙ w.whole)

    -- Where no record stands, or one that has no place or does not rise.
    pub loading_none : front rest ≡ None → Err Damaged ≡ load (length b) blank 0 b
    loading_none e = rw e at (step w.left refl)

    module _ {e : Entry} (here : front rest ≡ Some e) where
      pub loading_unfit : valid (Some e) ≡ false → Err Damaged ≡ load (length b) blank 0 b
      loading_unfit v = rw (here, v) at (step w.left refl)

      pub loading_fallen : number_of (Some e) < n → Err Damaged ≡ load (length b) blank 0 b
      loading_fallen l = rw (here, lt-leb n (number_of (Some e)) l, and_off) at (step w.left refl)

      -- One that is stored: its bytes are all there.
      pub record_inside : valid (Some e) ≡ true → (size_of (Some e) ≤ length rest) × (1 ≤ size_of (Some e))
      record_inside v =
          let f : valid (front rest) ≡ true = rw here v in
          let g : rest ≡ bytes_of (Some e) ++ drop (size_of (Some e)) rest = rw here at (front_whole rest f) in (
            omega (arith, ap length g, length-append (bytes_of (Some e)) (drop (size_of (Some e)) rest), size_is (Some e)),
            omega (arith, size_large (Some e) v),
          )

      pub loading_next : (next : ℕ) (t : Policy) (more : Bytes) → valid (Some e) ≡ true → n ≤ number_of (Some e)
          → next ≡ number_of (Some e) + 1 → more ≡ drop (size_of (Some e)) rest → t ≡ store p (Some e) → PartRead b t next more
      loading_next next t more v l q x z =
          record {
            within = omega (arith, w.within, length-drop (size_of (Some e)) rest, ap length x);
            left = w.left - 1;
            enough = omega (arith, w.enough, record_inside v, length-drop (size_of (Some e)) rest, ap length x);
            whole = rw (x, q, add-one, z) (rw (here, v, le-leb n (number_of (Some e)) l) at (step w.left refl));
          }

-- ---- A record in its table

-- Its place is on the table.
pub membership_low : {e : Entry} {x g : ℕ} → e ≡ Membership x g → valid (Some e) ≡ true → (x < 64) × (g < 64)
membership_low {e} {x} {g} q h =
    let w = and_both (ltb x 64) (ltb g 64) (rw q at h) in (ltb-true x 64 w.0, ltb-true g 64 w.1)

pub appointed_low : {e : Entry} {i k h a b : ℕ} → e ≡ Appointed i k h a b → valid (Some e) ≡ true → i < 32
appointed_low {e} {i} {k} q v = ltb-true i 32 (and_both (ltb i 32) (known k) (rw q at v)).0

pub granted_low : {e : Entry} {i u t o : ℕ} → e ≡ Granted i u t o → valid (Some e) ≡ true → i < 64
granted_low {e} {i} q v = ltb-true i 64 (rw q at v)
