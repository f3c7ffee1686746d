-- A record that is written is read back, and what is read was written so. By the cases of a record: its two fields in front say the length and
-- the kind, and each kind has its own.
use mathlib.Core.Path.{◌≡◌, refl, sym, ap, ◌∙◌}
use mathlib.Core.Bool.{Bool, true, false, ◌&&◌, false≢true}
use mathlib.Core.List.{◌∷◌, ◌++◌}
use Prim.Native.Nat.{ℕ, zero, suc, ◌+◌, ◌≤◌, ◌<◌}
use native.Mathlib.Omega.{arith}
use lib.Dec.{eqb, leb, ltb}
use lib.ListN.{length, drop}
use lib.Seq.{drop-cons}
use borrow.Author.Tests.{eq-eqb, eqb-true, ltb-true, leb-true, le-leb}
use Rattle.std.specs.Prelude.{Option, Some, None}
use Rattle.std.specs.Bool.{then_some}
use Rattle.frame.specs.Fields.{byte, length_field, kind_field}
use Rattle.reach.specs.Tests.{◌⇒◌∥◌}
use Rattle.reach.specs.Tables.{counted}
use Rattle.text.specs.Text.{Bytes}
use Rattle.snapshot.specs.declared.Entry.{Entry}
use Rattle.snapshot.specs.declared.Entry.TheVariants.{Object, Membership, Appointed, Granted}
use Rattle.snapshot.specs.Card.{known, bytes_of}
use Rattle.snapshot.specs.Loading.{places, number_of, headed, front, valid, size_of}

pub and_both : (a b : Bool) → (a && b) ≡ true → (a ≡ true) × (b ≡ true)
and_both true true e = (refl, refl)
and_both true false e = absurd (false≢true e)
and_both false b e = absurd (false≢true e)

-- ---- Sizes

pub size_is : (e : Option Entry) → length (bytes_of e) ≡ size_of e
size_is (Some (Object x s)) = refl
size_is (Some (Membership x g)) = refl
size_is (Some (Appointed i k h a b)) = refl
size_is (Some (Granted i u t o)) = refl
size_is None = refl

pub size_small : (e : Option Entry) → size_of e ≤ 9
size_small (Some (Object x s)) = omega arith
size_small (Some (Membership x g)) = omega arith
size_small (Some (Appointed i k h a b)) = omega arith
size_small (Some (Granted i u t o)) = omega arith
size_small None = omega arith

pub size_large : (e : Option Entry) → valid e ≡ true → 6 ≤ size_of e
size_large (Some (Object x s)) v = omega arith
size_large (Some (Membership x g)) v = omega arith
size_large (Some (Appointed i k h a b)) v = omega arith
size_large (Some (Granted i u t o)) v = omega arith
size_large None v = absurd (false≢true v)

-- ---- Written, then read

pub front_back : (e : Option Entry) (rest : Bytes) → valid e ≡ true → front (bytes_of e ++ rest) ≡ e
unfolding front
front_back (Some (Object x s)) rest v = rw (le-leb 6 (suc (suc (suc (suc (suc (suc (length rest))))))) (omega arith))
front_back (Some (Membership x g)) rest v = rw (le-leb 6 (suc (suc (suc (suc (suc (suc (length rest))))))) (omega arith))
front_back (Some (Appointed i k h a b)) rest v =
    rw (le-leb 9 (suc (suc (suc (suc (suc (suc (suc (suc (suc (length rest)))))))))) (omega arith))
front_back (Some (Granted i u t o)) rest v =
    rw (le-leb 8 (suc (suc (suc (suc (suc (suc (suc (suc (length rest))))))))) (omega arith))
front_back None rest v = absurd (false≢true v)

-- ---- Read, then written

-- The first n bytes from i on, one by one, and the rest.
by_byte : ℕ → ℕ → Bytes → Bytes
by_byte zero i b = drop i b
by_byte (suc n) i b = byte b i ∷ by_byte n (suc i) b

by_byte_drops : (n i : ℕ) (b : Bytes) → i + n ≤ length b → by_byte n i b ≡ drop i b
unfolding by_byte
by_byte_drops zero i b h = refl
by_byte_drops (suc n) i b h = ap (λ (l : Bytes). byte b i ∷ l) (by_byte_drops n (suc i) b (omega arith)) ∙ sym (drop-cons b i 0 (omega arith))

record Headed (b : Bytes) (n k : ℕ) : Type 0 where
  long : n ≤ length b
  zeroth : byte b 0 ≡ n
  first : byte b 1 ≡ 0
  second : byte b 2 ≡ k
  third : byte b 3 ≡ 0

-- A field below 256 has 0 for its second byte.
headed_so : (b : Bytes) (n k : ℕ) → n < 256 → k < 256 → headed b n k ≡ true → Headed b n k
headed_so b n k low small e =
    let a = and_both (eqb (length_field b) n && eqb (kind_field b) k) (leb n (length b)) e in
    let c = and_both (eqb (length_field b) n) (eqb (kind_field b) k) a.0 in
    let l : length_field b ≡ n = eqb-true _ _ c.0 in
    let m : kind_field b ≡ k = eqb-true _ _ c.1 in
    record { long = leb-true _ _ a.1; zeroth = omega arith; first = omega arith; second = omega arith; third = omega arith }

-- The record by which of its four heads stands there.
abbrev by_heads : Bytes → Bool → Bool → Bool → Bool → Option Entry
by_heads b p q r t =
    p ⇒ Some (Object (byte b 4) (byte b 5)) ∥
    q ⇒ Some (Membership (byte b 4) (byte b 5)) ∥
    r ⇒ Some (Appointed (byte b 4) (byte b 5) (byte b 6) (byte b 7) (byte b 8)) ∥
    t ⇒ Some (Granted (byte b 4) (byte b 5) (byte b 6) (byte b 7)) ∥
    None

pub front_whole : (b : Bytes) → valid (front b) ≡ true → b ≡ bytes_of (front b) ++ drop (size_of (front b)) b
unfolding front by_byte
front_whole b = go (headed b 6 16) refl (headed b 6 17) refl (headed b 9 18) refl (headed b 8 19) refl
  where
    go : (p : Bool) → headed b 6 16 ≡ p → (q : Bool) → headed b 6 17 ≡ q → (r : Bool) → headed b 9 18 ≡ r
        → (t : Bool) → headed b 8 19 ≡ t → valid (by_heads b p q r t) ≡ true
        → b ≡ bytes_of (by_heads b p q r t) ++ drop (size_of (by_heads b p q r t)) b
    go true e q f r g t h v = let w = headed_so b 6 16 (omega arith) (omega arith) e in sym (by_byte_drops 6 0 b w.long) ∙ cc
    go false e true f r g t h v = let w = headed_so b 6 17 (omega arith) (omega arith) f in sym (by_byte_drops 6 0 b w.long) ∙ cc
    go false e false f true g t h v = let w = headed_so b 9 18 (omega arith) (omega arith) g in sym (by_byte_drops 9 0 b w.long) ∙ cc
    go false e false f false g true h v = let w = headed_so b 8 19 (omega arith) (omega arith) h in sym (by_byte_drops 8 0 b w.long) ∙ cc
    go false e false f false g false h v = absurd (false≢true v)

-- ---- By its two fields in front

-- No head of a kind where one field is another, or where the bytes end before the record does.
headed_off : (b : Bytes) (n k : ℕ) → (length_field b ≡ n → kind_field b ≡ k → n ≤ length b → ⊥) → headed b n k ≡ false
headed_off b n k none = go (headed b n k) refl
  where
    go : (t : Bool) → headed b n k ≡ t → t ≡ false
    go false e = refl
    go true e =
        let a = and_both (eqb (length_field b) n && eqb (kind_field b) k) (leb n (length b)) e in
        let c = and_both (eqb (length_field b) n) (eqb (kind_field b) k) a.0 in
        absurd (none (eqb-true _ _ c.0) (eqb-true _ _ c.1) (leb-true _ _ a.1))

headed_on : (b : Bytes) (n k : ℕ) → length_field b ≡ n → kind_field b ≡ k → n ≤ length b → headed b n k ≡ true
headed_on b n k l m h = rw (l, m, eq-eqb n n refl, eq-eqb k k refl, le-leb n (length b) h)

module _ (b : Bytes) where
  -- None of the four pairs of fields, or too few bytes.
  pub front_none : (length_field b ≡ 6 → kind_field b ≡ 16 → 6 ≤ length b → ⊥) → (length_field b ≡ 6 → kind_field b ≡ 17 → 6 ≤ length b → ⊥)
      → (length_field b ≡ 9 → kind_field b ≡ 18 → 9 ≤ length b → ⊥) → (length_field b ≡ 8 → kind_field b ≡ 19 → 8 ≤ length b → ⊥)
      → None ≡ front b
  unfolding front
  front_none o m w r = sym (rw (headed_off b 6 16 o, headed_off b 6 17 m, headed_off b 9 18 w, headed_off b 8 19 r))

  pub front_object : length_field b ≡ 6 → kind_field b ≡ 16 → 6 ≤ length b → front b ≡ Some (Object (byte b 4) (byte b 5))
  unfolding front
  front_object l m h = rw (headed_on b 6 16 l m h)

  pub front_membership : length_field b ≡ 6 → kind_field b ≡ 17 → 6 ≤ length b → front b ≡ Some (Membership (byte b 4) (byte b 5))
  unfolding front
  front_membership l m h = rw (headed_off b 6 16 (λ x y z. omega (arith, m, y)), headed_on b 6 17 l m h)

  pub front_appointed : length_field b ≡ 9 → kind_field b ≡ 18 → 9 ≤ length b
      → front b ≡ Some (Appointed (byte b 4) (byte b 5) (byte b 6) (byte b 7) (byte b 8))
  unfolding front
  front_appointed l m h =
      rw (headed_off b 6 16 (λ x y z. omega (arith, m, y)), headed_off b 6 17 (λ x y z. omega (arith, m, y)), headed_on b 9 18 l m h)

  pub front_granted : length_field b ≡ 8 → kind_field b ≡ 19 → 8 ≤ length b
      → front b ≡ Some (Granted (byte b 4) (byte b 5) (byte b 6) (byte b 7))
  unfolding front
  front_granted l m h =
      rw (
        headed_off b 6 16 (λ x y z. omega (arith, m, y)),
        headed_off b 6 17 (λ x y z. omega (arith, m, y)),
        headed_off b 9 18 (λ x y z. omega (arith, m, y)),
        headed_on b 8 19 l m h,
      )

-- ---- Its number

pub number_low : (e : Option Entry) → valid e ≡ true → number_of e < places
unfolding number_of places
number_low (Some (Object x s)) v = omega (arith, ltb-true x 64 (and_both (ltb x 64) (known s) v).0)
number_low (Some (Membership x g)) v =
    let w = and_both (ltb x 64) (ltb g 64) v in omega (arith, ltb-true x 64 w.0, ltb-true g 64 w.1)
number_low (Some (Appointed i k h a b)) v = omega (arith, ltb-true i 32 (and_both (ltb i 32) (known k) v).0)
number_low (Some (Granted i u t o)) v = omega (arith, ltb-true i 64 v)
number_low None v = absurd (false≢true v)

-- ---- For single functions

pub then_some_is : {A : Type 0} (b : Bool) (x : A) → then_some b x ≡ (b ⇒ Some x ∥ None)
then_some_is true x = refl
then_some_is false x = refl

pub and_off : (a : Bool) → (a && false) ≡ false
and_off true = refl
and_off false = refl

pub known_is : (n : ℕ) → (leb 1 n && leb n 3) ≡ known n
unfolding counted
known_is n = go (leb n 3)
  where
    go : (t : Bool) → (leb 1 n && t) ≡ ltb 0 (t ⇒ n ∥ 0)
    go true = at_true (leb 1 n)
      where
        at_true : (b : Bool) → (b && true) ≡ b
        at_true true = refl
        at_true false = refl
    go false = and_off (leb 1 n)

pub object_low : {e : Entry} {x s : ℕ} → e ≡ Object x s → valid (Some e) ≡ true → x < 64
object_low {e} {x} {s} q h = ltb-true x 64 (and_both (ltb x 64) (known s) (rw q at h)).0
