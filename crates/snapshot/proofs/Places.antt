-- Every place has a number in the order of the file, and the file is the run of the records of all places. What stands at a place has its number,
-- so the order can be checked record by record.
use mathlib.Core.Path.{◌≡◌, refl, sym, ap, ap₂, ◌∙◌}
use mathlib.Core.Bool.{Bool, true, false}
use mathlib.Core.Logic.{◌⊎◌, inl, inr}
use mathlib.Core.List.{List, ◌++◌, append_assoc}
use Prim.Native.Nat.{ℕ, ◌+◌, ◌-◌, ◌*◌, ◌/◌, ◌%◌, ◌<◌}
use native.Mathlib.Omega.{arith}
use lib.Dec.{ltb}
use borrow.Author.Tests.{ltb-true, ltb-false, lt-ltb, le-ltb}
use Rattle.std.specs.Prelude.{Option, Some, None}
use Rattle.reach.specs.declared.Appointment.{Appointment}
use Rattle.reach.specs.declared.AccessRule.{AccessRule}
use Rattle.reach.specs.Tests.{◌⇒◌∥◌}
use Rattle.reach.specs.Tables.{View, standing}
use Rattle.snapshot.specs.declared.Entry.{Entry}
use Rattle.snapshot.specs.declared.Entry.TheVariants.{Object, Appointed, Granted}
use Rattle.snapshot.specs.Card.{known, bytes_of, object_of, membership_of, appointed_of, granted_of}
use Rattle.snapshot.specs.Card.{object_at, membership_at, appointed_at, granted_at, from, in_order, file_of}
use Rattle.snapshot.specs.Loading.{places, number_of, entry, valid}
use Rattle.snapshot.proofs.Runs.{from_same, from_append, from_moved, from_rows}

-- ---- What stands at a place

-- None, or a record that is valid and has that number.
abbrev pub Fits : ℕ → Option Entry → Type 0
Fits k e = (e ≡ None) ⊎ ((valid e ≡ true) × (number_of e ≡ k))

object_fits : (s x : ℕ) → x < 64 → Fits x (object_of s x)
unfolding number_of
object_fits s x l = by (known s) refl
  where
    by : (t : Bool) → known s ≡ t → Fits x (t ⇒ Some (Object x s) ∥ None)
    by true e = inr (rw (lt-ltb x 64 l, e), refl)
    by false e = inl refl

membership_fits : (t : Bool) (x g k : ℕ) → x < 64 → g < 64 → 64 + 64 * x + g ≡ k → Fits k (membership_of t x g)
unfolding number_of
membership_fits true x g k l m q = inr (rw (lt-ltb x 64 l, lt-ltb g 64 m), q)
membership_fits false x g k l m q = inl refl

appointed_fits : (w : Appointment) (i k : ℕ) → i < 32 → 4160 + i ≡ k → Fits k (appointed_of w i)
unfolding number_of standing
appointed_fits w i k l q = by (standing w) refl
  where
    by : (t : Bool) → standing w ≡ t → Fits k (t ⇒ Some (Appointed i w.kind w.holder w.a w.b) ∥ None)
    by true e = inr (rw (lt-ltb i 32 l, e), q)
    by false e = inl refl

granted_fits : (r : AccessRule) (i k : ℕ) → i < 64 → 4192 + i ≡ k → Fits k (granted_of r i)
unfolding number_of
granted_fits r i k l q = by r.used
  where
    by : (t : Bool) → Fits k (t ⇒ Some (Granted i r.users r.targets r.operations) ∥ None)
    by true = inr (lt-ltb i 64 l, q)
    by false = inl refl

-- The place of a number, by the tests on it.
abbrev pub entry_by : Bool → Bool → Bool → View → ℕ → Option Entry
entry_by t u w v k =
    t ⇒ object_at v k ∥
    u ⇒ membership_at v ((k - 64) / 64) ((k - 64) % 64) ∥
    w ⇒ appointed_at v (k - 4160) ∥
    granted_at v (k - 4192)

pub entry_fits : (v : View) (k : ℕ) → k < places → Fits k (entry v k)
unfolding entry places object_at membership_at appointed_at granted_at
entry_fits v k l = go (ltb k 64) refl (ltb k 4160) refl (ltb k 4192) refl
  where
    go : (t : Bool) → ltb k 64 ≡ t → (u : Bool) → ltb k 4160 ≡ u → (w : Bool) → ltb k 4192 ≡ w → Fits k (entry_by t u w v k)
    go true e u f w g = object_fits (v.sort k) k (ltb-true k 64 e)
    go false e true f w g =
        let a = ltb-false k 64 e in
        let b = ltb-true k 4160 f in
        membership_fits (v.stored ((k - 64) / 64) ((k - 64) % 64)) ((k - 64) / 64) ((k - 64) % 64) k (omega arith) (omega arith) (omega arith)
    go false e false f true g =
        let a = ltb-false k 4160 f in let b = ltb-true k 4192 g in appointed_fits (v.appointment (k - 4160)) (k - 4160) k (omega arith) (omega arith)
    go false e false f false g = let a = ltb-false k 4192 g in granted_fits (v.rule (k - 4192)) (k - 4192) k (omega arith) (omega arith)

-- ---- Where each place stands

module _ (v : View) where
  pub at_object : (x : ℕ) → x < 64 → entry v x ≡ object_at v x
  unfolding entry
  at_object x l = rw (lt-ltb x 64 l)

  pub at_membership : (x g : ℕ) → x < 64 → g < 64 → entry v (64 + 64 * x + g) ≡ membership_at v x g
  unfolding entry
  at_membership x g a b =
      let i : (64 + 64 * x + g - 64) / 64 ≡ x = omega arith in
      let j : (64 + 64 * x + g - 64) % 64 ≡ g = omega arith in
      rw (le-ltb (64 + 64 * x + g) 64 (omega arith), lt-ltb (64 + 64 * x + g) 4160 (omega arith), i, j)

  pub at_appointed : (i : ℕ) → i < 32 → entry v (4160 + i) ≡ appointed_at v i
  unfolding entry
  at_appointed i l =
      let j : 4160 + i - 4160 ≡ i = omega arith in
      rw (le-ltb (4160 + i) 64 (omega arith), le-ltb (4160 + i) 4160 (omega arith), lt-ltb (4160 + i) 4192 (omega arith), j)

  pub at_granted : (i : ℕ) → i < 64 → entry v (4192 + i) ≡ granted_at v i
  unfolding entry
  at_granted i l =
      let j : 4192 + i - 4192 ≡ i = omega arith in
      rw (le-ltb (4192 + i) 64 (omega arith), le-ltb (4192 + i) 4160 (omega arith), le-ltb (4192 + i) 4192 (omega arith), j)

-- ---- The order of the file is that of the numbers

-- The entry of each place, and what it gives.
abbrev pub each : {A : Type 0} → (Option Entry → List A) → View → ℕ → List A
each f v k = f (entry v k)

module _ {A : Type 0} (f : Option Entry → List A) (v : View) where
  objects : from 64 0 (each f v) ≡ from 64 0 (λ x. f (object_at v x))
  objects = from_same 64 0 (each f v) (λ x. f (object_at v x)) (λ k a b. ap f (at_object v k (omega arith)))

  memberships : from 4096 64 (each f v) ≡ from 64 0 (λ x. from 64 0 (λ g. f (membership_at v x g)))
  memberships =
      from_rows 64 0 (λ x g. f (membership_at v x g)) (each f v) (λ y k a b. ap f (at_membership v y k (omega arith) b))

  appointments : from 32 4160 (each f v) ≡ from 32 0 (λ i. f (appointed_at v i))
  appointments = from_moved 32 0 4160 (each f v) (λ i. f (appointed_at v i)) (λ k a b. ap f (at_appointed v k (omega arith)))

  rules : from 64 4192 (each f v) ≡ from 64 0 (λ i. f (granted_at v i))
  rules = from_moved 64 0 4192 (each f v) (λ i. f (granted_at v i)) (λ k a b. ap f (at_granted v k (omega arith)))

  run : from (64 + (4096 + (32 + 64))) 0 (each f v) ≡ in_order f v
  unfolding in_order
  run =
      from_append 64 (4096 + (32 + 64)) 0 (each f v)
      ∙ ap₂ (λ (a b : List A). a ++ b) objects
      (from_append 4096 (32 + 64) 64 (each f v)
      ∙ ap₂ (λ (a b : List A). a ++ b) memberships
      (from_append 32 64 4160 (each f v) ∙ ap₂ (λ (a b : List A). a ++ b) appointments rules))
      ∙ ap (λ (b : List A). from 64 0 (λ x. f (object_at v x)) ++ b)
      (sym
      (append_assoc (from 64 0 (λ x. from 64 0 (λ g. f (membership_at v x g)))) (from 32 0 (λ i. f (appointed_at v i)))
      (from 64 0 (λ i. f (granted_at v i)))))
      ∙ sym
      (append_assoc (from 64 0 (λ x. f (object_at v x)))
      (from 64 0 (λ x. from 64 0 (λ g. f (membership_at v x g))) ++ from 32 0 (λ i. f (appointed_at v i)))
      (from 64 0 (λ i. f (granted_at v i))))
      ∙ ap (λ (b : List A). b ++ from 64 0 (λ i. f (granted_at v i)))
      (sym
      (append_assoc (from 64 0 (λ x. f (object_at v x))) (from 64 0 (λ x. from 64 0 (λ g. f (membership_at v x g))))
      (from 32 0 (λ i. f (appointed_at v i)))))

  pub in_order_is : from places 0 (each f v) ≡ in_order f v
  unfolding places
  in_order_is = run

pub file_is : (v : View) → from places 0 (each bytes_of v) ≡ file_of v
file_is v = in_order_is bytes_of v
