-- Tests and what they decide: `&&`, `||`, `not` and `some` decide "both", "either", "not" and "some place", and a test that decides a
-- fact is equal to any other that does. By cases on the tests.
use mathlib.Core.Path.{◌≡◌, refl, sym, ◌∙◌, subst}
use mathlib.Core.Bool.{Bool, true, false, not, ◌&&◌, ◌||◌, true≢false, false≢true}
use mathlib.Core.Logic.{◌⊎◌, inl, inr, ⊎_elim}
use Prim.Native.Nat.{ℕ, zero, suc, ◌+◌, ◌≤◌, ◌<◌}
use native.Mathlib.Nat.{not-suc-le-zero}
use native.Mathlib.Decide.{dec_lt, ℕ_discrete}
use native.Mathlib.Numerals.{add-one}
use native.Mathlib.Omega.{arith}
use lib.Dec.{eqb, ltb}
use borrow.Author.Tests.{eqb-true, eq-eqb, ltb-true, lt-ltb}
use Rattle.std.specs.Prelude.{Option, None}
use Rattle.reach.specs.Tests.{◌⇒◌∥◌, some, lowest_or, lowest, Some, Decides}

-- ---- What a test decides

-- Another fact, as good as the first.
pub decides_as : {t : Bool} {P Q : Type 0} → Decides t P → (P → Q) → (Q → P) → Decides t Q
decides_as d f g = record { sound = λ e. f (d.sound e); complete = λ q. d.complete (g q) }

-- The same test, as an answer of the code.
pub decides_at : {s t : Bool} {P : Type 0} → s ≡ t → Decides t P → Decides s P
decides_at {P = P} e d = subst (λ (b : Bool). Decides b P) (sym e) d

pub decides_same : {P : Type 0} (a b : Bool) → Decides a P → Decides b P → a ≡ b
decides_same true b d e = sym (e.complete (d.sound refl))
decides_same false true d e = d.complete (e.sound refl)
decides_same false false d e = refl

-- A test that fails refutes, and a fact that is refuted fails the test.
pub refuted : {t : Bool} {P : Type 0} → Decides t P → t ≡ false → P → ⊥
refuted d e p = true≢false (sym (d.complete p) ∙ e)

pub fails : {P : Type 0} (t : Bool) → Decides t P → (P → ⊥) → t ≡ false
fails true d n = absurd (n (d.sound refl))
fails false d n = refl

-- A test that fails decides what is not so.
pub decides_none : {P : Type 0} → (P → ⊥) → Decides false P
decides_none n = record { sound = λ e. absurd (false≢true e); complete = λ h. absurd (n h) }

pub decides_some_at : {n : ℕ} {P : ℕ → Type 0} (i : ℕ) → i < n → P i → Decides true (Some n P)
decides_some_at i l h = record { sound = λ e. record { place = i; low = l; at = h }; complete = λ w. refl }

pub decides_true : (t : Bool) → Decides t (t ≡ true)
decides_true t = record { sound = λ e. e; complete = λ e. e }

pub decides_eqb : (a b : ℕ) → Decides (eqb a b) (a ≡ b)
decides_eqb a b = record { sound = eqb-true a b; complete = eq-eqb a b }

-- Of a number that was written, that it is the one asked for.
pub decides_number : (s k n : ℕ) → k ≡ n → Decides (eqb s k) (s ≡ n)
decides_number s k n e = decides_as (decides_eqb s k) (λ q. q ∙ e) (λ q. q ∙ sym e)

pub decides_ltb : (a b : ℕ) → Decides (ltb a b) (a < b)
decides_ltb a b = record { sound = ltb-true a b; complete = lt-ltb a b }

module _ {P Q : Type 0} where
  pub decides_and : (a b : Bool) → Decides a P → Decides b Q → Decides (a && b) (P × Q)
  decides_and true b d e = record { sound = λ t. (d.sound refl, e.sound t); complete = λ w. e.complete w.1 }
  decides_and false b d e = record { sound = λ t. absurd (false≢true t); complete = λ w. d.complete w.0 }

  pub decides_or : (a b : Bool) → Decides a P → Decides b Q → Decides (a || b) (P ⊎ Q)
  decides_or true b d e = record { sound = λ t. inl (d.sound refl); complete = λ w. refl }
  decides_or false b d e =
      record {
        sound = λ t. inr (e.sound t);
        complete = λ w. ⊎_elim (λ p. absurd (false≢true (d.complete p))) (λ q. e.complete q) w;
      }

pub decides_not : {P : Type 0} (t : Bool) → Decides t P → Decides (not t) (P → ⊥)
decides_not true d = record { sound = λ e. absurd (false≢true e); complete = λ n. absurd (n (d.sound refl)) }
decides_not false d = record { sound = λ e. refuted d refl; complete = λ n. refl }

-- What is read at j where i was written: the new there, and the old elsewhere.
pub written-cases {ℓ} : {A : Type ℓ} (new old : A) (j i : ℕ)
    → ((j ≡ i) × ((eqb j i ⇒ new ∥ old) ≡ new)) ⊎ ((j ≡ i → ⊥) × ((eqb j i ⇒ new ∥ old) ≡ old))
written-cases {A = A} new old j i = go (eqb j i) (decides_eqb j i)
  where
    go : (t : Bool) → Decides t (j ≡ i) → ((j ≡ i) × ((t ⇒ new ∥ old) ≡ new)) ⊎ ((j ≡ i → ⊥) × ((t ⇒ new ∥ old) ≡ old))
    go true d = inl (d.sound refl, refl)
    go false d = inr (refuted d refl, refl)

-- ---- Some number below a bound

pub some_up : {n : ℕ} {P : ℕ → Type 0} → Some n P → Some (n + 1) P
some_up w = record { place = w.place; low = omega (arith, w.low); at = w.at }

pub some_split : {n : ℕ} {P : ℕ → Type 0} → Some (suc n) P → Some n P ⊎ P n
some_split {n} {P} w = go (dec_lt w.place n)
  where
    go : Dec (w.place < n) → Some n P ⊎ P n
    go (yes l) = inl (record { place = w.place; low = l; at = w.at })
    go (no l) = inr (subst P (omega (arith, w.low, l)) w.at)

pub some_map : {n : ℕ} {P Q : ℕ → Type 0} → ((i : ℕ) → P i → Q i) → Some n P → Some n Q
some_map f w = record { place = w.place; low = w.low; at = f w.place w.at }

-- The test of some number decides that there is one; it is enough that the tests decide below the bound.
-- None below 0, and none below n + 1 if there is none below n nor at n.
pub some_not_start : {P : ℕ → Type 0} → Some 0 P → ⊥
some_not_start w = omega (arith, w.low)

pub some_not_next : {n : ℕ} {P : ℕ → Type 0} → (Some n P → ⊥) → (P n → ⊥) → Some (n + 1) P → ⊥
some_not_next {n} {P} a b w =
    elim (ℕ_discrete w.place n) [
      | yes e ↦ b (subst P e w.at)
      | no e ↦ a (record { place = w.place; low = omega (arith, w.low, e); at = w.at })
    ]

pub some_not_end : (m : ℕ) {n : ℕ} {P : ℕ → Type 0} → m ≤ n → (Some n P → ⊥) → Some m P → ⊥
some_not_end m l a w = a (record { place = w.place; low = omega (arith, w.low, l); at = w.at })

pub decides_some : (n : ℕ) (t : ℕ → Bool) (P : ℕ → Type 0) → ((i : ℕ) → i < n → Decides (t i) (P i)) → Decides (some n t) (Some n P)
unfolding some
decides_some zero t P d = record { sound = λ e. absurd (false≢true e); complete = λ w. absurd (not-suc-le-zero w.low) }
decides_some (suc n) t P d =
    decides_as
    (decides_or (some n t) (t n) (decides_some n t P (λ i l. d i (omega arith))) (d n (omega arith)))
    (λ w.
    ⊎_elim
    (λ s. record { place = s.place; low = omega (arith, s.low); at = s.at })
    (λ p. record { place = n; low = omega arith; at = p })
    w)
    (λ w. some_split w)

-- ---- Loops that look through the numbers 0, 1, ..

-- Nothing below i was found, and i is not it.
pub none_next : (t : ℕ → Bool) (i : ℕ) → some i t ≡ false → t i ≡ false → some (i + 1) t ≡ false
unfolding some
none_next t i e f = rw (add-one, e, f)

pub none_start : (t : ℕ → Bool) (i : ℕ) → i ≡ 0 → some i t ≡ false
unfolding some
none_start t i e = rw e

pub none_end : (n : ℕ) (t : ℕ → Bool) (i : ℕ) → i ≤ n → n ≤ i → some i t ≡ false → some n t ≡ false
none_end n t i l h e = subst (λ (k : ℕ). some k t ≡ false) (omega arith) e

-- One that is found is some.
pub some_found : (n : ℕ) (t : ℕ → Bool) (i : ℕ) → i < n → t i ≡ true → some n t ≡ true
some_found n t i l e = (decides_some n t (λ j. t j ≡ true) (λ j k. decides_true (t j))).complete (record { place = i; low = l; at = e })

-- ---- The lowest

lowest_other : (other : Option ℕ) (n : ℕ) (t : ℕ → Bool) → some n t ≡ false → lowest_or other n t ≡ other
unfolding some lowest_or
lowest_other other zero t e = refl
lowest_other other (suc n) t e =
    let f = decides_or (some n t) (t n) (decides_true _) (decides_true _) in
    let low : some n t ≡ false = fails (some n t) (decides_true _) (λ s. refuted f e (inl s)) in
    let here : t n ≡ false = fails (t n) (decides_true _) (λ s. refuted f e (inr s)) in
    rw here (lowest_other other n t low)

pub lowest_none : (n : ℕ) (t : ℕ → Bool) → some n t ≡ false → lowest n t ≡ None
lowest_none n t e = lowest_other None n t e

lowest_at : (other : Option ℕ) (n : ℕ) (t : ℕ → Bool) (i : ℕ) → i < n → some i t ≡ false → t i ≡ true → lowest_or other n t ≡ Option.Some i
unfolding lowest_or
lowest_at other zero t i l z e = absurd (not-suc-le-zero l)
lowest_at other (suc n) t i l z e = go (λ k. lowest_at (t n ⇒ Option.Some n ∥ other) n t i k z e) (dec_lt i n)
  where
    go : (i < n → lowest_or (t n ⇒ Option.Some n ∥ other) n t ≡ Option.Some i) → Dec (i < n) → lowest_or (t n ⇒ Option.Some n ∥ other) n t ≡ Option.Some i
    go ih (yes k) = ih k
    go ih (no k) =
        let q : n ≡ i = omega arith in
        subst
        (λ (j : ℕ). lowest_or (t j ⇒ Option.Some j ∥ other) j t ≡ Option.Some i)
        (sym q)
        (rw e (lowest_other (Option.Some i) i t z))

-- One that is found with nothing found below it is the lowest.
pub lowest_found : (n : ℕ) (t : ℕ → Bool) (i : ℕ) → i < n → some i t ≡ false → t i ≡ true → lowest n t ≡ Option.Some i
lowest_found n t i l z e = lowest_at None n t i l z e

-- Either none passes, or one passes with none below it.
pub record LowestAt (n : ℕ) (t : ℕ → Bool) (i : ℕ) : Type 0 where
  pub low : i < n
  pub here : t i ≡ true
  pub none : some i t ≡ false

pub lowest_cases : (n : ℕ) (t : ℕ → Bool) → (some n t ≡ false) ⊎ Some n (LowestAt n t)
unfolding some
lowest_cases zero t = inl refl
lowest_cases (suc n) t = go (lowest_cases n t) (t n) refl
  where
    go : (some n t ≡ false) ⊎ Some n (LowestAt n t) → (b : Bool) → t n ≡ b → ((some n t || t n) ≡ false) ⊎ Some (suc n) (LowestAt (suc n) t)
    go (inr w) b e =
        inr
        (record {
          place = w.place;
          low = omega (arith, w.low);
          at = record { low = omega (arith, w.low); here = w.at.here; none = w.at.none };
        })
    go (inl z) true e =
        inr (record { place = n; low = omega arith; at = record { low = omega arith; here = e; none = z } })
    go (inl z) false e = inl (rw (z, e))
