-- Words as sets: what `0`, `1 << i`, `|`, `&` and `!` are as sets, and a loop that gathers a set number by number. A word's bits
-- decide what is in it, so each law is one of bits.
use mathlib.Core.Path.{◌≡◌, refl, sym, ap, ◌∙◌, subst}
use mathlib.Core.Bool.{Bool, true, false, not, false≢true}
use mathlib.Core.Logic.{◌⊎◌, inl, inr, ⊎_elim}
use Prim.Native.Nat.{ℕ, ◌+◌, ◌-◌, ◌*◌, ◌%◌, ◌^◌, ◌≤◌, ◌<◌, min}
use native.Mathlib.Nat.{mod-lt, lt_of_le_of_lt, eq-or-lt_of_le, le_of_suc-le-suc, not-suc-le-zero}
use native.Mathlib.Decide.{dec_lt}
use native.Mathlib.Numerals.{add-one}
use native.Mathlib.Omega.{arith}
use lib.Dec.{lit<, eqb}
use lib.Pow.{pow_pos, ones_sub-lt}
use lib.Bits.{bit_and, bit_or, or_lt, and_le_r}
use lib.Count.{count_trailing_zeros}
use borrow.Author.Tests.{eqb-true, eqb-false, eq-eqb}
use Rattle.reach.specs.Words.{bit, has, SetOf}
use Rattle.reach.specs.Tests.{Some, Decides}
use Rattle.reach.proofs.Testing.{decides_eqb}
use Rattle.reach.proofs.Bits.{bit_le, bit_two, bit_clash, bit_none, bit_high, or_bit, bit_of_or, bit_under_and, bit_not}
use Rattle.reach.proofs.Bits.{one_shl, one_shl_half, bit_low_half, bit_high_half, bit_one, bit_one_only, lowest_bit}

-- A word is the set of its bits.
pub set_bits : (s : ℕ) → s < 2 ^ 64 → SetOf s (λ x. bit s x ≡ 1)
set_bits s h = record { word = h; only = λ x e. e; all = λ x e. e }

module _ {P Q : ℕ → Type 0} where
  -- The same set, said another way.
  pub set_as : {s : ℕ} → SetOf s P → ((x : ℕ) → P x → Q x) → ((x : ℕ) → Q x → P x) → SetOf s Q
  set_as p f g = record { word = p.word; only = λ x e. f x (p.only x e); all = λ x q. p.all x (g x q) }

  pub set_or : {a b : ℕ} → SetOf a P → SetOf b Q → SetOf (bit_or a b) (λ x. P x ⊎ Q x)
  set_or {a} {b} p q =
      record {
        word = or_lt 64 a b p.word q.word;
        only = λ x e. ⊎_elim (λ l. inl (p.only x l)) (λ r. inr (q.only x r)) (or_bit a b x e);
        all = λ x w. bit_of_or a b x (⊎_elim (λ l. inl (p.all x l)) (λ r. inr (q.all x r)) w);
      }

module _ {P : ℕ → Type 0} where
  -- `a & b`, where b is a set and a any number.
  pub set_mask : (a : ℕ) {b : ℕ} → SetOf b P → SetOf (bit_and a b) (λ x. (bit a x ≡ 1) × P x)
  set_mask a {b} p =
      record {
        word = lt_of_le_of_lt (and_le_r a b) p.word;
        only = λ x e.
            let h : min (bit a x) (bit b x) ≡ 1 = sym (bit_under_and a b x) ∙ e in
            (omega (arith, bit_le a x), p.only x (omega (arith, bit_le b x)));
        all = λ x w. bit_under_and a b x ∙ omega (arith, w.0, p.all x w.1);
      }

  -- The same set, at an equal word.
  pub set_at : {s t : ℕ} → s ≡ t → SetOf t P → SetOf s P
  set_at e p = subst (λ (n : ℕ). SetOf n P) (sym e) p

  pub set_equal : {s t : ℕ} → SetOf t P → s ≡ t → SetOf s P
  set_equal p e = set_at e p

  pub set_none : ((x : ℕ) → P x → ⊥) → SetOf 0 P
  set_none n = record { word = lit< tt; only = λ x e. absurd (bit_none x e); all = λ x p. absurd (n x p) }

  pub set_empty : {s : ℕ} → SetOf s P → s ≡ 0 → (x : ℕ) → P x → ⊥
  set_empty {s} p z x w = bit_none x (ap (λ (n : ℕ). bit n x) (sym z) ∙ p.all x w)

  -- A set has only numbers below 64.
  pub set_below : {s : ℕ} → SetOf s P → (x : ℕ) → P x → x < 64
  set_below {s} p x w =
      elim (dec_lt x 64) [
        | yes l ↦ l
        | no n ↦ absurd (bit_clash s x (bit_high 64 s x p.word (omega arith)) (p.all x w))
      ]

  pub set_not : {s : ℕ} → SetOf s P → SetOf (2 ^ 64 - 1 - s) (λ x. (x < 64) × (P x → ⊥))
  set_not {s} p =
      record {
        word = ones_sub-lt 64 s;
        only = λ x e.
            elim (dec_lt x 64) [
              | yes l ↦ (l, λ w. omega (arith, p.all x w, bit_not 64 s x p.word l, e))
              | no n ↦ absurd (omega (arith, e, bit_high 64 (2 ^ 64 - 1 - s) x (ones_sub-lt 64 s) (omega arith)))
            ];
        all = λ x w.
            bit_not 64 s x p.word w.0
            ∙ ⊎_elim (λ z. omega arith) (λ o. absurd (w.1 (p.only x o))) (bit_two s x);
      }

  -- The lowest number of a set that is not empty.
  pub set_lowest : {s : ℕ} → SetOf s P → (s ≡ 0 → ⊥) → (count_trailing_zeros 64 s < 64) × P (count_trailing_zeros 64 s)
  set_lowest {s} p n = let r = lowest_bit 64 s n p.word in (r.0, p.only (count_trailing_zeros 64 s) r.1)

  -- The test of a set's member decides what the set is of.
  pub decides_has : {s : ℕ} → SetOf s P → (x : ℕ) → Decides (has s x) (P x)
  unfolding has
  decides_has {s} p x = record { sound = λ e. p.only x (eqb-true _ _ e); complete = λ w. eq-eqb _ _ (p.all x w) }

  -- A test that decides membership is the set's own.
  pub has_is : {s : ℕ} → SetOf s P → (x : ℕ) (t : Bool) → Decides t (P x) → has s x ≡ t
  has_is {s} p x true d = (decides_has p x).complete (d.sound refl)
  has_is {s} p x false d = go (has s x) refl
    where
      go : (b : Bool) → has s x ≡ b → b ≡ false
      go true e = sym (d.complete ((decides_has p x).sound e))
      go false e = refl

-- Of any word, the test decides its bit.
pub has_decides : (s x : ℕ) → Decides (has s x) (bit s x ≡ 1)
unfolding has
has_decides s x = decides_eqb (bit s x) 1

-- Whether a set is not empty.
pub decides_nonempty : {P : ℕ → Type 0} {s : ℕ} → SetOf s P → Decides (not (eqb s 0)) (Some 64 P)
decides_nonempty {P} {s} p = go (eqb s 0) refl
  where
    go : (t : Bool) → eqb s 0 ≡ t → Decides (not t) (Some 64 P)
    go true e =
        record {
          sound = λ f. absurd (false≢true f);
          complete = λ w. absurd (set_empty p (eqb-true s 0 e) w.place w.at);
        }
    go false e =
        let r = set_lowest p (eqb-false s 0 e) in
        record { sound = λ f. record { place = count_trailing_zeros 64 s; low = r.0; at = r.1 }; complete = λ w. refl }

pub set_one : (i : ℕ) → i < 64 → SetOf ((1 * 2 ^ i) % 2 ^ 64) (λ x. x ≡ i)
set_one i h =
    record {
      word = mod-lt (1 * 2 ^ i) (pow_pos 64);
      only = λ x e. bit_one_only i x (ap (λ (n : ℕ). bit n x) (sym (one_shl i h)) ∙ e);
      all = λ x e. ap (λ (n : ℕ). bit n x) (one_shl i h) ∙ ap (bit (2 ^ i)) e ∙ bit_one i;
    }

pub set_one_half : (i : ℕ) → i < 32 → SetOf ((1 * 2 ^ i) % 2 ^ 32) (λ x. x ≡ i)
set_one_half i h = let l : i < 64 = omega arith in set_at (one_shl_half i h ∙ sym (one_shl i l)) (set_one i l)

-- A word of two halves.
pub set_joined : (a b : ℕ) → a < 2 ^ 32 → b < 2 ^ 32
    → SetOf (b * 2 ^ 32 + a) (λ x. (bit a x ≡ 1) ⊎ ((32 ≤ x) × (bit b (x - 32) ≡ 1)))
set_joined a b h k =
    record {
      word = omega arith;
      only = λ x e.
          elim (dec_lt x 32) [
            | yes l ↦ inl (sym (bit_low_half a b x l) ∙ e)
            | no n ↦ let l : 32 ≤ x = omega arith in inr (l, sym (bit_high_half a b x h l) ∙ e)
          ];
      all = λ x w.
          ⊎_elim
          (λ e.
          elim (dec_lt x 32) [
            | yes l ↦ bit_low_half a b x l ∙ e
            | no n ↦ absurd (bit_clash a x (bit_high 32 a x h (omega arith)) e)
          ])
          (λ v. bit_high_half a b x h v.0 ∙ v.1)
          w;
    }

-- The set of the numbers below 64 that P holds of, by that of the numbers below 32 and that of those from 32 up.
pub set_halves : {P : ℕ → Type 0} {a b s : ℕ} → SetOf s (λ x. (bit a x ≡ 1) ⊎ ((32 ≤ x) × (bit b (x - 32) ≡ 1)))
    → SetOf a (λ x. (x < 32) × P (0 + x)) → SetOf b (λ x. (x < 32) × P (32 + x)) → SetOf s (λ x. (x < 64) × P x)
set_halves {P} j p q =
    set_as
    j
    (λ x w.
    ⊎_elim
    (λ e. let v = p.only x e in (omega (arith, v.0), subst P (omega arith) v.1))
    (λ u. let v = q.only (x - 32) u.1 in (omega (arith, v.0, u.0), subst P (omega (arith, u.0)) v.1))
    w)
    (λ x w.
    elim (dec_lt x 32) [
      | yes l ↦ inl (p.all x (l, subst P (omega arith) w.1))
      | no n ↦ let l : 32 ≤ x = omega arith in inr (l, q.all (x - 32) (omega (arith, w.0), subst P (omega arith) w.1))
    ])

-- A number below i + 1 is i or below i.
pub below_next : (x i : ℕ) → x < i + 1 → (x ≡ i) ⊎ (x < i)
below_next x i l = eq-or-lt_of_le (le_of_suc-le-suc (subst (λ (m : ℕ). x < m) (add-one i) l))

-- ---- A loop that goes through the numbers 0, 1, .. and gathers those that P holds of

module _ (P : ℕ → Type 0) where
  pub gathered_none : SetOf 0 (λ x. (x < 0) × P x)
  gathered_none = set_none (λ x w. not-suc-le-zero w.0)

  -- A turn adds i where the test of i passed.
  pub gathered_next : {s m i : ℕ} {t : Bool} → SetOf s (λ x. (x < i) × P x) → SetOf m (λ x. (x ≡ i) × (t ≡ true)) → Decides t (P i)
      → SetOf (bit_or s m) (λ x. (x < i + 1) × P x)
  gathered_next {i = i} {t = t} p q d =
      set_as
      (set_or p q)
      (λ x w. ⊎_elim (λ a. (omega (arith, a.0), a.1)) (λ e. (omega (arith, e.0), subst P (sym e.0) (d.sound e.1))) w)
      (λ x w. ⊎_elim (λ e. inr (e, d.complete (subst P e w.1))) (λ l. inl (l, w.1)) (below_next x i w.0))
