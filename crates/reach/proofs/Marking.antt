-- A loop through the places that a word of 32 bits marks, the lowest first. What was seen by then is what holds at some place that is not
-- left; once none is left, that is some place of all.
use mathlib.Core.Path.{◌≡◌, refl, sym, ap, subst, ◌∙◌}
use mathlib.Core.Bool.{Bool, true, false, ◌||◌}
use mathlib.Core.Logic.{◌⊎◌, inl, inr, ⊎_elim}
use Prim.Native.Nat.{ℕ, ◌^◌, ◌<◌}
use native.Mathlib.Decide.{dec_lt, ℕ_discrete}
use native.Mathlib.Omega.{arith}
use lib.Bits.{bit_or}
use lib.Dec.{eqb}
use borrow.Author.Tests.{eqb-true, eq-eqb}
use Rattle.reach.specs.Words.{bit, SetOf, LowestOf}
use Rattle.reach.specs.Tests.{Some, Decides}
use Rattle.reach.proofs.Bits.{bit_clash, bit_none, bit_high}
use Rattle.reach.proofs.Testing.{some_map, decides_as, decides_or, decides_none}
use Rattle.reach.proofs.WordSets.{set_as, set_at, set_or, set_none}
use Rattle.reach.proofs.Gathering.{left_rest, without_lowest}

-- The places that are left, of which M holds.
pub record Marked (M : ℕ → Type 0) (left : ℕ) : Type 0 where
  pub word : left < 2 ^ 32
  pub holds : (j : ℕ) → bit left j ≡ 1 → M j

-- P holds of some place that is not left.
abbrev pub Seen : ℕ → (ℕ → Type 0) → Type 0
Seen left P = Some 32 (λ j. (bit left j ≡ 1 → ⊥) × P j)

-- ---- What is left

-- The places of a test, where the test is of one number.
pub places_of : {left k : ℕ} (f : ℕ → ℕ) → SetOf left (λ j. (j < 32) × (eqb (f j) k ≡ true)) → SetOf left (λ j. (j < 32) × (f j ≡ k))
places_of f s = set_as s (λ j v. (v.0, eqb-true _ _ v.1)) (λ j v. (v.0, eq-eqb _ _ v.1))

module _ {M : ℕ → Type 0} {left : ℕ} where
  pub mark_start : {N : ℕ → Type 0} → SetOf left (λ j. (j < 32) × N j) → left < 2 ^ 32 → ((j : ℕ) → N j → M j) → Marked M left
  mark_start s l f = record { word = l; holds = λ j e. f j (s.only j e).1 }

  marked_low : Marked M left → (j : ℕ) → bit left j ≡ 1 → j < 32
  marked_low m j e =
      elim (dec_lt j 32) [
        | yes l ↦ l
        | no n ↦ absurd (bit_clash left j (bit_high 32 left j m.word (omega arith)) e)
      ]

  -- A turn takes the lowest place h, and t is what is left then.
  module _ (m : Marked M left) {h t : ℕ} (o : LowestOf left h t) where
    rest : SetOf t (λ j. (bit left j ≡ 1) × ((j < 64) × (j ≡ h → ⊥)))
    rest = let word : left < 2 ^ 64 = omega (arith, m.word) in set_at (without_lowest word o) (left_rest word h o.in_set)

    rest_not : bit t h ≡ 1 → ⊥
    rest_not b = (rest.only h b).1.1 refl

    pub mark_low : h < 32
    mark_low = marked_low m h o.in_set

    pub mark_step : Marked M t
    mark_step = record { word = omega (arith, o.rest, m.word); holds = λ j b. m.holds j (rest.only j b).0 }

    -- ---- What was seen

    seen_more : {P : ℕ → Type 0} → Seen left P ⊎ P h → Seen t P
    seen_more w =
        ⊎_elim
        (λ a. some_map (λ j v. (λ b. v.0 (rest.only j b).0, v.1)) a)
        (λ p. record { place = h; low = mark_low; at = (rest_not, p) })
        w

    seen_split : {P : ℕ → Type 0} → Seen t P → Seen left P ⊎ P h
    seen_split {P} w =
        elim (ℕ_discrete w.place h) [
          | yes q ↦ inr (subst P q w.at.1)
          | no n ↦ inl (record { place = w.place; low = w.low; at = (λ b. w.at.0 (rest.all w.place (b, (omega (arith, w.low), n))), w.at.1) })
        ]

  -- Where all places that P can hold of are left, nothing was seen.
  seen_none : {P : ℕ → Type 0} → SetOf left (λ j. (j < 32) × M j) → ((j : ℕ) → P j → M j) → Seen left P → ⊥
  seen_none s f w = w.at.0 (s.all w.place (w.low, f w.place w.at.1))

seen_all : {left : ℕ} {P : ℕ → Type 0} → left ≡ 0 → Some 32 P → Seen left P
seen_all z w = some_map (λ j p. (λ b. bit_none j (ap (λ (n : ℕ). bit n j) (sym z) ∙ b), p)) w

seen_some : (left : ℕ) {P : ℕ → Type 0} → Seen left P → Some 32 P
seen_some left w = some_map (λ j v. v.1) w

-- ---- A set of what Q gives at the places

module _ (Q : ℕ → ℕ → Type 0) where
  abbrev pub SeenSet : ℕ → ℕ → Type 0
  SeenSet left s = SetOf s (λ x. Seen left (λ j. Q j x))

  pub seen_set_start : {M : ℕ → Type 0} {left : ℕ} → SetOf left (λ j. (j < 32) × M j) → ((j x : ℕ) → Q j x → M j) → SeenSet left 0
  seen_set_start s f = set_none (λ x w. seen_none s (λ j q. f j x q) w)

  pub seen_set_step : {M : ℕ → Type 0} {left h t s r : ℕ} → Marked M left → LowestOf left h t → SeenSet left s → SetOf r (Q h)
      → SeenSet t (bit_or s r)
  seen_set_step m o s r = set_as (set_or s r) (λ x w. seen_more m o w) (λ x w. seen_split m o w)

  pub seen_set_end : {left s : ℕ} → SeenSet left s → left ≡ 0 → SetOf s (λ x. Some 32 (λ j. Q j x))
  seen_set_end {left} s z = set_as s (λ x w. seen_some left w) (λ x w. seen_all z w)

-- ---- A test of whether P holds at one of them

module _ (P : ℕ → Type 0) where
  pub seen_test_start : {M : ℕ → Type 0} {left : ℕ} → SetOf left (λ j. (j < 32) × M j) → ((j : ℕ) → P j → M j) → Decides false (Seen left P)
  seen_test_start s f = decides_none (λ w. seen_none s f w)

  pub seen_test_step : {M : ℕ → Type 0} {left h t : ℕ} (a b : Bool) → Marked M left → LowestOf left h t → Decides a (Seen left P)
      → Decides b (P h) → Decides (a || b) (Seen t P)
  seen_test_step a b m o s r = decides_as (decides_or a b s r) (λ w. seen_more m o w) (λ w. seen_split m o w)

  pub seen_test_end : {left : ℕ} {t : Bool} → Decides t (Seen left P) → left ≡ 0 → Decides t (Some 32 P)
  seen_test_end {left} d z = decides_as d (λ w. seen_some left w) (λ w. seen_all z w)
