-- Loops that go through the numbers of a set, the lowest first: what is left grows less, and of the numbers that are no longer left those
-- of which P holds are picked.
use mathlib.Core.Path.{◌≡◌, refl, sym, ap, subst, ◌∙◌}
use mathlib.Core.Bool.{Bool, true}
use mathlib.Core.Logic.{inl, inr, ⊎_elim}
use Prim.Native.Nat.{ℕ, ◌-◌, ◌*◌, ◌%◌, ◌^◌, ◌≤◌, ◌<◌}
use native.Mathlib.Nat.{le_refl}
use native.Mathlib.Decide.{dec_lt, ℕ_discrete}
use native.Mathlib.Omega.{arith}
use lib.Bits.{bit_and, bit_or, and_le_l}
use lib.Arith.{lt_of_le-ne}
use borrow.Author.Tests.{eq-eqb}
use lib.Pow.{ones_sub-lt, pow_pos}
use Rattle.reach.specs.Words.{bit, has, SetOf, LowestOf}
use Rattle.reach.specs.Tests.{Decides}
use Rattle.reach.specs.Successors.{without_bit}
use Rattle.reach.proofs.OneBit.{and_is_without}
use Rattle.reach.proofs.Bits.{bit_le, bit_two, bit_clash, bit_none, bit_high, bit_not, one_shl, lowest_bit, or_grows}
use Rattle.reach.proofs.WordSets.{set_bits, set_as, set_or, set_mask, set_not, set_one, set_below, set_none}

-- ---- What is left

module _ {left : ℕ} (word : left < 2 ^ 64) (h : ℕ) (e : bit left h ≡ 1) where
  pub left_low : h < 64
  left_low = set_below (set_bits left word) h e

  pub left_rest : SetOf (bit_and left (2 ^ 64 - 1 - (1 * 2 ^ h) % 2 ^ 64)) (λ y. (bit left y ≡ 1) × ((y < 64) × (y ≡ h → ⊥)))
  left_rest = set_mask left (set_not (set_one h left_low))

  pub left_less : bit_and left (2 ^ 64 - 1 - (1 * 2 ^ h) % 2 ^ 64) < left
  left_less =
      lt_of_le-ne
      (and_le_l left (2 ^ 64 - 1 - (1 * 2 ^ h) % 2 ^ 64))
      (λ q. (left_rest.only h (ap (λ (n : ℕ). bit n h) q ∙ e)).1.1 refl)

  -- To take h away is to subtract it.
  pub left_without : left - (1 * 2 ^ h) % 2 ^ 64 ≡ bit_and left (2 ^ 64 - 1 - (1 * 2 ^ h) % 2 ^ 64)
  unfolding without_bit has
  left_without = rw (and_is_without h left left_low word, eq-eqb _ _ e, one_shl h left_low)

  pub left_least : (0 < (1 * 2 ^ h) % 2 ^ 64) × ((1 * 2 ^ h) % 2 ^ 64 ≤ left)
  left_least =
      rw (one_shl h left_low) (
        pow_pos h,
        elim (dec_lt left (2 ^ h)) [
          | yes l ↦ absurd (bit_clash left h (bit_high h left h l (le_refl h)) e)
          | no n ↦ omega (arith, n)
        ],
      )

  -- What was left and is no longer is h.
  pub left_taken : (y : ℕ) → bit left y ≡ 1 → (bit (bit_and left (2 ^ 64 - 1 - (1 * 2 ^ h) % 2 ^ 64)) y ≡ 1 → ⊥) → y ≡ h
  left_taken y o n =
      elim (ℕ_discrete y h) [
        | yes q ↦ q
        | no d ↦ absurd (n (left_rest.all y (o, (set_below (set_bits left word) y o, d))))
      ]

-- Without its lowest number a set is the machine's word without it.
pub without_lowest : {left h t : ℕ} → left < 2 ^ 64 → LowestOf left h t → t ≡ bit_and left (2 ^ 64 - 1 - (1 * 2 ^ h) % 2 ^ 64)
without_lowest {left} {h} word o = o.rest ∙ ap (λ (n : ℕ). left - n) (sym (one_shl h o.low)) ∙ left_without word h o.in_set

-- ---- Numbers picked

pub record Picking (P : ℕ → Type 0) (set found left : ℕ) : Type 0 where
  pub left_word : left < 2 ^ 64
  pub within : (y : ℕ) → bit left y ≡ 1 → bit set y ≡ 1
  pub picked : SetOf found (λ y. ((bit set y ≡ 1) × (bit left y ≡ 1 → ⊥)) × P y)

module _ {P : ℕ → Type 0} {set : ℕ} where
  pub pick_start : set < 2 ^ 64 → Picking P set 0 set
  pick_start w = record { left_word = w; within = λ y e. e; picked = set_none (λ y v. v.0.1 v.0.0) }

  pub pick_step : {found left o : ℕ} (passed : Bool) → Picking P set found left → (h : ℕ) → bit left h ≡ 1 → Decides passed (P h)
      → SetOf o (λ x. (passed ≡ true) × (bit ((1 * 2 ^ h) % 2 ^ 64) x ≡ 1))
      → Picking P set (bit_or found o) (bit_and left (2 ^ 64 - 1 - (1 * 2 ^ h) % 2 ^ 64))
  pick_step {left = left} passed s h e d o =
      let rest = left_rest s.left_word h e in
      let one = set_one h (left_low s.left_word h e) in
      record {
        left_word = rest.word;
        within = λ y b. s.within y (rest.only y b).0;
        picked =
            set_as
            (set_or s.picked o)
            (λ y w.
            ⊎_elim
            (λ a. ((a.0.0, λ l. a.0.1 (rest.only y l).0), a.1))
            (λ a.
            let q : y ≡ h = one.only y a.1 in (
              (s.within y (subst (λ (z : ℕ). bit left z ≡ 1) (sym q) e), λ l. (rest.only y l).1.1 q),
              subst P (sym q) (d.sound a.0),
            ))
            w)
            (λ y w.
            ⊎_elim
            (λ z. inl ((w.0.0, bit_clash left y z), w.1))
            (λ b.
            let q = left_taken s.left_word h e y b w.0.1 in
            inr (d.complete (subst P q w.1), one.all y q))
            (bit_two left y));
      }

  pub pick_end : {found left : ℕ} → Picking P set found left → left ≡ 0 → SetOf found (λ y. (bit set y ≡ 1) × P y)
  pick_end s z =
      set_as
      s.picked
      (λ y w. (w.0.0, w.1))
      (λ y w. ((w.0, λ b. bit_none y (ap (λ (n : ℕ). bit n y) (sym z) ∙ b)), w.1))

-- ---- What is done, and what is left to do

-- Nothing that is left is done.
pub record Undone (done todo : ℕ) : Type 0 where
  pub todo_word : todo < 2 ^ 64
  pub apart : (x : ℕ) → bit todo x ≡ 1 → (done < 2 ^ 64) × (bit done x ≡ 0)

-- Where `done` were no word, nothing would be left.
pub undone_again : (a d : ℕ) → Undone d (bit_and a (2 ^ 64 - 1 - d))
undone_again a d =
    record {
      todo_word = left.word;
      apart = λ x e.
          let b = (left.only x e).1 in
          elim (dec_lt d (2 ^ 64)) [
            | yes l ↦ (l, omega (arith, bit_not 64 d x l (set_below (set_bits (2 ^ 64 - 1 - d) (ones_sub-lt 64 d)) x b), b, bit_le d x))
            | no n ↦ absurd (bit_none x (ap (λ (y : ℕ). bit y x) (omega arith) ∙ b))
          ];
    }
  where
    left : SetOf (bit_and a (2 ^ 64 - 1 - d)) (λ x. (bit a x ≡ 1) × (bit (2 ^ 64 - 1 - d) x ≡ 1))
    left = set_mask a (set_bits (2 ^ 64 - 1 - d) (ones_sub-lt 64 d))

-- With all that is left done, more is done.
pub less_all : (done left : ℕ) → Undone done left → (left ≡ 0 → ⊥) → 2 ^ 64 - bit_or done left < 2 ^ 64 - done
less_all done left u n =
    let l = lowest_bit 64 left n u.todo_word in
    let a = u.apart _ l.1 in
    omega (arith, or_grows done left _ a.1 l.1, a.0)
