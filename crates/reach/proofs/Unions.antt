-- A loop that goes through the places 0, 1, .. of a table and adds to a set what Q gives at each. After n places the set has what Q
-- gives at some place below n.
use mathlib.Core.Path.{◌≡◌, subst}
use mathlib.Core.Logic.{inl, inr, ⊎_elim}
use Prim.Native.Nat.{ℕ, ◌+◌}
use native.Mathlib.Nat.{not-suc-le-zero}
use native.Mathlib.Omega.{arith}
use lib.Bits.{bit_or}
use Rattle.reach.specs.Words.{SetOf}
use Rattle.reach.specs.Tests.{Some}
use Rattle.reach.proofs.Testing.{some_up}
use Rattle.reach.proofs.WordSets.{set_as, set_or, set_none, below_next}

module _ (Q : ℕ → ℕ → Type 0) where
  -- The set has what Q gives below n.
  abbrev pub Union : ℕ → ℕ → Type 0
  Union n s = SetOf s (λ x. Some n (λ i. Q i x))

  pub union_none : Union 0 0
  union_none = set_none (λ x w. not-suc-le-zero w.low)

  -- What Q gives at n is the set r.
  pub union_add : {s n r : ℕ} → Union n s → SetOf r (Q n) → Union (n + 1) (bit_or s r)
  union_add {n = n} h u =
      set_as
      (set_or h u)
      (λ x w. ⊎_elim (λ a. some_up a) (λ b. record { place = n; low = omega arith; at = b }) w)
      (λ x w.
      ⊎_elim
      (λ e. inr (subst (λ (i : ℕ). Q i x) e w.at))
      (λ l. inl (record { place = w.place; low = l; at = w.at }))
      (below_next w.place n w.low))

  pub union_end : (m : ℕ) {s n : ℕ} → Union n s → n ≡ m → Union m s
  union_end m {s} u e = subst (λ (k : ℕ). Union k s) e u
