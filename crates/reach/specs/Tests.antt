-- Tests that compute, and what it means that a test decides a fact.
use Rattle.std.specs.Prelude.{◌≡◌, Bool, true, false, ◌||◌, ℕ, zero, suc, ◌<◌, Option, None}

-- The first test that passes gives the answer: `test ⇒ answer ∥ test ⇒ answer ∥ .. ∥ otherwise`.
infixr 5 ◌⇒◌∥◌
abbrev pub ◌⇒◌∥◌ {ℓ} : {A : Type ℓ} → Bool → A → A → A
true ⇒ a ∥ b = a
false ⇒ a ∥ b = b

-- Some number below n passes the test.
unfoldable pub some : ℕ → (ℕ → Bool) → Bool
some zero t = false
some (suc n) t = some n t || t n

-- The lowest number below n that passes the test, or else the other answer.
unfoldable pub lowest_or : Option ℕ → ℕ → (ℕ → Bool) → Option ℕ
lowest_or other zero t = other
lowest_or other (suc n) t = lowest_or (t n ⇒ Option.Some n ∥ other) n t

abbrev pub lowest : ℕ → (ℕ → Bool) → Option ℕ
lowest n t = lowest_or None n t

-- P holds of some number below n.
pub record Some (n : ℕ) (P : ℕ → Type 0) : Type 0 where
  pub place : ℕ
  pub low : place < n
  pub at : P place

-- The test passes exactly if P holds.
pub record Decides (t : Bool) (P : Type 0) : Type 0 where
  pub sound : t ≡ true → P
  pub complete : P → t ≡ true
