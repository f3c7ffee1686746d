-- If no number below a bound passes the one test and fails the other, whatever passes the one passes the other too. That no number does is one
-- equation, which computes.
use mathlib.Core.Path.{◌≡◌, refl, sym, ◌∙◌}
use mathlib.Core.Bool.{Bool, true, false, not, ◌&&◌, true≢false}
use Prim.Native.Nat.{ℕ, ◌<◌}
use lib.Dec.{eqb}
use borrow.Author.Tests.{eqb-true}
use Rattle.reach.specs.Tests.{some}
use Rattle.reach.proofs.Testing.{some_found}

pub none_below : (n : ℕ) (t : ℕ → Bool) → some n t ≡ false → (j : ℕ) → j < n → t j ≡ true → ⊥
none_below n t z j l e = true≢false (sym (some_found n t j l e) ∙ z)

-- Whatever passes the test t passes s too.
pub passes_too : (n : ℕ) (t s : ℕ → Bool) → some n (λ j. t j && not (s j)) ≡ false → (j : ℕ) → j < n → t j ≡ true → s j ≡ true
passes_too n t s z j l e = go (s j) refl
  where
    go : (b : Bool) → s j ≡ b → s j ≡ true
    go true f = f
    go false f = absurd (none_below n (λ j. t j && not (s j)) z j l (rw (e, f)))

-- Only m passes the test t.
pub only_at : (n m : ℕ) (t : ℕ → Bool) → some n (λ j. t j && not (eqb j m)) ≡ false → (j : ℕ) → j < n → t j ≡ true → j ≡ m
only_at n m t z j l e = eqb-true j m (passes_too n t (λ j. eqb j m) z j l e)
