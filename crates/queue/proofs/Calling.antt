-- One who waits, where a call follows or another leaves. A call goes through the waiters from the front: it gives the
-- radio to one ahead of him, to him, or passes him by.
use mathlib.Core.Path.{◌≡◌, refl}
use mathlib.Core.Bool.{Bool, true, false, ◌||◌, true≢false}
use mathlib.Core.List.{List, [], ◌∷◌, ◌++◌}
use Prim.Native.Nat.{ℕ, ◌<◌}
use native.Mathlib.Omega.{arith}
use lib.Dec.{eqb}
use lib.ListN.{length}
use borrow.Author.Tests.{eq-eqb, ne_eqb}
use Rattle.reach.specs.Tests.{◌⇒◌∥◌}
use Rattle.queue.specs.Line.{held, is_in, without, there, called}
use Rattle.queue.specs.Stored.{fit}
use Rattle.queue.proofs.Fitting.{fit_first}

-- ---- A call, with u among the waiters

-- u gets the radio; or another gets it, and fewer are ahead of u; or u is struck, and the call goes on behind him.
pub data AtCall (may : ℕ → Bool) (n u : ℕ) (ahead behind : List ℕ) : Type 0 where
  gets : called may n (ahead ++ u ∷ behind) ≡ held u n behind → AtCall may n u ahead behind
  nearer : (w : ℕ) (less : List ℕ) → called may n (ahead ++ u ∷ behind) ≡ held w n (less ++ u ∷ behind)
      → length less < length ahead
      → AtCall may n u ahead behind
  falls : may u ≡ false → called may n (ahead ++ u ∷ behind) ≡ called may n behind → AtCall may n u ahead behind

module _ (may : ℕ → Bool) (n u : ℕ) (behind : List ℕ) where
  pub at_call : (ahead : List ℕ) → AtCall may n u ahead behind
  unfolding called
  at_call [] = go (may u) refl
    where
      go : (t : Bool) → may u ≡ t → AtCall may n u [] behind
      go true e = gets (rw e)
      go false e = falls e (rw e)
  at_call (w ∷ ahead) = go (may w) refl (at_call ahead)
    where
      go : (t : Bool) → may w ≡ t → AtCall may n u ahead behind → AtCall may n u (w ∷ ahead) behind
      go true e a = nearer w ahead (rw e) (omega arith)
      go false e (gets f) = gets (rw e f)
      go false e (nearer x less f h) = nearer x less (rw e f) (omega arith)
      go false e (falls f g) = falls f (rw e g)

-- Who is not among the waiters is not there after a call.
pub not_called : (may : ℕ → Bool) (n u : ℕ) (ws : List ℕ) → is_in u ws ≡ false → there u (called may n ws) ≡ false
unfolding called is_in
not_called may n u [] e = refl
not_called may n u (w ∷ ws) e = go (may w) (eqb w u) refl (λ f. not_called may n u ws f) e
  where
    go : (t b : Bool) → eqb w u ≡ b → (is_in u ws ≡ false → there u (called may n ws) ≡ false) → b || is_in u ws ≡ false
        → there u (t ⇒ held w n ws ∥ called may n ws) ≡ false
    go t true f k g = absurd (true≢false g)
    go true false f k g = rw f g
    go false false f k g = k g

-- Who waits at one place of a sound line waits at no later one.
pub later_not : (u : ℕ) (ahead behind : List ℕ) → fit (ahead ++ u ∷ behind) ≡ true → is_in u behind ≡ false
later_not u [] behind e = (fit_first u behind e).1
later_not u (w ∷ ahead) behind e = later_not u ahead behind (fit_first w (ahead ++ u ∷ behind) e).2

pub waits_in : (u : ℕ) (ahead behind : List ℕ) → is_in u (ahead ++ u ∷ behind) ≡ true
unfolding is_in
waits_in u [] behind = rw (eq-eqb u u refl)
waits_in u (w ∷ ahead) behind = go (eqb w u) (waits_in u ahead behind)
  where
    go : (t : Bool) → is_in u (ahead ++ u ∷ behind) ≡ true → t || is_in u (ahead ++ u ∷ behind) ≡ true
    go true e = refl
    go false e = e

-- ---- Another leaves

pub without_other : (v u : ℕ) (ahead behind : List ℕ) → (u ≡ v → ⊥)
    → without v (ahead ++ u ∷ behind) ≡ without v ahead ++ u ∷ without v behind
unfolding without
without_other v u [] behind ne = rw (ne_eqb u v ne)
without_other v u (w ∷ ahead) behind ne = go (eqb w v) (without_other v u ahead behind ne)
  where
    go : (t : Bool) → without v (ahead ++ u ∷ behind) ≡ without v ahead ++ u ∷ without v behind
        → (t ⇒ without v (ahead ++ u ∷ behind) ∥ w ∷ without v (ahead ++ u ∷ behind))
        ≡ (t ⇒ without v ahead ∥ w ∷ without v ahead) ++ u ∷ without v behind
    go true e = e
    go false e = rw e
