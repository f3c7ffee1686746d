-- Waiters, one by one: whether u is there, and who is left without him; and what the code keeps of them.
use mathlib.Core.Path.{◌≡◌, refl, sym, ap, ◌∙◌}
use mathlib.Core.Bool.{Bool, true, false, not, ◌||◌, ◌&&◌}
use mathlib.Core.List.{List, [], ◌∷◌, ◌++◌, append_assoc, append-nil}
use Prim.Native.Nat.{ℕ, suc, ◌+◌, ◌-◌, ◌<◌, ◌≤◌}
use native.Mathlib.Numerals.{add-one}
use native.Mathlib.Omega.{arith}
use lib.Dec.{eqb, ltb}
use borrow.Author.Tests.{lt-ltb, le-ltb, eq-eqb, ne_eqb}
use lib.ListN.{length, get_or, take, set, replicate, length-append, length-take}
use lib.Seq.{set-append_seam, take-suc}
use Rattle.std.specs.List.{list_any}
use Rattle.reach.specs.Tests.{◌⇒◌∥◌}
use Rattle.queue.specs.declared.Queue.{Queue}
use Rattle.queue.specs.Line.{free, held, is_in, without, called}
use Rattle.queue.specs.Stored.{fit, waiters, queue_of}
use Rattle.queue.specs.Rows.{followed}

-- The record of a line with one more at its end: the first of its zeros becomes him.
stored_at : (q : Queue) (h t : ℕ) (ws : List ℕ) (w k : ℕ) → 8 - length ws ≡ suc k
    → followed (queue_of q (held h t ws)) w ≡ queue_of q (held h t (ws ++ w ∷ []))
stored_at q h t ws w k e =
    λ i. record { gear = q.gear; turn = q.turn; held = 1; holder = h; left = t; count = count i; waiting = waiting i }
  where
    count : length ws + 1 ≡ length (ws ++ w ∷ [])
    count = sym (length-append ws (w ∷ []))

    less : 8 - length (ws ++ w ∷ []) ≡ k
    less = simp length-append (omega arith)

    waiting : set (ws ++ replicate (8 - length ws) 0) (length ws) w
        ≡ (ws ++ w ∷ []) ++ replicate (8 - length (ws ++ w ∷ [])) 0
    waiting = rw (e, less, set-append_seam ws 0 (replicate k 0) w, append_assoc ws (w ∷ []) (replicate k 0))

pub stored_more : (q : Queue) (h t : ℕ) (ws : List ℕ) (w : ℕ) → length ws < 8
    → followed (queue_of q (held h t ws)) w ≡ queue_of q (held h t (ws ++ w ∷ []))
stored_more q h t ws w l = stored_at q h t ws w (7 - length ws) (omega arith)

pub without_length : (u : ℕ) (ws : List ℕ) → length (without u ws) ≤ length ws
unfolding without
without_length u [] = omega arith
without_length u (w ∷ ws) = go (eqb w u) (without_length u ws)
  where
    go : (t : Bool) → length (without u ws) ≤ length ws → length (t ⇒ without u ws ∥ w ∷ without u ws) ≤ suc (length ws)
    go true p = omega arith
    go false p = omega arith

pub without_append : (u : ℕ) (xs ys : List ℕ) → without u (xs ++ ys) ≡ without u xs ++ without u ys
unfolding without
without_append u [] ys = refl
without_append u (x ∷ xs) ys = go (eqb x u) (without_append u xs ys)
  where
    go : (t : Bool) → without u (xs ++ ys) ≡ without u xs ++ without u ys
        → (t ⇒ without u (xs ++ ys) ∥ x ∷ without u (xs ++ ys)) ≡ (t ⇒ without u xs ∥ x ∷ without u xs) ++ without u ys
    go true e = e
    go false e = ap (λ (l : List ℕ). x ∷ l) e

-- The library's test is the definition's.
pub any_in : (u : ℕ) (ws : List ℕ) → list_any (λ w. eqb w u) ws ≡ is_in u ws
unfolding is_in
any_in u [] = refl
any_in u (w ∷ ws) = ap (λ (b : Bool). eqb w u || b) (any_in u ws)

-- ---- The first of them, and those behind him

pub fit_nothing : (ws : List ℕ) → length ws ≡ 0 → fit ws ≡ true
unfolding fit
fit_nothing [] e = refl
fit_nothing (w ∷ ws) e = absurd (omega arith)

module _ (w : ℕ) (ws : List ℕ) where
  pub fit_large : 64 ≤ w → fit (w ∷ ws) ≡ false
  unfolding fit
  fit_large h = rw (le-ltb _ _ h)

  pub fit_twice : is_in w ws ≡ true → fit (w ∷ ws) ≡ false
  unfolding fit
  fit_twice e = go (ltb w 64) e
    where
      go : (t : Bool) → is_in w ws ≡ true → (t && not (is_in w ws) && fit ws) ≡ false
      go true f = rw f
      go false f = refl

  pub fit_past : w < 64 → is_in w ws ≡ false → fit (w ∷ ws) ≡ fit ws
  unfolding fit
  fit_past h e = rw (lt-ltb _ _ h, e)

  pub called_here : (may : ℕ → Bool) (n : ℕ) → may w ≡ true → called may n (w ∷ ws) ≡ held w n ws
  unfolding called
  called_here may n e = rw e

  pub called_past : (may : ℕ → Bool) (n : ℕ) → may w ≡ false → called may n (w ∷ ws) ≡ called may n ws
  unfolding called
  called_past may n e = rw e

pub called_nothing : (may : ℕ → Bool) (n : ℕ) (ws : List ℕ) → length ws ≡ 0 → called may n ws ≡ free
unfolding called
called_nothing may n [] e = refl
called_nothing may n (w ∷ ws) e = absurd (omega arith)

-- The library's test, of the waiters of a record.
pub in_waiters : (q : Queue) (u : ℕ) {b : Bool} {ws : List ℕ} → b ≡ list_any (λ w. eqb w u) ws → ws ≡ waiters q → b ≡ is_in u (waiters q)
in_waiters q u e f = e ∙ any_in u _ ∙ ap (is_in u) f

-- ---- Those but for u, as far as a loop has come

module _ (u : ℕ) (ws : List ℕ) (i : ℕ) (h : i < length ws) where
  front : take (i + 1) ws ≡ take i ws ++ get_or ws i 0 ∷ []
  front = rw add-one (take-suc ws i 0 h)

  pub kept_other : (get_or ws i 0 ≡ u → ⊥) → without u (take (i + 1) ws) ≡ without u (take i ws) ++ get_or ws i 0 ∷ []
  unfolding without
  kept_other n = ap (without u) front ∙ without_append u (take i ws) (get_or ws i 0 ∷ []) ∙ rw (ne_eqb _ _ n)

  pub kept_self : get_or ws i 0 ≡ u → without u (take (i + 1) ws) ≡ without u (take i ws)
  unfolding without
  kept_self e = ap (without u) front ∙ without_append u (take i ws) (get_or ws i 0 ∷ []) ∙ rw (eq-eqb _ _ e, append-nil)

  pub kept_few : length ws ≤ 8 → length (without u (take i ws)) < 8
  kept_few few = omega (arith, without_length u (take i ws), length-take i ws)
