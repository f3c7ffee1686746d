-- Lists without a number above 63 and without one twice: they stay so when one who is not there comes to the end, and
-- when one is taken out. By cases on the first.
use mathlib.Core.Path.{◌≡◌, refl, sym}
use mathlib.Core.Bool.{Bool, true, false, not, ◌&&◌, ◌||◌, true≢false}
use mathlib.Core.List.{List, [], ◌∷◌, ◌++◌}
use Prim.Native.Nat.{ℕ, ◌<◌}
use lib.Dec.{ltb, eqb}
use borrow.Author.Tests.{lt-ltb, ne_eqb, eqb-false, ltb-true, not-true}
use Rattle.reach.specs.Tests.{◌⇒◌∥◌}
use Rattle.queue.specs.Line.{is_in, without}
use Rattle.queue.specs.Stored.{fit}

pub and_parts : (a b : Bool) → a && b ≡ true → (a ≡ true) × (b ≡ true)
and_parts true b e = (refl, e)
and_parts false b e = absurd (true≢false (sym e))

pub or_parts : (a b : Bool) → a || b ≡ false → (a ≡ false) × (b ≡ false)
or_parts true b e = absurd (true≢false e)
or_parts false b e = (refl, e)

-- ---- The first of a list

pub fit_first : (w : ℕ) (ws : List ℕ) → fit (w ∷ ws) ≡ true → (w < 64) × (is_in w ws ≡ false) × (fit ws ≡ true)
unfolding fit
fit_first w ws e =
    let p : _ = and_parts (ltb w 64 && not (is_in w ws)) (fit ws) e in
    let q : _ = and_parts (ltb w 64) (not (is_in w ws)) p.0 in
    (ltb-true w 64 q.0, not-true (is_in w ws) q.1, p.1)

pub fit_made : (w : ℕ) (ws : List ℕ) → w < 64 → is_in w ws ≡ false → fit ws ≡ true → fit (w ∷ ws) ≡ true
unfolding fit
fit_made w ws a b c = simp (lt-ltb _ _ a, b, c)

pub fit_none : fit [] ≡ true
unfolding fit
fit_none = refl

-- ---- One more at the end

eqb_swap : (a b : ℕ) → eqb a b ≡ false → eqb b a ≡ false
eqb_swap a b e = ne_eqb b a (λ f. eqb-false a b e (sym f))

pub in_end : (w u : ℕ) (ws : List ℕ) → eqb w u ≡ false → is_in w ws ≡ false → is_in w (ws ++ u ∷ []) ≡ false
unfolding is_in
in_end w u [] a b = simp (eqb_swap w u a)
in_end w u (x ∷ ws) a b =
    let p : _ = or_parts (eqb x w) (is_in w ws) b in
    simp (p.0, in_end w u ws a p.1)

pub fit_end : (u : ℕ) (ws : List ℕ) → u < 64 → is_in u ws ≡ false → fit ws ≡ true → fit (ws ++ u ∷ []) ≡ true
unfolding is_in
fit_end u [] a b c = fit_made u [] a refl c
fit_end u (w ∷ ws) a b c =
    let p : _ = fit_first w ws c in
    let o : _ = or_parts (eqb w u) (is_in u ws) b in
    fit_made w (ws ++ u ∷ []) p.0 (in_end w u ws o.0 p.1) (fit_end u ws a o.1 p.2)

-- ---- One taken out

pub in_without : (w u : ℕ) (ws : List ℕ) → is_in w ws ≡ false → is_in w (without u ws) ≡ false
unfolding is_in without
in_without w u [] e = refl
in_without w u (x ∷ ws) e = go (eqb x u) (in_without w u ws p.1)
  where
    p : (eqb x w ≡ false) × (is_in w ws ≡ false)
    p = or_parts (eqb x w) (is_in w ws) e

    go : (t : Bool) → is_in w (without u ws) ≡ false → is_in w (t ⇒ without u ws ∥ x ∷ without u ws) ≡ false
    go true f = f
    go false f = simp (p.0, f)

pub fit_without : (u : ℕ) (ws : List ℕ) → fit ws ≡ true → fit (without u ws) ≡ true
unfolding without
fit_without u [] e = e
fit_without u (w ∷ ws) e = go (eqb w u) (fit_without u ws p.2)
  where
    p : (w < 64) × (is_in w ws ≡ false) × (fit ws ≡ true)
    p = fit_first w ws e

    go : (t : Bool) → fit (without u ws) ≡ true → fit (t ⇒ without u ws ∥ w ∷ without u ws) ≡ true
    go true f = f
    go false f = fit_made w (without u ws) p.0 (in_without w u ws p.1) f

pub not_without : (u : ℕ) (ws : List ℕ) → is_in u (without u ws) ≡ false
unfolding is_in without
not_without u [] = refl
not_without u (w ∷ ws) = go (eqb w u) refl (not_without u ws)
  where
    go : (t : Bool) → eqb w u ≡ t → is_in u (without u ws) ≡ false → is_in u (t ⇒ without u ws ∥ w ∷ without u ws) ≡ false
    go true e f = f
    go false e f = simp (e, f)
