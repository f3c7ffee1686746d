-- The test `under` decides the relation `Under`, for every policy, and a chain of at most 63 suffices on 64 objects.
-- Each longer bound reaches one object more, or no longer bound ever does; 64 objects allow 63 such steps.
use mathlib.Core.Path.{◌≡◌, refl, sym, subst}
use mathlib.Core.Bool.{Bool, true, false}
use mathlib.Core.Logic.{◌⊎◌, inl, inr, ⊎_elim}
use Prim.Native.Nat.{ℕ, zero, suc, ◌+◌, ◌≤◌, ◌<◌, zero-le}
use native.Mathlib.Nat.{le_refl, not-suc-le-zero}
use native.Mathlib.Decide.{dec_lt, dec_le}
use native.Mathlib.Omega.{arith}
use lib.Dec.{ltb}
use lib.ListN.{get_or}
use Rattle.reach.specs.declared.Policy.{Policy}
use Rattle.reach.specs.Tests.{◌⇒◌∥◌, Some, Decides}
use Rattle.reach.specs.Tables.{counted, sort, stored, view}
use Rattle.reach.specs.Reach.{InUse, Direct, Under, itself, up, in_use, direct, chain, under}
use Rattle.reach.proofs.Testing.{decides_as, decides_and, decides_or, decides_some, decides_eqb, decides_ltb, decides_true}
use Rattle.reach.proofs.Reaching.{group_in_use, under_lower, under_upper}

-- ---- Objects and direct membership

-- An object in use is on the table.
pub in_use_below : (p : Policy) (x : ℕ) → InUse (view p) x → x < 64
unfolding sort
in_use_below p x i = go (ltb x 64) (decides_ltb x 64) i
  where
    go : (t : Bool) → Decides t (x < 64) → 0 < (t ⇒ counted (get_or p.sorts x 0) ∥ 0) → x < 64
    go true d i = d.sound refl
    go false d i = absurd (not-suc-le-zero i)

pub decides_in_use : (p : Policy) (x : ℕ) → Decides (in_use p x) (InUse (view p) x)
unfolding in_use
decides_in_use p x = decides_ltb 0 (sort p x)

pub decides_direct : (p : Policy) (x g : ℕ) → Decides (direct p x g) (Direct (view p) x g)
unfolding direct
decides_direct p x g =
    decides_as
    (decides_and _ _ (decides_and _ _ (decides_in_use p x) (decides_eqb (sort p g) 1)) (decides_true (stored p x g)))
    (λ w. record { object = w.0.0; group = w.0.1; is_stored = w.1 })
    (λ d. ((d.object, d.group), d.is_stored))

-- ---- How many numbers below n pass a test

one : Bool → ℕ
one true = 1
one false = 0

count : ℕ → (ℕ → Bool) → ℕ
count zero t = 0
count (suc n) t = count n t + one (t n)

-- What passes the first passes the second.
abbrev Within : (ℕ → Bool) → (ℕ → Bool) → ℕ → Type 0
Within s t n = (x : ℕ) → x < n → s x ≡ true → t x ≡ true

one_le : (a b : Bool) → (a ≡ true → b ≡ true) → one a ≤ one b
unfolding one
one_le false b f = zero-le
one_le true b f = rw (f refl) (le_refl _)

count_le : (n : ℕ) (s t : ℕ → Bool) → Within s t n → count n s ≤ count n t
unfolding count
count_le zero s t w = zero-le
count_le (suc n) s t w = omega (arith, count_le n s t (λ x h. w x (omega arith)), one_le (s n) (t n) (w n (le_refl _)))

one_same : (a b : Bool) → one b ≤ one a → b ≡ true → a ≡ true
unfolding one
one_same true b h e = refl
one_same false true h e = absurd (not-suc-le-zero h)
one_same false false h e = e

-- Where no more pass the second, the same pass.
count_same : (n : ℕ) (s t : ℕ → Bool) → Within s t n → count n t ≤ count n s → Within t s n
unfolding count
count_same zero s t w h x l e = absurd (not-suc-le-zero l)
count_same (suc n) s t w h x l e = go (count_same n s t low) (dec_lt x n)
  where
    low : Within s t n
    low y k = w y (omega arith)

    last : one (s n) ≤ one (t n)
    last = one_le (s n) (t n) (w n (le_refl _))

    go : (count n t ≤ count n s → Within t s n) → Dec (x < n) → s x ≡ true
    go ih (yes k) = ih (omega (arith, last)) x k e
    go ih (no k) =
        let at : n ≡ x = omega arith in
        let few : one (t n) ≤ one (s n) = omega (arith, count_le n s t low) in
        subst (λ (y : ℕ). s y ≡ true) at (one_same (s n) (t n) few (subst (λ (y : ℕ). t y ≡ true) (sym at) e))

count_all : (n : ℕ) → count n (λ x. true) ≡ n
unfolding count one
count_all zero = refl
count_all (suc n) = rw (count_all n) (omega arith)

count_some : (n : ℕ) (t : ℕ → Bool) (x : ℕ) → x < n → t x ≡ true → 1 ≤ count n t
unfolding count one
count_some zero t x l e = absurd (not-suc-le-zero l)
count_some (suc n) t x l e = go (λ k. count_some n t x k e) (dec_lt x n)
  where
    go : (x < n → 1 ≤ count n t) → Dec (x < n) → 1 ≤ count n t + one (t n)
    go ih (yes k) = omega (arith, ih k)
    go ih (no k) = let at : t n ≡ true = subst (λ (y : ℕ). t y ≡ true) (omega arith) e in rw at (omega arith)

-- ---- Chains to g on one policy

module _ (p : Policy) (g : ℕ) where
  abbrev to : ℕ → ℕ → Bool
  to n x = chain n p x g

  -- A chain of at most n + 1 steps is none, or one step and a chain of at most n.
  decides_step : (n x : ℕ) → Decides (to (suc n) x) ((x ≡ g) ⊎ Some 64 (λ h. Direct (view p) x h × (to n h ≡ true)))
  unfolding chain
  decides_step n x =
      decides_or _ _ (decides_eqb x g) (decides_some 64 _ _ (λ h l. decides_and _ _ (decides_direct p x h) (decides_true _)))

  -- The test's chains are chains.
  chain_sound : (n x : ℕ) → InUse (view p) x → to n x ≡ true → Under (view p) x g
  unfolding chain
  chain_sound zero x i e = subst (λ (y : ℕ). Under (view p) x y) ((decides_eqb x g).sound e) (itself i)
  chain_sound (suc n) x i e =
      ⊎_elim
      (λ q. subst (λ (y : ℕ). Under (view p) x y) q (itself i))
      (λ w. up w.at.0 (chain_sound n w.place (group_in_use (view p) w.place w.at.0.group) w.at.1))
      ((decides_step n x).sound e)

  chain_end : (n x : ℕ) → x ≡ g → to n x ≡ true
  unfolding chain
  chain_end zero x q = (decides_eqb x g).complete q
  chain_end (suc n) x q = (decides_step n x).complete (inl q)

  -- One step more.
  chain_up : (n x h : ℕ) → Direct (view p) x h → to n h ≡ true → to (suc n) x ≡ true
  chain_up n x h d e =
      (decides_step n x).complete
      (inr (record { place = h; low = in_use_below p h (group_in_use (view p) h d.group); at = (d, e) }))

  -- A longer bound allows no less.
  chain_more : (n : ℕ) → Within (to n) (to (suc n)) 64
  unfolding chain
  chain_more zero x l e = chain_end 1 x ((decides_eqb x g).sound e)
  chain_more (suc n) x l e =
      ⊎_elim
      (λ q. chain_end (suc (suc n)) x q)
      (λ w. chain_up (suc n) x w.place w.at.0 (chain_more n w.place w.low w.at.1))
      ((decides_step n x).sound e)

  -- No bound allows more than n does.
  abbrev Stable : ℕ → Type 0
  Stable n = (m : ℕ) → Within (to m) (to n) 64

  -- Where a bound of n + 1 allows no more than n, no bound does.
  stable : (n : ℕ) → Within (to (suc n)) (to n) 64 → Stable n
  unfolding chain
  stable n s zero x l e = chain_end n x ((decides_eqb x g).sound e)
  stable n s (suc m) x l e =
      ⊎_elim
      (λ q. chain_end n x q)
      (λ w. s x l (chain_up n x w.place w.at.0 (stable n s m w.place w.low w.at.1)))
      ((decides_step m x).sound e)

  module _ (used : InUse (view p) g) where
    -- Each bound reaches one object more than the one before, until none does.
    grows : (n : ℕ) → (suc n ≤ count 64 (to n)) ⊎ Stable n
    grows zero = inl (count_some 64 (to zero) g (in_use_below p g used) (chain_end zero g refl))
    grows (suc n) = go (grows n)
      where
        kept : Stable n → Stable (suc n)
        kept s m x l e = chain_more n x l (s m x l e)

        more : suc n ≤ count 64 (to n) → Dec (count 64 (to (suc n)) ≤ count 64 (to n))
            → (suc (suc n) ≤ count 64 (to (suc n))) ⊎ Stable (suc n)
        more k (yes f) = inr (kept (stable n (count_same 64 (to n) (to (suc n)) (chain_more n) f)))
        more k (no f) = inl (omega arith)

        go : (suc n ≤ count 64 (to n)) ⊎ Stable n → (suc (suc n) ≤ count 64 (to (suc n))) ⊎ Stable (suc n)
        go (inl k) = more k (dec_le (count 64 (to (suc n))) (count 64 (to n)))
        go (inr s) = inr (kept s)

    -- [01:reach.4] "On 64 objects a chain of at most 63 suffices."
    pub chain_of_63_suffices : (n x : ℕ) → x < 64 → chain n p x g ≡ true → chain 63 p x g ≡ true
    chain_of_63_suffices n x l e = go (grows 63)
      where
        go : (64 ≤ count 64 (to 63)) ⊎ Stable 63 → chain 63 p x g ≡ true
        go (inl k) = count_same 64 (to 63) (λ y. true) (λ y h q. refl) (rw (count_all 64) k) x l refl
        go (inr s) = s n x l e

chain_complete : (p : Policy) {x g : ℕ} → Under (view p) x g → chain 63 p x g ≡ true
chain_complete p (itself {x = x} i) = chain_end p x 63 x refl
chain_complete p (up {x = x} {h = h} {g = g} d l) =
    chain_of_63_suffices p g (under_upper l) 64 x (in_use_below p x d.object) (chain_up p g 63 x h d (chain_complete p l))

-- The test of the rules decides the relation, for every policy and any two numbers.
pub under_decides : (p : Policy) (x g : ℕ) → Decides (under p x g) (Under (view p) x g)
unfolding under
under_decides p x g =
    decides_as
    (decides_and _ _ (decides_and _ _ (decides_in_use p x) (decides_in_use p g)) (decides_true (chain 63 p x g)))
    (λ w. chain_sound p g 63 x w.0.0 w.1)
    (λ u. ((under_lower u, under_upper u), chain_complete p u))
