-- Reach as an order: transitive, between objects in use; and it goes from view to view with what it is made of. By induction on the
-- chain.
use mathlib.Core.Path.{◌≡◌, refl, subst}
use mathlib.Core.Logic.{◌⊎◌, inl, inr, ⊎_elim}
use Prim.Native.Nat.{ℕ}
use native.Mathlib.Omega.{arith}
use Rattle.reach.specs.Tables.{View}
use Rattle.reach.specs.Reach.{InUse, Group, Direct, Under, itself, up}

pub group_in_use : (v : View) (g : ℕ) → Group v g → InUse v g
group_in_use v g e = omega (arith, e)

pub under_trans : {v : View} {x h g : ℕ} → Under v x h → Under v h g → Under v x g
under_trans (itself i) r = r
under_trans (up d l) r = up d (under_trans l r)

-- Both ends of a chain are in use.
pub under_lower : {v : View} {x g : ℕ} → Under v x g → InUse v x
under_lower (itself i) = i
under_lower (up d l) = d.object

pub under_upper : {v : View} {x g : ℕ} → Under v x g → InUse v g
under_upper (itself i) = i
under_upper (up d l) = under_upper l

-- Under what is no group there is only itself.
pub under_group : {v : View} {x g : ℕ} → Under v x g → (x ≡ g) ⊎ Group v g
under_group (itself i) = inl refl
under_group {v} (up {x = x} {h = h} {g = g} d l) = inr (⊎_elim (λ e. subst (Group v) e d.group) (λ k. k) (under_group l))

-- A chain goes to another view with its objects in use and its direct memberships.
pub under_map : {v w : View} → ((x : ℕ) → InUse v x → InUse w x) → ((x g : ℕ) → Direct v x g → Direct w x g)
    → {x g : ℕ} → Under v x g → Under w x g
under_map i d (itself u) = itself (i _ u)
under_map i d (up m l) = up (d _ _ m) (under_map i d l)
