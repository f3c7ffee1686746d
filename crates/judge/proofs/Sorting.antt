-- What the lent table of sorts says is what is asked of the policy, and check 4 with it: a number past the table is no user.
use mathlib.Core.Path.{◌≡◌, refl, sym, ap, ◌∙◌}
use mathlib.Core.Bool.{Bool, true, false, not, ◌||◌}
use mathlib.Core.List.{List}
use Prim.Native.Nat.{ℕ}
use lib.Dec.{eqb, ltb}
use native.Mathlib.Omega.{arith}
use borrow.Author.Tests.{ltb-true}
use Rattle.reach.specs.declared.Policy.{Policy}
use Rattle.reach.specs.Tables.{sort_in}
use Rattle.reach.specs.Reach.{in_use, is_user}
use Rattle.reach.proofs.Sorts.{sort_is, in_use_is}
use Rattle.reach.proofs.Deciding.{decides_user, user_below}
use Rattle.rules.specs.Refusals.{stranger}

-- Whether an object is in use.
pub used_lent : (p : Policy) {sorts : List ℕ} → p.sorts ≡ sorts → (x : ℕ) → ltb 0 (sort_in sorts x) ≡ in_use p x
used_lent p k x = ap (λ (l : List ℕ). ltb 0 (sort_in l x)) (sym k) ∙ sym (in_use_is p x)

-- Who is no user is a stranger.
pub stranger_lent : (p : Policy) {sorts : List ℕ} → p.sorts ≡ sorts → (x : ℕ) → not (eqb (sort_in sorts x) 2) ≡ stranger p x
unfolding stranger
stranger_lent p k x = rw (ap (λ (l : List ℕ). sort_in l x) (sym k) ∙ sort_is p x) (go (ltb 63 x) (is_user p x) refl refl)
  where
    go : (a s : Bool) → ltb 63 x ≡ a → is_user p x ≡ s → not s ≡ (a || not s)
    go true true e f = absurd (omega (arith, ltb-true 63 x e, user_below p x ((decides_user p x).sound f)))
    go true false e f = refl
    go false s e f = refl
