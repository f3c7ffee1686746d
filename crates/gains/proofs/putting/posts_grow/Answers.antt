-- Each of the two ways is asked.
use mathlib.Core.Path.{◌≡◌, subst}
use mathlib.Core.Bool.{Bool}
use mathlib.Core.Logic.{inl, inr, ⊎_elim}
use Prim.Native.Nat.{ℕ}
use native.Mathlib.Omega.{arith}
use Rattle.reach.specs.Words.{Meet}
use Rattle.reach.specs.Tests.{Decides}
use Rattle.reach.proofs.Testing.{decides_as, decides_at, refuted}
use Rattle.gains.specs.Lacking.{Grows}
use Rattle.gains.proofs.Looking.{decides_found}
use Rattle.gains.proofs.putting.posts_grow.Goals as goal

-- What is fresh of two words that are what he is appointed over.
grows : (held object group : ℕ) {had got : ℕ} {t : Bool} → Decides t (Meet got group × (Meet had object → ⊥)) → had ≡ held → got ≡ held
    → Decides t (Grows held object group)
grows held object group {had} {t = t} d e f =
    subst
    (λ (n : ℕ). Decides t (Meet held group × (Meet n object → ⊥)))
    e
    (subst (λ (n : ℕ). Decides t (Meet n group × (Meet had object → ⊥))) f d)

pub returns-then-fresh : goal.returns-then-fresh
returns-then-fresh c =
    let owner : let a = c.args.asked in Decides c.fresh.result (Grows a.posts.owner a.first a.second) = grows _ _ _ c.fresh.ensures (omega arith) (omega arith) in
    decides_at c.if-fresh.true (decides_found (inl (owner.sound c.if-fresh.true)))

pub returns-else-fresh : goal.returns-else-fresh
returns-else-fresh c =
    let owner : let a = c.args.asked in Decides c.fresh.result (Grows a.posts.owner a.first a.second) = grows _ _ _ c.fresh.ensures (omega arith) (omega arith) in
    decides_as
    (grows _ _ _ c.fresh-else-fresh.ensures (omega arith) (omega arith))
    (λ l. inr l)
    (λ w. ⊎_elim (λ l. absurd (refuted owner c.if-fresh.false l)) (λ l. l) w)
