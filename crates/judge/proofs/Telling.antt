-- What is told of a refusal for own gain is fixed by the policy and the record: of two first permissions neither stands before the other,
-- so they are one; and where there is none, there is no other to tell.
use mathlib.Core.Path.{◌≡◌, refl, sym, ap, subst, ◌∙◌}
use mathlib.Core.Bool.{Bool, true, false, true≢false}
use mathlib.Core.List.{List}
use Prim.Native.Nat.{ℕ, ◌<◌}
use native.Mathlib.Omega.{arith}
use lib.Dec.{eqb}
use borrow.Author.Tests.{eqb-true, eq-eqb}
use Rattle.reach.specs.declared.Policy.{Policy}
use Rattle.rules.specs.declared.Request.{Request}
use Rattle.rules.specs.Records.{sender, request}
use Rattle.rules.specs.Judging.{code_of, judge}
use Rattle.std.specs.Prelude.{Option, Some, None}
use Rattle.gains.specs.declared.Permission.{Permission}
use Rattle.gains.specs.Giving.{ComesToUse, FirstPermission}
use Rattle.judge.specs.Telling.{OwnGainOf}

same_permission : {v w : Permission} → v.target ≡ w.target → v.operation ≡ w.operation → Some v ≡ Some w
same_permission {v} {w} e f =
    ap (λ (x : ℕ). Some (record { target = x; operation = v.operation })) e ∙ ap (λ (k : ℕ). Some (record { target = w.target; operation = k })) f

pub first_unique : (p : Policy) (u : ℕ) (q : Request) (g h : Option Permission) → FirstPermission p u q g → FirstPermission p u q h → g ≡ h
first_unique p u q (Some v) (Some w) a b =
    let not_less : (v.target < w.target → ⊥) = λ l. b.1 v.target v.operation l a.0 in
    let not_more : (w.target < v.target → ⊥) = λ l. a.1 w.target w.operation l b.0 in
    let target : v.target ≡ w.target = omega arith in
    let not_earlier : (v.operation < w.operation → ⊥) = λ l. b.2 v.operation l (subst (λ (x : ℕ). ComesToUse p u q x v.operation) target a.0) in
    let not_later : (w.operation < v.operation → ⊥) = λ l. a.2 w.operation l (subst (λ (x : ℕ). ComesToUse p u q x w.operation) (sym target) b.0) in
    same_permission target (omega arith)
first_unique p u q (Some v) None a b = absurd (b v.target v.operation a.0)
first_unique p u q None (Some w) a b = absurd (a w.target w.operation b.0)
first_unique p u q None None a b = refl

pub told_unique : (p : Policy) (b : List ℕ) (g h : Option Permission) → OwnGainOf p b g → OwnGainOf p b h → g ≡ h
told_unique p b g h s t = go (eqb code 10) refl
  where
    code : ℕ
    code = code_of (judge p b).verdict

    go : (ten : Bool) → eqb code 10 ≡ ten → g ≡ h
    go true e = first_unique p (sender b) (request b) g h (s.refused (eqb-true code 10 e)) (t.refused (eqb-true code 10 e))
    go false e =
        let other : (code ≡ 10 → ⊥) = λ z. true≢false (sym (eq-eqb code 10 z) ∙ e) in
        s.otherwise other ∙ sym (t.otherwise other)
