-- With a decision that changes the policy goes the policy after, and with every other the policy as it was.
use mathlib.Core.Path.{◌≡◌, refl, ap, ◌∙◌}
use mathlib.Core.List.{List}
use Prim.Native.Nat.{ℕ}
use Rattle.std.specs.Prelude.{Err}
use native.Mathlib.Omega.{arith}
use Rattle.std.proofs.Common.{rules}
use Rattle.reach.specs.declared.Policy.{Policy}
use Rattle.rules.specs.declared.Refusal.{Refusal}
use Rattle.rules.specs.declared.Answer.{Answer}
use Rattle.rules.specs.Judging.{Verdict, code_of, judge, OneAnswer}
use Rattle.rules.proofs.Numbered.{numbered_above}
use Rattle.rules.proofs.Bounded.{one_answer}
use Rattle.judge.specs.declared.Decision.{Decision}
use Rattle.judge.specs.Answering.{answered, answer_by, decided}
use Rattle.judge.proofs.Ordered.{decided_answer, leaves_after, leaves_used, leaves_refused}
use Rattle.judge.proofs.judge.Goals as goal

-- With a decision that changes the policy goes the policy after, and with every other the policy as it was.
-- An answer with the policy and the verdict of the decision is the judge's, and meets both demands.
both : (p : Policy) (b : List ℕ) (d : Decision) {n : Policy} {a : Answer} → d ≡ decided p b → n ≡ (answer_by p d).policy
    → a ≡ answered n d.verdict → (a ≡ judge p b) × OneAnswer p a
both p b d {n} {a} e f g =
    let same : a ≡ judge p b = g ∙ ap (λ (n : Policy). answered n d.verdict) f ∙ decided_answer p b e in
    (same, one_answer p b a same)

-- The code of a refusal is not 0.
refused_code : {v : Verdict} {r : Refusal} → v ≡ Err r → code_of v ≡ 0 → ⊥
refused_code {r = r} e z = let n = numbered_above r in let f = ap code_of e in omega (arith, n, f, z)

pub returns-in-Ok-None : goal.returns-in-Ok-None
returns-in-Ok-None c =
    let d = c.decide-decision in
    let v = c.in-Ok-None in
    let a = both _ _ d.result d.ensures (leaves_after _ d.result (ap code_of v.is) c.after-policy.ensures) refl in
    record { value = a.0; one_answer = a.1 }

pub returns-in-Ok-Some : goal.returns-in-Ok-Some
returns-in-Ok-Some c =
    let d = c.decide-decision in
    let v = c.in-Ok-Some in
    let a = both _ _ d.result d.ensures (leaves_used _ _ d.ensures {i = v.field-0-0} (search rules) refl) refl in
    record { value = a.0; one_answer = a.1 }

pub returns-in-Err : goal.returns-in-Err
returns-in-Err c =
    let d = c.decide-decision in
    let a = both _ _ d.result d.ensures (leaves_refused _ d.result (refused_code (c.in-Err.is)) refl) refl in
    record { value = a.0; one_answer = a.1 }
