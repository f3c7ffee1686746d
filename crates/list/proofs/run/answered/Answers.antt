-- After a request that is done the policy is the one after it; after a refusal, and after a USE, it is the one that stood. It is that of the
-- judge's answer.
use mathlib.Core.Path.{refl, ap, ◌∙◌}
use native.Mathlib.Omega.{arith}
use Rattle.rules.specs.declared.Answer.{Answer}
use Rattle.judge.proofs.Ordered.{decided_answer, leaves_after, leaves_cited, leaves_refused}
use Rattle.list.proofs.run.answered.Goals as goal

pub returns-then-cited-clause-policy : goal.returns-then-cited-clause-policy
returns-then-cited-clause-policy c =
    leaves_after _ c.decide-decision.result (omega (arith, c.code_of-code.ensures, c.if-code-eq0.true)) c.carry_out.ensures
    ∙ ap (λ (a : Answer). a.policy) (decided_answer _ _ c.decide-decision.ensures)

pub returns-else-cited-clause-policy : goal.returns-else-cited-clause-policy
returns-else-cited-clause-policy c =
    leaves_cited _ _ c.decide-decision.ensures (λ e. omega (arith, e, c.cited_of-cited.ensures, c.if-cited.false)) refl
    ∙ ap (λ (a : Answer). a.policy) (decided_answer _ _ c.decide-decision.ensures)

pub returns-else-code-eq0-clause-policy : goal.returns-else-code-eq0-clause-policy
returns-else-code-eq0-clause-policy c =
    leaves_refused _ c.decide-decision.result (λ e. omega (arith, e, c.code_of-code.ensures, c.if-code-eq0.false)) refl
    ∙ ap (λ (a : Answer). a.policy) (decided_answer _ _ c.decide-decision.ensures)
