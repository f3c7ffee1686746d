-- Its U is asked of both sets, and its T.
use mathlib.Core.Path.{sym}
use mathlib.Core.Bool.{true≢false}
use Rattle.reach.proofs.Testing.{decides_as, decides_at, decides_and, decides_or, decides_none}
use Rattle.reach.proofs.WordSets.{has_decides}
use Rattle.gains.proofs.opening.rule_opens.Goals as goal

pub returns-then-rule : goal.returns-then-rule
returns-then-rule c =
    decides_as
    (decides_or _ _
    (decides_at c.has.ensures (has_decides _ _))
    (decides_and _ _ (decides_at c.has-then-rule.ensures (has_decides _ _)) (decides_at c.has-then-rule-2.ensures (has_decides _ _))))
    (λ w. record { used = c.if-rule.true; by = w })
    (λ w. w.by)

pub returns-else-rule : goal.returns-else-rule
returns-else-rule c = rw c.if-rule.false (decides_none (λ w. true≢false (sym w.used)))
