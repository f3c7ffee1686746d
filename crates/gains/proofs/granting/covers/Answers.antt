use native.Mathlib.Omega.{arith}
use Rattle.reach.proofs.Testing.{decides_as, decides_at}
use Rattle.reach.proofs.WordSets.{has_decides}
use Rattle.gains.proofs.Searched.{has_of}
use Rattle.gains.proofs.granting.covers.Goals as goal

pub returns-then-rule : goal.returns-then-rule
returns-then-rule c =
    decides_as
    (decides_at (has_of c.args.users c.args.rule.users c.has.ensures (omega arith) (omega arith)) (has_decides _ _))
    (λ b. record { used = c.if-rule.true; in_u = b })
    (λ w. w.in_u)
