-- After i rules the set has the Ts of those.
use Prim.Native.Nat.{◌<◌}
use lib.ListN.{get_or}
use Rattle.reach.specs.Words.{SetOf}
use Rattle.reach.specs.Tests.{Some}
use Rattle.reach.specs.Tables.{no_rule}
use Rattle.reach.specs.Asking.{HasT}
use Rattle.reach.proofs.ruling.granted_over.Given as goal

abbrev pub invariant-loop-rule : goal.invariant-loop-rule
invariant-loop-rule l = SetOf l.set (λ t. Some l.rule-index (λ i. (t < 64) × HasT (get_or l.rules i no_rule) l.k l.users t))
