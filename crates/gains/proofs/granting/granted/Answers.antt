use Rattle.std.proofs.Common.{refl, rules}
use Rattle.gains.proofs.Spreading.{tabled_none, tabled_next}
use Rattle.gains.proofs.granting.granted.Goals as goal

pub loop-rule-init : goal.loop-rule-init
loop-rule-init c = tabled_none 8 _ refl (search rules)

pub loop-rule-preserved : goal.loop-rule-preserved
loop-rule-preserved c = tabled_next 8 _ c.loop-rule.invariant c.granted_by-more.ensures
