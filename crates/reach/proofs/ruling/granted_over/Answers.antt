use Rattle.reach.proofs.Unions.{union_none, union_add}
use Rattle.reach.proofs.ruling.granted_over.Goals as goal

pub loop-rule-init : goal.loop-rule-init
loop-rule-init c = union_none _

pub loop-rule-preserved : goal.loop-rule-preserved
loop-rule-preserved c = union_add _ c.loop-rule.invariant c.t_of-set.ensures
