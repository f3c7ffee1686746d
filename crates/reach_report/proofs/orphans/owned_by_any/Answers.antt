use Rattle.reach.proofs.Unions.{union_none, union_add}
use Rattle.reach_report.proofs.orphans.owned_by_any.Goals as goal

pub loop-u-init : goal.loop-u-init
loop-u-init c = union_none _

pub loop-u-preserved : goal.loop-u-preserved
loop-u-preserved c = union_add _ c.loop-u.invariant c.owned-set.ensures
