use Rattle.reach.proofs.Unions.{union_none, union_add}
use Rattle.gains.proofs.handing.holders.Goals as goal

pub loop-w-init : goal.loop-w-init
loop-w-init c = (union_none _, union_none _)

pub loop-w-preserved : goal.loop-w-preserved
loop-w-preserved c =
    let l = c.loop-w in
    (union_add _ l.invariant.0 c.holder_of-more.ensures.object, union_add _ l.invariant.1 c.holder_of-more.ensures.group)
