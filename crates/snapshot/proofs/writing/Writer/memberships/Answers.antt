use Rattle.snapshot.proofs.Penning.{penned_start, penned_more}
use Rattle.snapshot.proofs.writing.Writer.memberships.Goals as goal

pub loop-x-init : goal.loop-x-init
loop-x-init c = penned_start _

pub loop-x-preserved : goal.loop-x-preserved
loop-x-preserved c = penned_more _ _ c.loop-x.invariant c.row.ensures
