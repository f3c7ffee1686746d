-- Check 12 of TAKE, told by the tables after it.
use Rattle.judge.proofs.Leaving.{take_leaves}
use Rattle.judge.proofs.orphans.take_orphans.Goals as goal

pub returns : goal.returns
returns c = rw (take_leaves _ _ _, c.ownerless.ensures, c.take_out.ensures)
