-- Check 12 of DISMISS, told by the tables after it.
use Rattle.judge.proofs.Leaving.{dismiss_leaves}
use Rattle.judge.proofs.orphans.dismiss_orphans.Goals as goal

pub returns : goal.returns
returns c = rw (dismiss_leaves _ _, c.ownerless.ensures, c.dismiss.ensures, c.objects.ensures.sorts, c.objects.ensures.memberships)
