-- Each round but the last leaves less. After the last no row of what is left has a group that is owned, so what is left has no owner, and
-- all else in use has one.
use Rattle.reach.specs.Asking.{Looking}
use Rattle.reach.proofs.Objects.ownerless.Given as goal

abbrev pub invariant-loop-left : goal.invariant-loop-left
invariant-loop-left l = Looking l.self.sorts.now l.self.memberships.now l.set 64 l.groups l.left

abbrev pub decreases-loop-left : goal.decreases-loop-left
decreases-loop-left l = l.left
