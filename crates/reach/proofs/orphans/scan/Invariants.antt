-- After x objects what is found out is that of the objects below x. Each way through a turn is one law: the object is not in use, or it is
-- left, or it is found owned, and is a group or not.
use Prim.Native.Nat.{◌-◌, ◌≤◌}
use Rattle.reach.specs.Asking.{Looking}
use Rattle.reach.proofs.orphans.scan.Given as goal

abbrev pub invariant-loop-x : goal.invariant-loop-x
invariant-loop-x l = (l.x ≤ 64) × Looking l.sorts l.memberships l.set l.x l.groups l.left

abbrev pub decreases-loop-x : goal.decreases-loop-x
decreases-loop-x l = 64 - l.x
