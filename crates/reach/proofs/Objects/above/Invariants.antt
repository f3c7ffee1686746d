-- The climb finds all that x is under: the invariant is `Climbing`, and the measure is what `met` may still grow by, and then what is left,
-- whatever the tables.
use Prim.Native.Nat.{◌+◌, ◌-◌, ◌*◌, ◌^◌}
use Rattle.reach.proofs.Upward.{Climbing}
use Rattle.reach.proofs.Objects.above.Given as goal

abbrev pub invariant-loop-left : goal.invariant-loop-left
invariant-loop-left l = Climbing l.sorts l.memberships l.x l.found l.over l.met l.left

abbrev pub decreases-loop-left : goal.decreases-loop-left
decreases-loop-left l = (2 ^ 64 - l.met) * 2 ^ 64 + l.left
