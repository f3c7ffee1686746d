-- Group by group, the lowest first: what is left of the set has just the groups from a place on, and those before it are penned.
use Rattle.snapshot.proofs.Rowing.{Rowing}
use Rattle.snapshot.proofs.writing.Writer.row.Given as goal

abbrev pub invariant-loop-left : goal.invariant-loop-left
invariant-loop-left l = Rowing l.groups l.x l.initial.self l.left l.self

abbrev pub decreases-loop-left : goal.decreases-loop-left
decreases-loop-left l = l.left
