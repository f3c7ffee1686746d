-- `load` comes to what the whole card comes to: at each turn the rest of it, read into the policy, comes to that.
use Rattle.std.proofs.Common.{length}
use Rattle.snapshot.proofs.Stepping.{PartRead}
use Rattle.snapshot.proofs.reading.load.Given as goal

abbrev pub invariant-loop-rest : goal.invariant-loop-rest
invariant-loop-rest l = PartRead l.card l.policy l.n l.rest

abbrev pub decreases-loop-rest : goal.decreases-loop-rest
decreases-loop-rest l = length l.rest
