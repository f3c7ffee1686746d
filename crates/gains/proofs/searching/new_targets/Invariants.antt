-- The set is a union over the operations: after k of them it has what is new under one below k.
use Rattle.std.proofs.Common.{get_or}
use Rattle.reach.proofs.Unions.{Union}
use Rattle.gains.specs.Searching.{New}
use Rattle.gains.proofs.searching.new_targets.Given as goal

abbrev pub invariant-loop-k : goal.invariant-loop-k
invariant-loop-k l = Union (λ i x. New (get_or l.had i 0) (get_or l.got i 0) x) l.k l.set
