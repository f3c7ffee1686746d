-- The rows of the objects below x are penned, each by the set of its groups.
use Rattle.std.proofs.Common.{get_or}
use Rattle.snapshot.specs.Card.{from}
use Rattle.snapshot.specs.Writing.{Penned, row_of}
use Rattle.snapshot.proofs.writing.Writer.memberships.Given as goal

abbrev pub invariant-loop-x : goal.invariant-loop-x
invariant-loop-x l =
    Penned l.initial.self (from l.x 0 (λ y. row_of (get_or l.memberships y 0) y)) l.self
