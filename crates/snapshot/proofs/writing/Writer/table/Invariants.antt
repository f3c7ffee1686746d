-- What stands at the places below i is penned.
use Rattle.snapshot.specs.Card.{bytes_of, from}
use Rattle.snapshot.specs.Writing.{Penned, entry_in}
use Rattle.snapshot.proofs.writing.Writer.table.Given as goal

abbrev pub invariant-loop-i : goal.invariant-loop-i
invariant-loop-i g l =
    Penned l.initial.self (from l.i 0 (λ k. bytes_of (entry_in g.T.Placed.entry_of l.table k))) l.self
