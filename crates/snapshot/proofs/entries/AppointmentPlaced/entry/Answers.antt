-- An appointment stands exactly if its kind is one that counts.
use Rattle.reach.specs.Tables.{standing}
use Rattle.snapshot.proofs.Records.{then_some_is}
use Rattle.snapshot.proofs.entries.AppointmentPlaced.entry.Goals as goal

pub returns : goal.returns
unfolding standing
returns c = rw (c.then_some.ensures, then_some_is, c.known.ensures)
