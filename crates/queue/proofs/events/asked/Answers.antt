-- `asked` is the judge's answer to a USE of operation 2.
use Rattle.queue.proofs.events.asked.Goals as goal

pub returns : goal.returns
returns c = c.use_verdict.ensures
