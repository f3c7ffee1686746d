-- `put_told` writes the line of an event after one, else that of the verdict: the two cases of `outcome_line`.
use Rattle.queue_run.specs.Output.{told_line}
use Rattle.queue_run.proofs.lines.put_told.Goals as goal

pub returns-in-Event : goal.returns-in-Event
unfolding told_line
returns-in-Event c = rw c.in-Event.is c.put_event.ensures

pub returns-in-Judged : goal.returns-in-Judged
unfolding told_line
returns-in-Judged c = rw (c.in-Judged.is, ← c.code_of.ensures, ← c.cited_of.ensures) c.line.ensures
