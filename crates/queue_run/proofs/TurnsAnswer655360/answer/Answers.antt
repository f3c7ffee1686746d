-- `answer` gives the whole text: what is printed is the output for what was read, and there is room for it.
use Rattle.std.proofs.Common.{rules}
use Rattle.queue_run.specs.Output.{output_past}
use Rattle.queue_run.proofs.Room.{printed_count, printed_whole}
use Rattle.queue_run.proofs.TurnsAnswer655360.answer.Goals as goal

pub returns-clause-value : goal.returns-clause-value
returns-clause-value c = printed_count _ _ (search rules) c.output.ensures

pub returns-clause-text_after : goal.returns-clause-text_after
returns-clause-text_after c = printed_whole _ _ (search rules) c.output.ensures

pub returns-clause-input_value : goal.returns-clause-input_value
returns-clause-input_value c = output_past _
