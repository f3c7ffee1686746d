-- `answer` gives the whole text: what is printed is the output for what was read, and there is room for it.
use Rattle.std.proofs.Common.{rules}
use Rattle.list.proofs.Room.{printed_count, printed_whole, output_past}
use Rattle.runner.proofs.BoardAnswer212992.answer.Goals as goal

pub returns-clause-value : goal.returns-clause-value
returns-clause-value c = printed_count _ _ (search rules) c.output.ensures.printed

pub returns-clause-text_after : goal.returns-clause-text_after
returns-clause-text_after c = printed_whole _ _ (search rules) c.output.ensures.printed

pub returns-clause-input_value : goal.returns-clause-input_value
returns-clause-input_value c = output_past _
