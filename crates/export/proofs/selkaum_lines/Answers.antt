-- `selkaum_lines` is the count of the reader's steps.
use Rattle.export.proofs.Counting.{lines_told}
use Rattle.std.proofs.Common.{rules}
use Rattle.export.proofs.selkaum_lines.Goals as goal

pub returns : goal.returns
returns c = lines_told _ _ (search rules) c.count_steps.ensures
