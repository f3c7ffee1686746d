use Rattle.std.proofs.Common.{rules}
use Rattle.text.proofs.Writing.{printed_of_wrote}
use Rattle.text.proofs.print.Goals as goal

pub returns : goal.returns
returns c = printed_of_wrote (search rules)
