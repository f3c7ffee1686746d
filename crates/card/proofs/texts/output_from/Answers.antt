-- `output_from` prints `too long` past the limit, and else the lines of the records from the policy on.
use Rattle.std.proofs.Common.{arith}
use Rattle.card.proofs.Loading.{printed_long, printed_judged}
use Rattle.card.proofs.texts.output_from.Goals as goal

pub returns-then-input-gt65536 : goal.returns-then-input-gt65536
returns-then-input-gt65536 c = printed_long _ _ (omega (arith, c.if-input-gt65536.true)) c.print.ensures

pub returns : goal.returns
returns c = printed_judged _ _ (omega (arith, c.if-input-gt65536.false)) c.report_from.ensures.text
