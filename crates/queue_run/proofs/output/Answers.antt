-- `output` prints what the program prints: past the limit the line that says so, else the report.
use Rattle.std.proofs.Common.{arith}
use Rattle.queue_run.proofs.Reporting.{printed_too_long, printed_report}
use Rattle.queue_run.proofs.output.Goals as goal

pub returns-then-input-gt65536 : goal.returns-then-input-gt65536
returns-then-input-gt65536 c = printed_too_long _ (omega (arith, c.if-input-gt65536.true)) c.print.ensures

pub returns : goal.returns
returns c = printed_report _ (omega (arith, c.if-input-gt65536.false)) c.report.ensures
