-- `output` prints what the program prints: past the limit the line that says so, else the report. Demand 3 holds of the records of any
-- input (`third`).
use native.Mathlib.Omega.{arith}
use Rattle.list.proofs.Demanded.{third}
use Rattle.list.proofs.Reporting.{printed_too_long, printed_report}
use Rattle.list.proofs.program.output.Goals as goal

pub returns-then-input-gt65536 : goal.returns-then-input-gt65536
returns-then-input-gt65536 c = record {
  printed = printed_too_long _ (omega (arith, c.if-input-gt65536.true)) c.print.ensures (omega arith);
  founding_demand3 = third _;
}

pub returns : goal.returns
returns c = record {
  printed = printed_report _ (omega (arith, c.if-input-gt65536.false)) c.report.ensures.printed;
  founding_demand3 = c.report.ensures.founding_demand3;
}
