-- `report` is `report_from` at the founding; that demand 3 holds of the records that are read is `third`.
use Rattle.list.proofs.Demanded.{third}
use Rattle.list.proofs.Reporting.{printed_founding}
use Rattle.std.proofs.Common.{rules}
use Rattle.list.proofs.program.report.Goals as goal

pub returns : goal.returns
returns c = search (rules, printed_founding, third)
