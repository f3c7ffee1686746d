-- `report` prints the lines of the records: its loop keeps `Reporting`.
use Rattle.std.proofs.Common.{◌≡◌}
use Rattle.frame.specs.Reading.{left}
use Rattle.queue_run.proofs.Reporting.{Reporting}
use Rattle.queue_run.proofs.report.Given as goal

abbrev pub invariant-loop-index : goal.invariant-loop-index
invariant-loop-index l =
    record {
      can : goal.iterator-loop-index.can_next l.index-iterator;
      ends : goal.iterator-loop-index.is_finite l.index-iterator;
      reporting : Reporting l.input l.initial.page.out.now l.page.out.now l.club (left l.index-iterator.iter) l.index-iterator.count l.page.at;
      same : l.page.out.ghost_name ≡ l.initial.page.out.ghost_name;
    }
