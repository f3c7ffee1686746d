-- `report_from` prints the lines of the answers: its loop keeps `Reporting`, and each record, and a torn place, adds its line.
use Rattle.std.proofs.Common.{◌≡◌}
use Rattle.frame.specs.Reading.{left}
use Rattle.list.proofs.Reporting.{Reporting}
use Rattle.list.proofs.program.report_from.Given as goal

abbrev pub invariant-loop-index : goal.invariant-loop-index
invariant-loop-index l =
    record {
      can : goal.iterator-loop-index.can_next l.index-iterator;
      ends : goal.iterator-loop-index.is_finite l.index-iterator;
      reporting : Reporting l.fn.p l.input l.initial.page.out.now l.page.out.now l.policy (left l.index-iterator.iter) l.index-iterator.count l.page.at;
      same : l.page.out.ghost_name ≡ l.initial.page.out.ghost_name;
    }
