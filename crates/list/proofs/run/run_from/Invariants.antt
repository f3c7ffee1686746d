-- `run_from` runs the list: its loop keeps `Running`, which starts with nothing done and ends with nothing to come; a buffer that is too
-- short is refused before the loop.
use Rattle.list.proofs.Running.{Running}
use Rattle.list.proofs.run.run_from.Given as goal

abbrev pub invariant-loop-i : goal.invariant-loop-i
invariant-loop-i l =
    Running l.bytes l.ends l.initial.codes l.initial.cited l.initial.policy l.codes l.cited l.policy l.start l.i
