-- `taken_in` tells each record by its kind and its length: each arm is one row of `told_of`.
use Rattle.std.proofs.Common.{arith}
use Rattle.queue_run.proofs.Taking.{start_row, join_row, leave_row, tick_row, judge_row, misfit_row}
use Rattle.queue_run.proofs.club.taken_in.Goals as goal

pub returns-in-32-eq7 : goal.returns-in-32-eq7
returns-in-32-eq7 c = start_row _ _ _ c.kind_field.ensures (omega arith) (omega arith) c.started.ensures

pub returns-in-33-eq5 : goal.returns-in-33-eq5
returns-in-33-eq5 c = join_row _ _ _ c.kind_field.ensures (omega arith) (omega arith) c.joined.ensures

pub returns-in-34-eq5 : goal.returns-in-34-eq5
returns-in-34-eq5 c = leave_row _ _ _ c.kind_field.ensures (omega arith) (omega arith) c.left.ensures

pub returns-in-35-eq4 : goal.returns-in-35-eq4
returns-in-35-eq4 c = tick_row _ _ _ c.kind_field.ensures (omega arith) (omega arith) c.ticked.ensures

pub returns-in-32-default : goal.returns-in-32-default
returns-in-32-default c =
    misfit_row _ _ _ c.kind_field.ensures (omega arith) (omega arith)
    (λ e f. omega (arith, e, f)) (λ e f. omega (arith, e, f)) (λ e f. omega (arith, e, f)) (λ e f. omega (arith, e, f))
    c.misfit.ensures

pub returns-in_default : goal.returns-in_default
returns-in_default c =
    judge_row _ _ _ c.kind_field.ensures
    (λ e. omega (arith, e)) (λ e. omega (arith, e)) (λ e. omega (arith, e)) (λ e. omega (arith, e))
    c.judged.ensures
