use mathlib.Core.Path.{refl}
use native.Mathlib.Omega.{arith}
use Rattle.list.proofs.Running.{running_start, running_step, running_end, too_few_codes, too_few_cited}
use Rattle.list.proofs.run.run_from.Goals as goal

pub returns-then-codes-ends : goal.returns-then-codes-ends
returns-then-codes-ends c = too_few_codes _ _ _ _ _ (omega (arith, c.if-codes-ends.true))

pub returns-then-cited-ends : goal.returns-then-cited-ends
returns-then-cited-ends c = too_few_cited _ _ _ _ _ (omega (arith, c.if-cited-ends.true))

pub loop-i-init : goal.loop-i-init
loop-i-init c = running_start _ _ _ _ _ (omega (arith, c.if-codes-ends.false)) (omega (arith, c.if-cited-ends.false))

-- The next record is judged on what those before it left, and its answer
-- stands at its place of both buffers.
pub loop-i-preserved : goal.loop-i-preserved
loop-i-preserved c =
    let answer = c.answered-code.ensures in
    running_step _ _ _ _ _ c.loop-i.invariant c.loop-i-test.true c.part.ensures answer.numbers answer.policy refl refl

pub returns : goal.returns
returns c = running_end _ _ _ _ _ c.loop-i.invariant c.loop-i-test.false
