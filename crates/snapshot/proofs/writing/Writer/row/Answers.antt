use native.Mathlib.Omega.{arith}
use Rattle.snapshot.proofs.Rowing.{rest_less, lowest_low, rowing_start}
use Rattle.snapshot.proofs.Rowing.{rowing_next, rowing_end}
use Rattle.std.proofs.Common.{rules}
use Rattle.snapshot.proofs.writing.Writer.row.Goals as goal

pub loop-left-init : goal.loop-left-init
loop-left-init c = rowing_start _ _ _ (search rules)

pub overflow_cast-left : goal.overflow_cast-left
overflow_cast-left c = search (rules, lowest_low _ c.loop-left-test.true c.loop-left.invariant.word)

pub overflow_shl-left : goal.overflow_shl-left
overflow_shl-left c = search (rules, lowest_low _ c.loop-left-test.true c.loop-left.invariant.word)

pub loop-left-smaller : goal.loop-left-smaller
loop-left-smaller c = rest_less _ c.loop-left-test.true c.loop-left.invariant.word

pub loop-left-preserved : goal.loop-left-preserved
loop-left-preserved c =
    rowing_next _ _ c.loop-left.invariant c.loop-left-test.true c.entry.ensures (omega arith) (omega arith)

pub returns : goal.returns
returns c = rowing_end _ _ c.loop-left.invariant c.loop-left-test.false
