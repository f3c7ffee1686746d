use native.Mathlib.Omega.{arith}
use mathlib.Core.Path.{sym, ◌∙◌}
use Rattle.reach.proofs.Testing.{none_start, none_next, none_end, lowest_none, lowest_found}
use Rattle.reach.proofs.ruling.covering.Goals as goal

pub loop-i-init : goal.loop-i-init
loop-i-init c = none_start _ _ (omega arith)

pub returns-then-covered : goal.returns-then-covered
returns-then-covered c =
    sym (lowest_found 64 _ _ c.loop-i-test.true c.loop-i.invariant (sym c.covered.ensures ∙ c.if-covered.true))

pub loop-i-preserved : goal.loop-i-preserved
loop-i-preserved c = none_next _ _ c.loop-i.invariant (sym c.covered.ensures ∙ c.if-covered.false)

pub returns : goal.returns
returns c = let l = c.loop-i in sym (lowest_none 64 _ (none_end 64 _ _ l.auto.i-end c.loop-i-test.false l.invariant))
