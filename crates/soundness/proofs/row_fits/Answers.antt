-- An empty row asks nothing, and one with a stray is refused; of any other, only whether x is in use is left.
use native.Mathlib.Omega.{arith}
use Rattle.reach.proofs.Testing.{decides_at}
use Rattle.soundness.proofs.Fitting.{always, never, row_none, row_stray, row_in}
use Rattle.std.proofs.Common.{rules}
use Rattle.soundness.proofs.row_fits.Goals as goal

pub returns-then-row-eq0 : goal.returns-then-row-eq0
returns-then-row-eq0 c = always (row_none c.args.m _ _ c.if-row-eq0.true)

pub returns-then-row-m-ne0 : goal.returns-then-row-m-ne0
returns-then-row-m-ne0 c = never (row_stray c.args.m _ _ (search rules) (λ e. c.if-row-m-ne0.true (omega (arith, e))))

pub returns : goal.returns
returns c =
    decides_at
    (rw c.has.ensures)
    (row_in c.args.m _ _ (search rules) (search rules) c.if-row-eq0.false (omega (arith, c.if-row-m-ne0.false)))
