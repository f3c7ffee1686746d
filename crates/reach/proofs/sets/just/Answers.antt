-- The set of one number, if it is below 64.
use mathlib.Core.Path.{sym}
use native.Mathlib.Omega.{arith}
use Rattle.reach.proofs.WordSets.{set_as, set_one, set_none}
use Rattle.reach.proofs.sets.just.Goals as goal

pub returns-then-x-lt64 : goal.returns-then-x-lt64
returns-then-x-lt64 c = set_as (set_one _ c.if-x-lt64.true) (λ y e. (omega (arith, e, c.if-x-lt64.true), sym e)) (λ y w. sym w.1)

pub returns-else-x-lt64 : goal.returns-else-x-lt64
returns-else-x-lt64 c = set_none (λ y w. omega (arith, w.0, w.1, c.if-x-lt64.false))
