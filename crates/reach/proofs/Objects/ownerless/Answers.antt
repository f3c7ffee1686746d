use native.Mathlib.Omega.{arith}
use Rattle.reach.proofs.Owning.{left_is, ownerless_is}
use Rattle.reach.proofs.Objects.ownerless.Goals as goal

pub loop-left-init : goal.loop-left-init
loop-left-init c = c.scan-first.ensures

pub returns-then-next-left : goal.returns-then-next-left
returns-then-next-left c =
    ownerless_is _ _ c.owners_from-set.ensures
    (left_is (c.round-next.ensures.2 _ c.loop-left.invariant) (c.round-next.ensures.1 c.if-next-left.true))

pub loop-left-smaller : goal.loop-left-smaller
loop-left-smaller c = omega (arith, c.round-next.ensures.0, c.if-next-left.false)

pub loop-left-preserved : goal.loop-left-preserved
loop-left-preserved c = c.round-next.ensures.2 _ c.loop-left.invariant
