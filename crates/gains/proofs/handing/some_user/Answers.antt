use mathlib.Core.Path.{◌≡◌, refl}
use mathlib.Core.Bool.{false, false≢true}
use native.Mathlib.Omega.{arith}
use Rattle.reach.proofs.Testing.{decides_at, decides_none, decides_number, decides_some_at, refuted}
use Rattle.reach.proofs.WordSets.{set_none, set_empty}
use Rattle.reach.proofs.Gathering.{without_lowest, pick_start, pick_step, pick_end}
use Rattle.std.proofs.Common.{rules}
use Rattle.gains.proofs.handing.some_user.Goals as goal

pub loop-h-init : goal.loop-h-init
loop-h-init c = rw c.into_iter-h-iterator.ensures.into_iter_gives (pick_start (search rules))

pub returns-then-is_user : goal.returns-then-is_user
returns-then-is_user c =
    let o = c.in-Some.ensures.steps in
    let found = decides_at c.is_user.ensures (decides_number _ _ 2 (omega arith)) in
    decides_some_at _ o.low (c.loop-h.invariant.within _ o.in_set, found.sound c.if-is_user.true)

pub loop-h-preserved : goal.loop-h-preserved
loop-h-preserved c =
    let l = c.loop-h in
    let o = c.in-Some.ensures.steps in
    let passed = decides_at c.is_user.ensures (decides_number _ _ 2 (omega arith)) in
    rw
    (without_lowest l.invariant.left_word o)
    (pick_step false l.invariant _ o.in_set (decides_none (refuted passed c.if-is_user.false))
    (set_none (λ x w. false≢true w.0)))

pub returns : goal.returns
returns c = decides_none (λ w. set_empty (pick_end c.loop-h.invariant c.in-None.ensures.steps.0) refl w.place w.at)
