use native.Mathlib.Omega.{arith}
use mathlib.Core.Path.{refl}
use Rattle.reach.proofs.WordSets.{set_mask, decides_nonempty}
use Rattle.reach.proofs.Gathering.{without_lowest}
use Rattle.reach.proofs.Settling.{sweep_start, sweep_round, sweep_step, sweep_over}
use Rattle.reach.proofs.Settling.{settle_start, settle_round, settle_step, settle_over, settle_end}
use Rattle.std.proofs.Common.{rules}
use Rattle.reach.proofs.rounds.descend.Goals as goal

pub loop-found-init : goal.loop-found-init
loop-found-init c = (sweep_start (search rules) c.args.set, λ p k. settle_start k)

pub loop-h-init : goal.loop-h-init
loop-h-init c =
    let l = c.loop-found in
    rw
    c.into_iter-h-iterator.ensures.into_iter_gives
    (sweep_round (search rules) l.invariant.0 refl, λ p k. settle_round k l.invariant.0.found_word (l.invariant.1 p k) refl)

pub loop-h-preserved : goal.loop-h-preserved
loop-h-preserved c =
    let l = c.loop-h in
    let o = c.in-Some.ensures.steps in
    rw
    (without_lowest l.invariant.0.left_word o) (
      sweep_step l.invariant.0 _ o.in_set c.only_if-found.ensures,
      λ p k.
          settle_step k _ l.invariant.0.found_word l.invariant.0.left_word (λ x b. k.masks.objects.only x (l.invariant.0.within x b)) (l.invariant.1 p k) _
          o.in_set
          (decides_nonempty (set_mask _ k.masks.groups))
          c.only_if-found.ensures,
    )

pub loop-found-smaller : goal.loop-found-smaller
loop-found-smaller c =
    let s = c.loop-found.invariant.0 in
    omega (arith, s.grown, s.found_word, c.loop-found-test.true)

pub loop-found-preserved : goal.loop-found-preserved
loop-found-preserved c =
    let l = c.loop-h in
    let none = c.in-None.ensures.steps.0 in
    (sweep_over l.invariant.0 none, λ p k. settle_over (l.invariant.1 p k) none)

pub returns : goal.returns
returns c = let l = c.loop-found in λ p k. settle_end l.invariant.0.found_word (l.invariant.1 p k) refl c.loop-found-test.false
