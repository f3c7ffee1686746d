use native.Mathlib.Omega.{arith}
use mathlib.Core.Logic.{inl, inr}
use Rattle.reach.specs.Asking.{UnderSomeBy}
use Rattle.reach.proofs.Owning.{in_use_byte, unused_zero, unused_unknown, look_start, look_met, look_not, grown_group, grown_other}
use Rattle.reach.proofs.Owning.{look_empty, look_left, look_owned, look_over}
use Rattle.std.proofs.Common.{rules}
use Rattle.reach.proofs.orphans.scan.Goals.{then-memberships-x-eq0+else-set-x-eq0, else-memberships-x-eq0}
use Rattle.reach.proofs.orphans.scan.Goals as goal

pub loop-x-init : goal.loop-x-init
loop-x-init c = (search rules, look_start)

pub loop-x-preserved-then-sort-eq0 : goal.loop-x-preserved-then-sort-eq0
loop-x-preserved-then-sort-eq0 c =
    let k = c.loop-x.invariant.1 in
    (search rules, look_empty k (unused_zero _ _ _ c.loop-x-test.true c.if-sort-eq0.true))

pub loop-x-preserved-then-sort-gt3 : goal.loop-x-preserved-then-sort-gt3
loop-x-preserved-then-sort-gt3 c =
    let k = c.loop-x.invariant.1 in
    (search rules, look_empty k (unused_unknown _ _ _ c.loop-x-test.true (omega (arith, c.if-sort-gt3.true))))

pub loop-x-preserved-then-set-x-eq0 : goal.loop-x-preserved-then-set-x-eq0
loop-x-preserved-then-set-x-eq0 c =
    let k = c.loop-x.invariant.1 in
    let low = c.loop-x-test.true in
    (search rules, look_left k low (in_use_byte _ _ _ low c.if-sort-eq0.false (omega (arith, c.if-sort-gt3.false))) (look_not k _ (omega (arith, c.if-set-x-eq0.true))))

pub loop-x-preserved-then-sort : goal.loop-x-preserved-then-sort
loop-x-preserved-then-sort c =
    let owned : let l = c.loop-x in
    UnderSomeBy c.args.objects.sorts.now
    c.args.objects.memberships.now
    c.args.set
    l.x = let low = c.loop-x-test.true in
    look_met c.loop-x.invariant.1 _ low (in_use_byte _ _ _ low c.if-sort-eq0.false (omega (arith, c.if-sort-gt3.false)))
    (elim c.if-memberships-x-eq0.branch [ then-memberships-x-eq0+else-set-x-eq0 w ↦ inr w.if-set-x-eq0.false | else-memberships-x-eq0 w ↦ inl w.if-memberships-x-eq0.false ]) in
    let k = c.loop-x.invariant.1 in
    (search rules, look_owned k (grown_other k _ c.if-sort.true owned))

pub loop-x-preserved : goal.loop-x-preserved
loop-x-preserved c =
    let owned : let l = c.loop-x in
    UnderSomeBy c.args.objects.sorts.now
    c.args.objects.memberships.now
    c.args.set
    l.x = let below = c.loop-x-test.true in
    look_met c.loop-x.invariant.1 _ below (in_use_byte _ _ _ below c.if-sort-eq0.false (omega (arith, c.if-sort-gt3.false)))
    (elim c.if-memberships-x-eq0.branch [ then-memberships-x-eq0+else-set-x-eq0 w ↦ inr w.if-set-x-eq0.false | else-memberships-x-eq0 w ↦ inl w.if-memberships-x-eq0.false ]) in
    let k = c.loop-x.invariant.1 in
    (search rules, look_owned k (grown_group k _ c.loop-x-test.true c.if-sort.false owned))

pub returns : goal.returns
returns c = let l = c.loop-x in look_over l.invariant.1 (omega (arith, l.invariant.0, c.loop-x-test.false))
