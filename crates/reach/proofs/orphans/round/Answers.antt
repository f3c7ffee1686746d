use Rattle.reach.proofs.WordSets.{set_bits, set_or, set_one}
use Rattle.reach.proofs.Gathering.{without_lowest}
use Rattle.reach.proofs.Owning.{look_through, meets, grown_group, grown_other, look_freed}
use Rattle.reach.proofs.Owning.{round_start, round_none, round_freed, round_end}
use Rattle.std.proofs.Common.{rules}
use Rattle.reach.proofs.orphans.round.Goals as goal

pub loop-h-init : goal.loop-h-init
loop-h-init c =
    rw c.into_iter-h-iterator.ensures.into_iter_gives (round_start (search rules) (search rules), λ set k. k)

pub loop-h-preserved-then-memberships-h-eq0 : goal.loop-h-preserved-then-memberships-h-eq0
loop-h-preserved-then-memberships-h-eq0 c =
    let l = c.loop-h in
    let o = c.in-Some.ensures.steps in
    rw
    (without_lowest l.invariant.0.rest_word o)
    (round_none l.invariant.0 _ o.in_set c.if-memberships-h-eq0.true, l.invariant.1)

pub loop-h-preserved-then-sorts-h : goal.loop-h-preserved-then-sorts-h
loop-h-preserved-then-sorts-h c =
    let l = c.loop-h in
    let o = c.in-Some.ensures.steps in
    let e = l.invariant.0.within _ o.in_set in
    rw
    (without_lowest l.invariant.0.rest_word o) (
      round_freed l.invariant.0 _ o.in_set (set_or (set_bits l.groups l.invariant.0.groups_word) (set_one _ o.low)).word,
      λ set k.
          let n = l.invariant.1 set k in
          look_freed n _ e (grown_group n _ o.low c.if-sorts-h.true (look_through n _ (n.waiting _ e).0 (meets n _ c.if-memberships-h-eq0.false))),
    )

pub loop-h-preserved : goal.loop-h-preserved
loop-h-preserved c =
    let l = c.loop-h in
    let o = c.in-Some.ensures.steps in
    let e = l.invariant.0.within _ o.in_set in
    rw
    (without_lowest l.invariant.0.rest_word o) (
      round_freed l.invariant.0 _ o.in_set l.invariant.0.groups_word,
      λ set k.
          let n = l.invariant.1 set k in
          look_freed n _ e (grown_other n _ c.if-sorts-h.false (look_through n _ (n.waiting _ e).0 (meets n _ c.if-memberships-h-eq0.false))),
    )

pub returns : goal.returns
returns c =
    let l = c.loop-h in
    (l.invariant.0.less, λ e. round_end l.invariant.0 c.in-None.ensures.steps.0 e, l.invariant.1)
