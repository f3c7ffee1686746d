use lib.Dec.{eqb}
use lib.ListN.{get_or}
use Rattle.reach.specs.Tables.{no_appointment}
use Rattle.reach.proofs.Marking.{places_of, mark_start, mark_low, mark_step, seen_set_start, seen_set_step, seen_set_end}
use Rattle.reach.proofs.Marking.{seen_test_start, seen_test_step, seen_test_end}
use Rattle.reach.proofs.Posting.{held_posted, held_pair, appointed_over}
use Rattle.std.proofs.Common.{rules}
use Rattle.reach.proofs.appointments.given_to.Goals as goal

pub loop-i-init : goal.loop-i-init
loop-i-init c =
    let placed = places_of (λ j. (get_or c.args.appointments.now j no_appointment).holder) (c.places.ensures (λ w. eqb w.holder c.args.u) (λ w t e. search rules)) in
    rw (c.into_iter-i-iterator.ensures.into_iter_gives, c.from.ensures) (
      mark_start placed (search rules) (λ j e. e),
      seen_set_start _ placed (λ j a v. v.1.is_holder),
      seen_set_start _ placed (λ j a v. v.1.is_holder),
      seen_test_start _ placed (λ j v. v.is_holder),
    )

pub bounds-appointments-i : goal.bounds-appointments-i
bounds-appointments-i c = mark_low c.loop-i.invariant.0 c.in-Some.ensures.steps

pub loop-i-preserved : goal.loop-i-preserved
loop-i-preserved c =
    let l = c.loop-i in
    let o = c.in-Some.ensures.steps in
    let e = l.invariant.0.holds _ o.in_set in (
      mark_step l.invariant.0 o,
      seen_set_step _ l.invariant.0 o l.invariant.1 (held_posted e c.posts_by-posts.ensures.0),
      seen_set_step _ l.invariant.0 o l.invariant.2 (held_posted e c.posts_by-posts.ensures.1),
      seen_test_step _ _ _ l.invariant.0 o l.invariant.3 (held_pair e c.pair_by-pair.ensures),
    )

pub returns : goal.returns
returns c =
    let l = c.loop-i in
    let z = c.in-None.ensures.steps.0 in (
      record { owner = appointed_over (seen_set_end _ l.invariant.1 z); manager = appointed_over (seen_set_end _ l.invariant.2 z) },
      seen_test_end _ l.invariant.3 z,
    )
