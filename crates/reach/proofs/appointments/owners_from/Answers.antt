use lib.Dec.{eqb}
use lib.ListN.{get_or}
use Rattle.reach.specs.Tables.{no_appointment}
use Rattle.reach.proofs.Marking.{places_of, mark_start, mark_low, mark_step, seen_set_start, seen_set_step, seen_set_end}
use Rattle.reach.proofs.Posting.{owner_posted}
use Rattle.std.proofs.Common.{rules}
use Rattle.reach.proofs.appointments.owners_from.Goals as goal

pub loop-i-init : goal.loop-i-init
loop-i-init c =
    let placed = places_of (λ j. (get_or c.args.appointments.now j no_appointment).kind) (c.places.ensures (λ w. eqb w.kind 1) (λ w t e. search rules)) in
    rw (c.into_iter-i-iterator.ensures.into_iter_gives, c.from.ensures) (
      mark_start placed (search rules) (λ j e. e),
      seen_set_start _ placed (λ j a v. v.1.is_kind),
    )

pub bounds-appointments-i : goal.bounds-appointments-i
bounds-appointments-i c = mark_low c.loop-i.invariant.0 c.in-Some.ensures.steps

pub loop-i-preserved : goal.loop-i-preserved
loop-i-preserved c =
    let l = c.loop-i in
    let o = c.in-Some.ensures.steps in (
      mark_step l.invariant.0 o,
      seen_set_step _ l.invariant.0 o l.invariant.1
          (owner_posted _ (l.invariant.0.holds _ o.in_set) c.is_user.ensures c.just.ensures c.only_if-set.ensures),
    )

pub returns : goal.returns
returns c = seen_set_end _ c.loop-i.invariant.1 c.in-None.ensures.steps.0
