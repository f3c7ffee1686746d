-- What is in use and not in the set that some user below 64 owns is an orphan: every user is a number below 64.
use Rattle.reach.proofs.WordSets.{set_as, set_mask, set_not, set_below}
use Rattle.reach.proofs.Deciding.{user_below}
use Rattle.reach_report.proofs.orphans.orphans.Goals as goal

pub returns : goal.returns
returns c =
    let objects = c.masks.ensures.objects in
    set_as
    (set_mask _ (set_not c.requires))
    (λ x w.
    record {
      object = objects.only x w.0;
      nobody = λ u o. w.1.1 (record { place = u; low = user_below _ u o.user; at = o });
    })
    (λ x o. (objects.all x o.object, (set_below objects x o.object, λ s. o.nobody s.place s.at)))
