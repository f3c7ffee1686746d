-- What is in the set and in use, less what is under something of the other.
use mathlib.Core.Path.{refl}
use Rattle.reach.specs.Asking.{reach_of}
use Rattle.reach.proofs.WordSets.{set_as, set_mask, set_not, set_below}
use Rattle.reach.proofs.Objects.not_under.Goals as goal

pub returns : goal.returns
returns c =
    let a = c.args in
    let m = c.masks_of-m.ensures (reach_of a.self.sorts.now a.self.memberships.now) refl in
    let used = set_mask a.set m.objects in
    let under = c.descend-under.ensures _ (record { rows = refl; masks = m }) in
    set_as
    (set_mask _ (set_not under))
    (λ x w. let i = used.only x w.0 in (i.0, i.1, w.1.1))
    (λ x w. (used.all x (w.0, w.1), (set_below used x (w.0, w.1), w.2)))
