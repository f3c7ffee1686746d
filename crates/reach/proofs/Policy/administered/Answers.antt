-- All that is under the B of an appointment of his whose A is above a.
use mathlib.Core.Path.{refl}
use Rattle.reach.proofs.Testing.{refuted}
use Rattle.reach.proofs.WordSets.{set_none}
use Rattle.reach.proofs.Meeting.{user_by, climbed, partners_below}
use Rattle.reach.proofs.Policy.administered.Goals as goal

pub returns-then-not-is_user : goal.returns-then-not-is_user
returns-then-not-is_user c = set_none (λ b h. refuted (user_by _ _ c.is_user.ensures) c.if-not-is_user.true h.user)

pub returns : goal.returns
returns c =
    partners_below _
    ((user_by _ _ c.is_user.ensures).sound c.if-not-is_user.false)
    (climbed _ c.above.ensures)
    c.sides_of-sides.ensures.1
    (c.descend.ensures _ (record { rows = refl; masks = c.masks_of.ensures _ refl }))
