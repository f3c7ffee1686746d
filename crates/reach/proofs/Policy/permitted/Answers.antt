-- Of all that is under the T of a rule that covers him and has the operation, the targets.
use native.Mathlib.Omega.{arith}
use mathlib.Core.Path.{refl}
use Rattle.reach.proofs.Testing.{refuted}
use Rattle.reach.proofs.WordSets.{set_none}
use Rattle.reach.proofs.Meeting.{user_by, climbed, granted_below}
use Rattle.reach.proofs.Policy.permitted.Goals as goal

pub returns-then-not-is_user : goal.returns-then-not-is_user
returns-then-not-is_user c = set_none (λ x h. refuted (user_by _ _ c.is_user.ensures) c.if-not-is_user.true h.user)

pub returns-then-k-ge8 : goal.returns-then-k-ge8
returns-then-k-ge8 c = set_none (λ x h. omega (arith, h.number, c.if-k-ge8.true))

pub returns : goal.returns
returns c =
    granted_below _
    (climbed _ c.above.ensures)
    _
    c.granted_over-granted.ensures
    (c.descend.ensures _ (record { rows = refl; masks = c.masks_of-m.ensures _ refl }))
    (c.masks_of-m.ensures _ refl).targets
    ((user_by _ _ c.is_user.ensures).sound c.if-not-is_user.false)
    (omega (arith, c.if-k-ge8.false))
