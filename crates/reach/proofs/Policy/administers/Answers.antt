-- One appointment of his has its A above a and its B above b.
use mathlib.Core.Path.{sym}
use Rattle.reach.proofs.Testing.{fails, refuted}
use Rattle.reach.proofs.Deciding.{administers_decides}
use Rattle.reach.proofs.Meeting.{user_by, climbed, pair_covered}
use Rattle.reach.proofs.Policy.administers.Goals as goal

pub returns-then-not-is_user : goal.returns-then-not-is_user
returns-then-not-is_user c =
    sym (fails _ (administers_decides _ _ _ _) (λ h. refuted (user_by _ _ c.is_user.ensures) c.if-not-is_user.true h.user))

pub returns : goal.returns
returns c =
    pair_covered _
    ((user_by _ _ c.is_user.ensures).sound c.if-not-is_user.false)
    (climbed _ c.above.ensures)
    _
    (climbed _ c.above-2.ensures)
    c.covers_pair.ensures
