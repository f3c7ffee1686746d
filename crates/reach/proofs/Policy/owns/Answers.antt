-- What he is appointed over meets what x is under; who is no user holds nothing.
use mathlib.Core.Path.{sym}
use Rattle.reach.proofs.Testing.{decides_same, fails, refuted}
use Rattle.reach.proofs.Deciding.{holds_decides}
use Rattle.reach.proofs.Meeting.{user_by, climbed, posts_of_user, holds_meets}
use Rattle.reach.proofs.Policy.owns.Goals as goal

pub returns-then-not-is_user : goal.returns-then-not-is_user
returns-then-not-is_user c = sym (fails _ (holds_decides _ _ _ _) (λ h. refuted (user_by _ _ c.is_user.ensures) c.if-not-is_user.true h.user))

pub returns : goal.returns
returns c =
    let user = (user_by _ _ c.is_user.ensures).sound c.if-not-is_user.false in
    decides_same _ _
    (holds_meets _ (posts_of_user _ user c.posts_of.ensures).owner (climbed _ c.above.ensures))
    (holds_decides _ _ _ _)
