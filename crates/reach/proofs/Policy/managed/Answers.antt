-- All that is under what he is appointed over; who is no user holds nothing.
use mathlib.Core.Path.{refl}
use Rattle.reach.proofs.Testing.{refuted}
use Rattle.reach.proofs.WordSets.{set_none}
use Rattle.reach.proofs.Meeting.{user_by, posts_of_user, held_below}
use Rattle.reach.proofs.Policy.managed.Goals as goal

pub returns-then-not-is_user : goal.returns-then-not-is_user
returns-then-not-is_user c = set_none (λ x h. refuted (user_by _ _ c.is_user.ensures) c.if-not-is_user.true h.user)

pub returns : goal.returns
returns c =
    held_below _
    (posts_of_user _ ((user_by _ _ c.is_user.ensures).sound c.if-not-is_user.false) c.posts_of-posts.ensures).manager
    (c.descend.ensures _ (record { rows = refl; masks = c.masks_of.ensures _ refl }))
