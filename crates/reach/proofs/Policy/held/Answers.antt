-- Each answer is that of the policy's own question: the appointments are held against both climbs, if u is a user.
use mathlib.Core.Path.{◌∙◌}
use Rattle.reach.proofs.Meeting.{user_by, direct_by}
use Rattle.reach.proofs.Holding.{held_by}
use Rattle.reach.proofs.Policy.held.Goals as goal

pub returns : goal.returns
returns c =
    held_by _ _ _ _
    (user_by _ _ c.is_user-user.ensures)
    c.given_to-given.ensures.0.owner
    c.given_to-given.ensures.0.manager
    c.above-over_x.ensures
    c.above-over_y.ensures
    c.given_to-given.ensures.1
    (c.direct.ensures ∙ direct_by _ _ _)
