-- The lowest rule with his groups and the groups of x, where there can be a permission at all.
use mathlib.Core.Path.{sym, ◌∙◌}
use Rattle.reach.proofs.Deciding.{permitting_not}
use Rattle.reach.proofs.Meeting.{askable_by, climbed, covering_is}
use Rattle.reach.proofs.Policy.permitting.Goals as goal

pub returns-then-not-is_user-is_target : goal.returns-then-not-is_user-is_target
returns-then-not-is_user-is_target c =
    permitting_not _ _ _ _
    (sym (askable_by _ _ _ _ c.is_user.ensures c.is_target.ensures)
    ∙ c.if-not-is_user-is_target.true)

pub returns : goal.returns
returns c =
    c.covering.ensures
    ∙ covering_is _
    (climbed _ c.above.ensures)
    _
    (climbed _ c.above-2.ensures)
    (sym (askable_by _ _ _ _ c.is_user.ensures c.is_target.ensures)
    ∙ c.if-not-is_user-is_target.false)
