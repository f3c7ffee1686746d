-- `mark` gives the set that it is to: `1 << i` is the set of i alone.
use mathlib.Core.Bool.{true≢false}
use mathlib.Core.Path.{sym, ◌∙◌}
use Rattle.reach.proofs.WordSets.{set_as, set_one_half, set_none}
use Rattle.reach.proofs.sets.mark.Goals as goal

pub returns-then-passed : goal.returns-then-passed
returns-then-passed c = set_as (set_one_half _ c.requires) (λ x e. (e, c.if-passed.true)) (λ x w. w.0)

pub returns-else-passed : goal.returns-else-passed
returns-else-passed c = set_none (λ x w. true≢false (sym w.1 ∙ c.if-passed.false))
