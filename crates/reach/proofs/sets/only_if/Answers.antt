-- The set, or nothing, as the test says.
use mathlib.Core.Path.{sym, ◌∙◌}
use mathlib.Core.Bool.{true≢false}
use Rattle.reach.proofs.WordSets.{set_as, set_bits, set_none}
use Rattle.reach.proofs.sets.only_if.Goals as goal

pub returns-then-passed : goal.returns-then-passed
returns-then-passed c = set_as (set_bits _ c.ranges.set.fits) (λ x e. (c.if-passed.true, e)) (λ x w. w.1)

pub returns-else-passed : goal.returns-else-passed
returns-else-passed c = set_none (λ x w. true≢false (sym w.0 ∙ c.if-passed.false))
