-- Some sort is a number above 0.
use mathlib.Core.Path.{◌∙◌, ap}
use lib.Dec.{ltb}
use Rattle.reach.proofs.Sorts.{some_sort}
use Rattle.reach.proofs.Objects.in_use.Goals as goal

pub returns : goal.returns
returns c = c.is_some.ensures ∙ some_sort _ ∙ ap (ltb 0) c.sort_at.ensures
