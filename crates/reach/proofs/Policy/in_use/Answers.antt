-- Some sort is a number above 0.
use mathlib.Core.Path.{◌∙◌, ap}
use lib.Dec.{ltb}
use Rattle.reach.specs.Reach.{in_use}
use Rattle.reach.proofs.Sorts.{some_sort}
use Rattle.reach.proofs.Policy.in_use.Goals as goal

pub returns : goal.returns
unfolding in_use
returns c = c.is_some.ensures ∙ some_sort _ ∙ ap (ltb 0) c.sort.ensures
