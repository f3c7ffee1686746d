-- Some post is a number above 0.
use mathlib.Core.Path.{◌∙◌, ap}
use lib.Dec.{ltb}
use Rattle.reach.specs.Tables.{standing}
use Rattle.reach.proofs.Sorts.{some_post}
use Rattle.reach.proofs.Appointment.standing.Goals as goal

pub returns : goal.returns
unfolding standing
returns c = c.is_some.ensures ∙ some_post _ ∙ ap (ltb 0) c.of.ensures
