-- Reading goes on at the place after the step that is told.
use Rattle.std.specs.Prelude.{Some}
use mathlib.Core.Path.{ap, ◌∙◌}
use native.Mathlib.Omega.{arith}
use Rattle.frame.proofs.Giving.{after_told}
use Rattle.frame.proofs.reading.read_after.Goals as goal

pub returns-in-Some-Ok : goal.returns-in-Some-Ok
returns-in-Some-Ok c = omega (arith, after_told c.read_at.ensures (c.in-Some-Ok.is ∙ ap Some c.in-Some-Ok.field-0-is))

pub returns-in-Some-Err : goal.returns-in-Some-Err
returns-in-Some-Err c = omega (arith, after_told c.read_at.ensures (c.in-Some-Err.is ∙ ap Some c.in-Some-Err.field-0-is))

pub returns-in-None : goal.returns-in-None
returns-in-None c = omega (arith, after_told c.read_at.ensures c.in-None.is)
