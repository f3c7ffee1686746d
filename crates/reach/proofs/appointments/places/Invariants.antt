-- After i turns the set has the places below i whose appointment passes.
use mathlib.Core.Path.{◌≡◌}
use mathlib.Core.Bool.{Bool, true}
use Prim.Native.Nat.{◌<◌}
use lib.ListN.{get_or}
use Rattle.reach.specs.declared.Appointment.{Appointment}
use Rattle.reach.specs.Words.{SetOf}
use Rattle.reach.specs.Tables.{no_appointment}
use Rattle.reach.proofs.appointments.places.Given as goal

abbrev pub invariant-loop-i : goal.invariant-loop-i
invariant-loop-i g l =
    (passes : Appointment → Bool) → ((w : Appointment) (t : Bool) → goal.F-post g l.test w t → t ≡ passes w)
    → SetOf l.set (λ i. (i < l.i) × (passes (get_or l.appointments i no_appointment) ≡ true))
