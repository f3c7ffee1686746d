-- `all` answers of every appointment what `appointment_fits` decides of one.
use Rattle.std.proofs.Common.{rules}
use Rattle.std.proofs.lemmas.Iterator.{cases_from_all, YieldsList-from_slice}
use Rattle.soundness.specs.Masked.{AppointmentIn}
use Rattle.soundness.proofs.Tying.{decides_every, holds, fails}
use Rattle.soundness.proofs.appointments_fit.Goals as goal

pub returns : goal.returns
returns c =
    let m = c.args.m in
    decides_every (AppointmentIn m) c.args.appointments.now _ _ (search rules)
    (cases_from_all _ _ _ (AppointmentIn m) (λ w. AppointmentIn m w → ⊥) c.all.ensures.ran
    (YieldsList-from_slice c.args.appointments.now (cc))
    (λ x q k. search (rules, holds))
    (λ x q k. search (rules, fails)))
