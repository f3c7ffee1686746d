-- The kind is tested, and both sets asked.
use mathlib.Core.Path.{refl}
use native.Mathlib.Omega.{arith}
use Rattle.reach.proofs.Testing.{decides_as, decides_at, decides_and, decides_number}
use Rattle.reach.proofs.WordSets.{has_decides}
use Rattle.reach.proofs.appointments.pair_by.Goals as goal

pub returns : goal.returns
returns c =
    decides_as
    (decides_and _ _
    (decides_and _ _ (decides_number _ _ 3 (omega arith)) (decides_at c.has.ensures (has_decides _ _)))
    (decides_at c.has-2.ensures (has_decides _ _)))
    (λ v. record { is_kind = v.0.0; is_holder = refl; in_a = omega (arith, v.0.1); in_b = omega (arith, v.1) })
    (λ h. ((h.is_kind, omega (arith, h.in_a)), omega (arith, h.in_b)))
