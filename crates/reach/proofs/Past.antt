-- A change past its table changes nothing.
use mathlib.Core.Path.{◌≡◌, ap}
use Prim.Native.Nat.{ℕ, ◌≤◌, ◌<◌}
use native.Mathlib.Omega.{arith}
use Rattle.reach.specs.declared.Policy.{Policy}
use Rattle.reach.specs.declared.Appointment.{Appointment}
use Rattle.reach.specs.declared.AccessRule.{AccessRule}
use Rattle.reach.specs.Tables.{Sized}
use Rattle.reach.specs.Successors.{on_table, put, appointed, ruled, with_appointments, with_rules}
use Rattle.reach.proofs.Lists.{set_past}
use Rattle.reach.proofs.Testing.{decides_and, decides_ltb, fails}

pub put_past : (p : Policy) (x g : ℕ) → ((x < 64) × (g < 64) → ⊥) → put p x g ≡ p
unfolding put
put_past p x g n = rw (fails (on_table x g) (decides_and _ _ (decides_ltb x 64) (decides_ltb g 64)) n)

module _ (p : Policy) (z : Sized p) (i : ℕ) where
  pub appointed_past : (w : Appointment) → 32 ≤ i → appointed p i w ≡ p
  unfolding appointed
  appointed_past w l = ap (with_appointments p) (set_past p.appointments i w (omega (arith, l, z.appointments)))

  pub ruled_past : (r : AccessRule) → 64 ≤ i → ruled p i r ≡ p
  unfolding ruled
  ruled_past r l = ap (with_rules p) (set_past p.rules i r (omega (arith, l, z.rules)))
