-- The changes again, as what is read of the policy after each of them. That the successors read so is proved in proofs/.
use Rattle.std.specs.Prelude.{true, false, ◌&&◌, ℕ, eqb}
use Rattle.reach.specs.declared.Appointment.{Appointment}
use Rattle.reach.specs.declared.AccessRule.{AccessRule}
use Rattle.reach.specs.Tests.{◌⇒◌∥◌}
use Rattle.reach.specs.Tables.{counted, no_appointment, no_rule, View}

-- [01:who.3] "The new object is directly in it." [01:who.4] "Every other membership stored for the new number, on either side, is
-- cleared."
abbrev pub view_made : View → ℕ → ℕ → ℕ → View
view_made v x k g =
    record {
      sort = λ y. eqb y x ⇒ counted k ∥ v.sort y;
      stored = λ y h. eqb y x ⇒ eqb h g ∥ eqb h x ⇒ false ∥ v.stored y h;
      appointment = v.appointment;
      rule = v.rule;
    }

-- [01:who.6] "They add or remove that one direct membership."
abbrev pub view_put : View → ℕ → ℕ → View
view_put v x g =
    record {
      sort = v.sort;
      stored = λ y h. eqb y x && eqb h g ⇒ true ∥ v.stored y h;
      appointment = v.appointment;
      rule = v.rule;
    }

abbrev pub view_taken : View → ℕ → ℕ → View
view_taken v x g =
    record {
      sort = v.sort;
      stored = λ y h. eqb y x && eqb h g ⇒ false ∥ v.stored y h;
      appointment = v.appointment;
      rule = v.rule;
    }

-- APPOINT fills a place, and DISMISS empties it.
abbrev pub view_appointed : View → ℕ → Appointment → View
view_appointed v i w =
    record {
      sort = v.sort;
      stored = v.stored;
      appointment = λ j. eqb j i ⇒ w ∥ v.appointment j;
      rule = v.rule;
    }

abbrev pub view_dismissed : View → ℕ → View
view_dismissed v i = view_appointed v i no_appointment

-- [01:who.10] GRANT, WITHDRAW: "Fills or empties that place."
abbrev pub view_ruled : View → ℕ → AccessRule → View
view_ruled v i r =
    record {
      sort = v.sort;
      stored = v.stored;
      appointment = v.appointment;
      rule = λ j. eqb j i ⇒ r ∥ v.rule j;
    }

abbrev pub view_granted : View → ℕ → ℕ → ℕ → ℕ → View
view_granted v i u t o = view_ruled v i (record { used = true; users = u; targets = t; operations = o })

abbrev pub view_withdrawn : View → ℕ → View
view_withdrawn v i = view_ruled v i no_rule
