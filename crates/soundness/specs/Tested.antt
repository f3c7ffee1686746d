-- The clauses of `Sound` as tests that compute. That a policy that breaks none of them is sound is proved in proofs/.
use Rattle.std.specs.Prelude.{Bool, false, not, ◌&&◌, ◌^◌, eqb, leb, get_or}
use Rattle.reach.specs.declared.Policy.{Policy}
use Rattle.reach.specs.declared.Appointment.{Appointment}
use Rattle.reach.specs.declared.AccessRule.{AccessRule}
use Rattle.reach.specs.Tests.{◌⇒◌∥◌, some}
use Rattle.reach.specs.Tables.{stored, appointment, standing, rule}
use Rattle.reach.specs.Reach.{in_use, is_group, is_user}
use Rattle.reach.specs.Privileges.{administrator, orphaned}

-- What APPOINT, and GRANT, can ask for.
abbrev pub appointable : Policy → Appointment → Bool
appointable p w =
    leb 1 w.kind && leb w.kind 3 && is_user p w.holder && is_group p w.a
    && (eqb w.kind administrator ⇒ is_group p w.b ∥ eqb w.b 0)

abbrev pub grantable : Policy → AccessRule → Bool
grantable p r = is_group p r.users && is_group p r.targets && not (eqb r.operations 0)

-- Some membership, some appointment that stands, some rule in use does not fit. An object stored in nothing is passed over.
unfoldable pub stray_membership : Policy → Bool
stray_membership p =
    some 64 (λ x. not (eqb (get_or p.memberships x 0) 0) && some 64 (λ g. stored p x g && not (in_use p x && is_group p g)))

unfoldable pub misfit_appointment : Policy → Bool
misfit_appointment p = some 32 (λ i. standing (appointment p i) && not (appointable p (appointment p i)))

unfoldable pub misfit_rule : Policy → Bool
misfit_rule p = some 64 (λ i. (rule p i).used && not (grantable p (rule p i)))

-- Which clauses a policy breaks: of memberships, appointments, rules and owners.
pub record Broken : Type 0 where
  pub memberships : Bool
  pub appointments : Bool
  pub rules : Bool
  pub owners : Bool

abbrev pub broken : Policy → Broken
broken p =
    record { memberships = stray_membership p; appointments = misfit_appointment p; rules = misfit_rule p; owners = orphaned p }

-- None of them.
abbrev pub unbroken : Broken
unbroken = record { memberships = false; appointments = false; rules = false; owners = false }

-- Some row of the memberships is no word: with no policy that the program holds.
unfoldable pub wide_row : Policy → Bool
wide_row p = some 64 (λ x. leb (2 ^ 64) (get_or p.memberships x 0))
