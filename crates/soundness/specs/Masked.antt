-- The tables of a policy against masks of the sorts, whatever these are: what the tests of each table decide. That a policy is sound
-- exactly if its tables are so against its own masks, and it has no orphan, is proved in proofs/.
use Rattle.std.specs.Prelude.{◌≡◌, true, List, ℕ, ◌<◌, get_or}
use Rattle.reach.specs.declared.Appointment.{Appointment}
use Rattle.reach.specs.declared.AccessRule.{AccessRule}
use Rattle.reach.specs.declared.Masks.{Masks}
use Rattle.reach.specs.Words.{has}
use Rattle.reach.specs.Tables.{no_appointment, no_rule}
use Rattle.reach.specs.Privileges.{administrator}
use Rattle.rules.specs.Allowing.{Standing}

-- P of every place below n.
abbrev pub Every : ℕ → (ℕ → Type 0) → Type 0
Every n P = (i : ℕ) → i < n → P i

-- What x is stored as directly in is a group, and x is in use if anything is stored.
abbrev pub RowIn : Masks → ℕ → ℕ → Type 0
RowIn m row x = (g : ℕ) → has row g ≡ true → (has m.objects x ≡ true) × (has m.groups g ≡ true)

abbrev pub RowsIn : Masks → List ℕ → Type 0
RowsIn m rows = Every 64 (λ x. RowIn m (get_or rows x 0) x)

-- The numbers of an appointment that APPOINT can ask for; what an empty place holds is not asked.
pub record AppointableIn (m : Masks) (w : Appointment) : Type 0 where
  pub holder : has m.users w.holder ≡ true
  pub group_a : has m.groups w.a ≡ true
  pub group_b : w.kind ≡ administrator → has m.groups w.b ≡ true
  pub unread_b : (w.kind ≡ administrator → ⊥) → w.b ≡ 0

abbrev pub AppointmentIn : Masks → Appointment → Type 0
AppointmentIn m w = Standing w → AppointableIn m w

abbrev pub AppointmentsIn : Masks → List Appointment → Type 0
AppointmentsIn m l = Every 32 (λ i. AppointmentIn m (get_or l i no_appointment))

-- Those of a rule that GRANT can ask for.
pub record GrantableIn (m : Masks) (r : AccessRule) : Type 0 where
  pub group_users : has m.groups r.users ≡ true
  pub group_targets : has m.groups r.targets ≡ true
  pub some_operation : r.operations ≡ 0 → ⊥

abbrev pub RuleIn : Masks → AccessRule → Type 0
RuleIn m r = r.used ≡ true → GrantableIn m r

abbrev pub RulesIn : Masks → List AccessRule → Type 0
RulesIn m l = Every 64 (λ i. RuleIn m (get_or l i no_rule))
