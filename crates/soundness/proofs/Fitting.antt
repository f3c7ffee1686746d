-- What the tests of one row, one appointment and one rule decide, against any masks.
-- What a row has outside the groups is a set again, empty or not; the others are tests side by side, each deciding its field.
use mathlib.Core.Path.{◌≡◌, refl, sym, ap, ◌∙◌}
use mathlib.Core.Bool.{Bool, true, false, not, ◌&&◌, true≢false, false≢true}
use Prim.Native.Nat.{ℕ, ◌-◌, ◌^◌, ◌<◌}
use lib.Dec.{eqb}
use lib.Bits.{bit_and}
use borrow.Author.Tests.{ne_eqb}
use Rattle.reach.specs.declared.Appointment.{Appointment}
use Rattle.reach.specs.declared.AccessRule.{AccessRule}
use Rattle.reach.specs.declared.Masks.{Masks}
use Rattle.reach.specs.Tests.{Some, Decides}
use Rattle.reach.specs.Words.{bit, has, SetOf}
use Rattle.reach.specs.Tables.{standing}
use Rattle.reach.specs.Privileges.{administrator}
use Rattle.reach.proofs.Bits.{bit_none}
use Rattle.reach.proofs.Testing.{decides_as, decides_and, decides_not, decides_true, decides_eqb, refuted}
use Rattle.reach.proofs.WordSets.{set_bits, set_mask, set_not, set_empty, set_below, decides_nonempty, has_decides}
use Rattle.reach.proofs.Deciding.{standing_decides}
use Rattle.rules.specs.Allowing.{Standing}
use Rattle.soundness.specs.Masked.{RowIn, AppointmentIn, RuleIn}

-- A fact that holds, and one that does not.
pub always : {P : Type 0} → P → Decides true P
always p = record { sound = λ e. p; complete = λ q. refl }

pub never : {P : Type 0} → (P → ⊥) → Decides false P
never n = record { sound = λ e. absurd (false≢true e); complete = λ p. absurd (n p) }

-- ---- A row

module _ (m : Masks) (row x : ℕ) where
  -- Where nothing is stored there is nothing to ask.
  pub row_none : row ≡ 0 → RowIn m row x
  row_none e g h = absurd (bit_none g (ap (λ (n : ℕ). bit n g) (sym e) ∙ (has_decides row g).sound h))

  module _ (groups_word : m.groups < 2 ^ 64) where
    -- What is stored in no group.
    strays :
        SetOf (bit_and row (2 ^ 64 - 1 - m.groups)) (λ g. (bit row g ≡ 1) × ((g < 64) × (bit m.groups g ≡ 1 → ⊥)))
    strays = set_mask row (set_not (set_bits m.groups groups_word))

    -- One stray is enough to refuse the row.
    pub row_stray : (bit_and row (2 ^ 64 - 1 - m.groups) ≡ 0 → ⊥) → RowIn m row x → ⊥
    row_stray n f =
        let s = (decides_nonempty strays).sound (rw (ne_eqb (bit_and row (2 ^ 64 - 1 - m.groups)) 0 n)) in
        let r = (has_decides row s.place).complete s.at.0 in
        s.at.1.1 ((has_decides m.groups s.place).sound (f s.place r).1)

    -- Something is stored, and no stray: whether x is in use decides.
    pub row_in : row < 2 ^ 64 → (row ≡ 0 → ⊥) → bit_and row (2 ^ 64 - 1 - m.groups) ≡ 0
        → Decides (has m.objects x) (RowIn m row x)
    row_in w n e =
        decides_as
        (decides_true (has m.objects x))
        (λ used g r. (used, is_group g ((has_decides row g).sound r) (has m.groups g) (has_decides m.groups g)))
        (λ f. let s = some_bit in (f s.place ((has_decides row s.place).complete s.at)).0)
      where
        some_bit : Some 64 (λ g. bit row g ≡ 1)
        some_bit = (decides_nonempty (set_bits row w)).sound (rw (ne_eqb row 0 n))

        is_group : (g : ℕ) → bit row g ≡ 1 → (t : Bool) → Decides t (bit m.groups g ≡ 1) → t ≡ true
        is_group g i true d = refl
        is_group g i false d = absurd (set_empty strays e g (i, (set_below (set_bits row w) g i, refuted d refl)))

-- ---- An appointment

module _ (m : Masks) (w : Appointment) where
  -- An empty place is not asked about, whatever it holds.
  pub appointment_vacant : standing w ≡ false → AppointmentIn m w
  appointment_vacant e s = absurd (refuted (standing_decides w) e s)

  module _ (stands : standing w ≡ true) where
    place_in_use : Standing w
    place_in_use = (standing_decides w).sound stands

    -- The tests of an administrator, and of an owner or manager.
    pub administrator_in : w.kind ≡ administrator
        → Decides (has m.users w.holder && has m.groups w.a && has m.groups w.b) (AppointmentIn m w)
    administrator_in e =
        decides_as
        (decides_and _ _ (decides_and _ _ (decides_true _) (decides_true _)) (decides_true _))
        (λ h s. record { holder = h.0.0; group_a = h.0.1; group_b = λ k. h.1; unread_b = λ n. absurd (n e) })
        (λ f. let h = f place_in_use in ((h.holder, h.group_a), h.group_b e))

    pub other_in : (w.kind ≡ administrator → ⊥)
        → Decides (has m.users w.holder && has m.groups w.a && eqb w.b 0) (AppointmentIn m w)
    other_in n =
        decides_as
        (decides_and _ _ (decides_and _ _ (decides_true _) (decides_true _)) (decides_eqb w.b 0))
        (λ h s. record { holder = h.0.0; group_a = h.0.1; group_b = λ e. absurd (n e); unread_b = λ k. h.1 })
        (λ f. let h = f place_in_use in ((h.holder, h.group_a), h.unread_b n))

-- ---- A rule

module _ (m : Masks) (r : AccessRule) where
  -- The same of the rules.
  pub rule_vacant : r.used ≡ false → RuleIn m r
  rule_vacant e u = absurd (true≢false (sym u ∙ e))

  -- The tests of a rule in use.
  pub rule_read : r.used ≡ true
      → Decides (has m.groups r.users && has m.groups r.targets && not (eqb r.operations 0)) (RuleIn m r)
  rule_read u =
      decides_as
      (decides_and _ _ (decides_and _ _ (decides_true _) (decides_true _)) (decides_not _ (decides_eqb r.operations 0)))
      (λ h s. record { group_users = h.0.0; group_targets = h.0.1; some_operation = h.1 })
      (λ f. let h = f u in ((h.group_users, h.group_targets), h.some_operation))
