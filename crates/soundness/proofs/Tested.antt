-- A policy of which no test of the clauses finds a fault is sound: so soundness of a written policy is found by computation.
-- A test that finds no fault finds none at any place of its table, and past the tables nothing is stored, stands or is in use.
use mathlib.Core.Path.{◌≡◌, refl, sym, ap, ◌∙◌}
use mathlib.Core.Bool.{Bool, true, false, not, ◌&&◌, true≢false, false≢true}
use Prim.Native.Nat.{ℕ, ◌<◌}
use native.Mathlib.Decide.{dec_lt}
use native.Mathlib.Omega.{arith}
use lib.ListN.{get_or}
use borrow.Author.Tests.{leb-true, leb-false, eqb-true, eqb-false, eq-eqb, ne_eqb, not-true}
use Rattle.reach.specs.declared.Policy.{Policy}
use Rattle.reach.specs.declared.Appointment.{Appointment}
use Rattle.reach.specs.declared.AccessRule.{AccessRule}
use Rattle.reach.specs.Tests.{some}
use Rattle.reach.specs.Words.{bit}
use Rattle.reach.specs.Tables.{Sized, view, counted, stored, appointment, standing, rule, no_appointment, no_rule}
use Rattle.reach.specs.Privileges.{administrator}
use Rattle.reach.proofs.Bits.{bit_none}
use Rattle.reach.proofs.Lists.{get_d_past}
use Rattle.reach.proofs.Testing.{decides_and, decides_true, decides_eqb, fails, some_found}
use Rattle.reach.proofs.WordSets.{set_bits, set_below, has_decides}
use Rattle.reach.proofs.Sorts.{counted_known}
use Rattle.reach.proofs.Chains.{decides_in_use}
use Rattle.reach.proofs.Deciding.{standing_decides}
use Rattle.rules.specs.Allowing.{Appointable}
use Rattle.rules.proofs.Giving.{orphaned_passes}
use Rattle.soundness.specs.Soundness.{MembersFit, AppointmentsFit, Grantable, RulesFit, Sound}
use Rattle.soundness.specs.Tested.{appointable, grantable, stray_membership, misfit_appointment, misfit_rule, wide_row, Broken, broken, unbroken}

-- A test that fails, fails at every number below its bound.
none_at : (n : ℕ) (t : ℕ → Bool) → some n t ≡ false → (i : ℕ) → i < n → t i ≡ false
none_at n t e i l = fails (t i) (decides_true (t i)) (λ h. true≢false (sym (some_found n t i l h) ∙ e))

-- What is asked about and is no fault passes.
passes : (a b : Bool) → a && not b ≡ false → a ≡ true → b ≡ true
passes true true e h = refl
passes true false e h = absurd (true≢false e)
passes false b e h = absurd (false≢true h)

-- One of two tests that do not both pass.
other : (a b : Bool) → a && b ≡ false → a ≡ true → b ≡ false
other true b e h = e
other false b e h = absurd (false≢true h)

-- Two that both pass.
both : {a b : Bool} → a && b ≡ true → (a ≡ true) × (b ≡ true)
both e = (decides_and _ _ (decides_true _) (decides_true _)).sound e

module _ (p : Policy) where
  -- The numbers that pass are those that APPOINT, and GRANT, can ask for.
  appointable_tested : (w : Appointment) → appointable p w ≡ true → Appointable (view p) w.kind w.holder w.a w.b
  appointable_tested w e =
      let c = both e in
      let a = both c.0 in
      let h = both a.0 in
      let k = both h.0 in
      record {
        known = (leb-true _ _ k.0, leb-true _ _ k.1);
        holder = eqb-true _ _ h.1;
        group_a = eqb-true _ _ a.1;
        group_b = λ q. eqb-true _ _ (rw (eq-eqb w.kind administrator q) at c.1);
        unread_b = λ n. eqb-true _ _ (rw (ne_eqb w.kind administrator n) at c.1);
      }

  grantable_tested : (r : AccessRule) → grantable p r ≡ true → Grantable (view p) r
  grantable_tested r e =
      let o = both e in
      let g = both o.0 in
      record {
        group_users = eqb-true _ _ g.0;
        group_targets = eqb-true _ _ g.1;
        some_operation = eqb-false _ _ (not-true _ o.1);
      }

module _ (p : Policy) (z : Sized p) where
  -- What is stored is stored on the table, in a row that is not empty.
  row_has : (x g : ℕ) → (view p).stored x g ≡ true → bit (get_or p.memberships x 0) g ≡ 1
  unfolding stored
  row_has x g s = (has_decides (get_or p.memberships x 0) g).sound s

  row_some : (x g : ℕ) → (view p).stored x g ≡ true → get_or p.memberships x 0 ≡ 0 → ⊥
  row_some x g s e = bit_none g (ap (λ (r : ℕ). bit r g) (sym e) ∙ row_has x g s)

  object_inside : (x g : ℕ) → (view p).stored x g ≡ true → x < 64
  object_inside x g s = at (dec_lt x 64)
    where
      at : Dec (x < 64) → x < 64
      at (yes l) = l
      at (no n) = absurd (row_some x g s (get_d_past p.memberships x 0 (omega (arith, z.memberships))))

  group_inside : wide_row p ≡ false → (x g : ℕ) → (view p).stored x g ≡ true → g < 64
  unfolding wide_row
  group_inside w x g s =
      let word = leb-false _ _ (none_at 64 _ w x (object_inside x g s)) in
      set_below (set_bits (get_or p.memberships x 0) word) g (row_has x g s)

  -- Clause by clause.
  pub memberships_tested : wide_row p ≡ false → stray_membership p ≡ false → MembersFit (view p)
  unfolding stray_membership
  memberships_tested w e x g s =
      let some_group = ap not (ne_eqb (get_or p.memberships x 0) 0 (row_some x g s)) in
      let row = other _ _ (none_at 64 _ e x (object_inside x g s)) some_group in
      let fits = passes _ _ (none_at 64 _ row g (group_inside w x g s)) s in
      (decides_and _ _ (decides_in_use p x) (decides_eqb _ 1)).sound fits

  pub appointments_tested : misfit_appointment p ≡ false → AppointmentsFit (view p)
  unfolding misfit_appointment appointment
  appointments_tested e i s = at (dec_lt i 32)
    where
      w : Appointment
      w = get_or p.appointments i no_appointment

      at : Dec (i < 32) → Appointable (view p) w.kind w.holder w.a w.b
      at (yes l) = appointable_tested p w (passes (standing w) (appointable p w) (none_at 32 _ e i l) ((standing_decides w).complete s))
      at (no n) =
          let past : w ≡ no_appointment = get_d_past p.appointments i no_appointment (omega (arith, z.appointments)) in
          absurd (omega (arith, s, ap (λ (w : Appointment). counted w.kind) past, counted_known 0 (omega arith)))

  pub rules_tested : misfit_rule p ≡ false → RulesFit (view p)
  unfolding misfit_rule rule
  rules_tested e i s = at (dec_lt i 64)
    where
      r : AccessRule
      r = get_or p.rules i no_rule

      at : Dec (i < 64) → Grantable (view p) r
      at (yes l) = grantable_tested p r (passes r.used (grantable p r) (none_at 64 _ e i l) s)
      at (no n) =
          let past : r ≡ no_rule = get_d_past p.rules i no_rule (omega (arith, z.rules)) in
          absurd (false≢true (ap (λ (r : AccessRule). r.used) (sym past) ∙ s))

  -- All of them.
  pub sound_tested : wide_row p ≡ false → broken p ≡ unbroken → Sound (view p)
  sound_tested w e =
      record {
        memberships = memberships_tested w (ap (λ (b : Broken). b.memberships) e);
        appointments = appointments_tested (ap (λ (b : Broken). b.appointments) e);
        rules = rules_tested (ap (λ (b : Broken). b.rules) e);
        owners = (orphaned_passes p).sound (ap (λ (b : Broken). b.owners) e);
      }
