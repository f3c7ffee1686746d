-- Policies with the same record at every place agree in every place in use and every membership, and the other way round: a record says all
-- that a place in use holds.
use mathlib.Core.Path.{◌≡◌, refl, sym, ap, ◌∙◌, subst}
use mathlib.Core.Bool.{Bool, true, false, false≢true}
use mathlib.Core.Logic.{◌⊎◌, inl, inr, ⊎_elim}
use Prim.Native.Nat.{ℕ, ◌+◌, ◌*◌, ◌≤◌, ◌<◌}
use native.Mathlib.Decide.{dec_lt}
use native.Mathlib.Omega.{arith}
use borrow.Author.Tests.{ltb-false, le-ltb}
use Rattle.std.specs.Prelude.{Option, Some, None}
use Rattle.reach.specs.declared.Policy.{Policy}
use Rattle.reach.specs.declared.Appointment.{Appointment}
use Rattle.reach.specs.declared.AccessRule.{AccessRule}
use Rattle.reach.specs.Tests.{◌⇒◌∥◌}
use Rattle.reach.specs.Tables.{View, view, Sized, sort, appointment, rule, counted, standing, no_appointment, no_rule}
use Rattle.reach.proofs.Lists.{get_d_past}
use Rattle.reach.proofs.Sorts.{counted_known, sort_le}
use Rattle.reach.proofs.Deciding.{standing_decides}
use Rattle.rules.specs.Allowing.{Standing}
use Rattle.snapshot.specs.declared.Entry.{Entry}
use Rattle.snapshot.specs.declared.Entry.TheVariants.{Object, Membership, Appointed, Granted}
use Rattle.snapshot.specs.Card.{known, bytes_of, object_of, membership_of, appointed_of, granted_of}
use Rattle.snapshot.specs.Card.{object_at, membership_at, appointed_at, granted_at, file_of, Same}
use Rattle.snapshot.specs.Loading.{places, entry}
use Rattle.snapshot.proofs.Runs.{from_same}
use Rattle.snapshot.proofs.Places.{at_object, at_membership, at_appointed, at_granted, each, file_is}
use Rattle.snapshot.proofs.Blank.{Inside}

-- ---- What a record says of its place

abbrev sort_in : Option Entry → ℕ
sort_in (Some (Object x s)) = s
sort_in (Some (Membership x g)) = 0
sort_in (Some (Appointed i k h a b)) = 0
sort_in (Some (Granted i u t o)) = 0
sort_in None = 0

abbrev stored_in : Option Entry → Bool
stored_in (Some (Object x s)) = false
stored_in (Some (Membership x g)) = true
stored_in (Some (Appointed i k h a b)) = false
stored_in (Some (Granted i u t o)) = false
stored_in None = false

abbrev appointment_in : Option Entry → Appointment
appointment_in (Some (Object x s)) = no_appointment
appointment_in (Some (Membership x g)) = no_appointment
appointment_in (Some (Appointed i k h a b)) = record { kind = k; holder = h; a = a; b = b }
appointment_in (Some (Granted i u t o)) = no_appointment
appointment_in None = no_appointment

abbrev rule_in : Option Entry → AccessRule
rule_in (Some (Object x s)) = no_rule
rule_in (Some (Membership x g)) = no_rule
rule_in (Some (Appointed i k h a b)) = no_rule
rule_in (Some (Granted i u t o)) = record { used = true; users = u; targets = t; operations = o }
rule_in None = no_rule

sort_read : (s x : ℕ) → s ≤ 3 → sort_in (object_of s x) ≡ s
sort_read s x l = go (known s) refl
  where
    go : (t : Bool) → known s ≡ t → sort_in (t ⇒ Some (Object x s) ∥ None) ≡ s
    go true e = refl
    go false e = omega (arith, ltb-false 0 (counted s) e, counted_known s l)

stored_read : (t : Bool) (x g : ℕ) → stored_in (membership_of t x g) ≡ t
stored_read true x g = refl
stored_read false x g = refl

-- An appointment that stands is what its record says; and a record says none but of one that stands.
appointment_read : (w : Appointment) (i : ℕ) → Standing w → appointment_in (appointed_of w i) ≡ w
appointment_read w i s = rw ((standing_decides w).complete s)

appointment_some : (w : Appointment) (i : ℕ) → Standing (appointment_in (appointed_of w i)) → Standing w
appointment_some w i = go (standing w)
  where
    go : (t : Bool) → Standing (appointment_in (t ⇒ Some (Appointed i w.kind w.holder w.a w.b) ∥ None)) → Standing w
    go true s = s
    go false s = absurd (omega (arith, s, counted_known 0 (omega arith)))

rule_read : (r : AccessRule) (i : ℕ) → r.used ≡ true → rule_in (granted_of r i) ≡ r
rule_read r i e = rw e

rule_some : (r : AccessRule) (i : ℕ) → (rule_in (granted_of r i)).used ≡ true → r.used ≡ true
rule_some r i = go r.used
  where
    go : (t : Bool) → (rule_in (t ⇒ Some (Granted i r.users r.targets r.operations) ∥ None)).used ≡ true → t ≡ true
    go true e = refl
    go false e = absurd (false≢true e)

-- Two places with the same record.
appointed_alike : (w z : Appointment) (i : ℕ) → appointed_of w i ≡ appointed_of z i → Standing w → w ≡ z
appointed_alike w z i e s =
    let a : appointment_in (appointed_of z i) ≡ w = ap appointment_in (sym e) ∙ appointment_read w i s in
    sym a ∙ appointment_read z i (appointment_some z i (subst Standing (sym a) s))

granted_alike : (r s : AccessRule) (i : ℕ) → granted_of r i ≡ granted_of s i → r.used ≡ true → r ≡ s
granted_alike r s i e u =
    let a : rule_in (granted_of s i) ≡ r = ap rule_in (sym e) ∙ rule_read r i u in
    sym a ∙ rule_read s i (rule_some s i (ap (λ (w : AccessRule). w.used) a ∙ u))

-- ---- Past the tables

sort_past : (p : Policy) (x : ℕ) → 64 ≤ x → sort p x ≡ 0
unfolding sort
sort_past p x l = rw (le-ltb x 64 l)

appointment_past : (p : Policy) → Sized p → (i : ℕ) → 32 ≤ i → appointment p i ≡ no_appointment
unfolding appointment
appointment_past p z i l = get_d_past p.appointments i no_appointment (omega (arith, z.appointments))

rule_past : (p : Policy) → Sized p → (i : ℕ) → 64 ≤ i → rule p i ≡ no_rule
unfolding rule
rule_past p z i l = get_d_past p.rules i no_rule (omega (arith, z.rules))

stored_past : (v : View) → Inside v → (x g : ℕ) → ((x < 64) × (g < 64) → ⊥) → v.stored x g ≡ false
stored_past v n x g m = go (v.stored x g) refl
  where
    go : (t : Bool) → v.stored x g ≡ t → t ≡ false
    go true e = absurd (m (n x g e))
    go false e = refl

-- ---- The same records, the same policy

module _ (p q : Policy) (z : Sized p) (y : Sized q) (n : Inside (view p)) (m : Inside (view q))
    (h : (k : ℕ) → k < places → entry (view p) k ≡ entry (view q) k) where
  sorts : (x : ℕ) → sort p x ≡ sort q x
  unfolding places object_at
  sorts x = go (dec_lt x 64)
    where
      go : Dec (x < 64) → sort p x ≡ sort q x
      go (yes l) =
          sym (sort_read (sort p x) x (sort_le p x))
          ∙ ap sort_in (sym (at_object (view p) x l) ∙ h x (omega arith) ∙ at_object (view q) x l)
          ∙ sort_read (sort q x) x (sort_le q x)
      go (no l) = sort_past p x (omega arith) ∙ sym (sort_past q x (omega arith))

  memberships : (x g : ℕ) → (view p).stored x g ≡ (view q).stored x g
  unfolding places membership_at
  memberships x g = go (dec_lt x 64) (dec_lt g 64)
    where
      go : Dec (x < 64) → Dec (g < 64) → (view p).stored x g ≡ (view q).stored x g
      go (yes a) (yes b) =
          sym (stored_read ((view p).stored x g) x g)
          ∙ ap stored_in (sym (at_membership (view p) x g a b) ∙ h (64 + 64 * x + g) (omega arith) ∙ at_membership (view q) x g a b)
          ∙ stored_read ((view q).stored x g) x g
      go (no a) b = stored_past (view p) n x g (λ c. a c.0) ∙ sym (stored_past (view q) m x g (λ c. a c.0))
      go (yes a) (no b) = stored_past (view p) n x g (λ c. b c.1) ∙ sym (stored_past (view q) m x g (λ c. b c.1))

  appointments : (i : ℕ) → Standing ((view p).appointment i) ⊎ Standing ((view q).appointment i)
      → (view p).appointment i ≡ (view q).appointment i
  unfolding places appointed_at
  appointments i = go (dec_lt i 32)
    where
      go : Dec (i < 32) → Standing ((view p).appointment i) ⊎ Standing ((view q).appointment i)
          → (view p).appointment i ≡ (view q).appointment i
      go (yes l) s =
          let e : appointed_of ((view p).appointment i) i ≡ appointed_of ((view q).appointment i) i =
          sym (at_appointed (view p) i l) ∙ h (4160 + i) (omega arith) ∙ at_appointed (view q) i l in
          ⊎_elim (λ a. appointed_alike _ _ i e a) (λ a. sym (appointed_alike _ _ i (sym e) a)) s
      go (no l) s = appointment_past p z i (omega arith) ∙ sym (appointment_past q y i (omega arith))

  rules : (i : ℕ) → (((view p).rule i).used ≡ true) ⊎ (((view q).rule i).used ≡ true) → (view p).rule i ≡ (view q).rule i
  unfolding places granted_at
  rules i = go (dec_lt i 64)
    where
      go : Dec (i < 64) → (((view p).rule i).used ≡ true) ⊎ (((view q).rule i).used ≡ true) → (view p).rule i ≡ (view q).rule i
      go (yes l) s =
          let e : granted_of ((view p).rule i) i ≡ granted_of ((view q).rule i) i =
          sym (at_granted (view p) i l) ∙ h (4192 + i) (omega arith) ∙ at_granted (view q) i l in
          ⊎_elim (λ a. granted_alike _ _ i e a) (λ a. sym (granted_alike _ _ i (sym e) a)) s
      go (no l) s = rule_past p z i (omega arith) ∙ sym (rule_past q y i (omega arith))

  pub same_of_entries : Same (view p) (view q)
  same_of_entries = record { sorts = sorts; memberships = memberships; appointments = appointments; rules = rules }

-- ---- The same policy, the same file

module _ (v w : View) (s : Same v w) where
  object_as : (x : ℕ) → object_at v x ≡ object_at w x
  unfolding object_at
  object_as x = ap (λ (n : ℕ). object_of n x) (s.sorts x)

  membership_as : (x g : ℕ) → membership_at v x g ≡ membership_at w x g
  unfolding membership_at
  membership_as x g = ap (λ (t : Bool). membership_of t x g) (s.memberships x g)

  appointed_as : (i : ℕ) → appointed_at v i ≡ appointed_at w i
  unfolding appointed_at
  appointed_as i = go (standing (v.appointment i)) refl (standing (w.appointment i)) refl
    where
      go : (t : Bool) → standing (v.appointment i) ≡ t → (u : Bool) → standing (w.appointment i) ≡ u
          → appointed_of (v.appointment i) i ≡ appointed_of (w.appointment i) i
      go true e u f =
          ap (λ (a : Appointment). appointed_of a i) (s.appointments i (inl ((standing_decides (v.appointment i)).sound e)))
      go false e true f =
          ap (λ (a : Appointment). appointed_of a i) (s.appointments i (inr ((standing_decides (w.appointment i)).sound f)))
      go false e false f = rw (e, f)

  granted_as : (i : ℕ) → granted_at v i ≡ granted_at w i
  unfolding granted_at
  granted_as i = go (v.rule i).used refl (w.rule i).used refl
    where
      go : (t : Bool) → (v.rule i).used ≡ t → (u : Bool) → (w.rule i).used ≡ u → granted_of (v.rule i) i ≡ granted_of (w.rule i) i
      go true e u f = ap (λ (r : AccessRule). granted_of r i) (s.rules i (inl e))
      go false e true f = ap (λ (r : AccessRule). granted_of r i) (s.rules i (inr f))
      go false e false f = rw (e, f)

  entry_as : (k : ℕ) → entry v k ≡ entry w k
  unfolding entry
  entry_as k = rw (object_as, membership_as, appointed_as, granted_as)

  pub same_file : file_of v ≡ file_of w
  same_file = sym (file_is v) ∙ from_same places 0 (each bytes_of v) (each bytes_of w) (λ k a b. ap bytes_of (entry_as k)) ∙ file_is w
