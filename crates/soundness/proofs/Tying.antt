-- Tables from their places, and soundness from the tests of the tables, where the masks are the policy's.
-- Past the end of a table there is nothing to ask; and in the masks of a policy are just its objects of each sort.
use mathlib.Core.Path.{◌≡◌, refl, sym, ap, ◌∙◌, subst}
use mathlib.Core.Bool.{Bool, true, false, not, ◌&&◌, true≢false, false≢true}
use mathlib.Core.List.{List}
use Prim.Native.Nat.{ℕ, ◌≤◌, ◌<◌}
use native.Mathlib.Nat.{not-suc-le-zero}
use native.Mathlib.Decide.{dec_lt}
use native.Mathlib.Omega.{arith}
use lib.Dec.{leb}
use Rattle.std.specs.Prelude.{MatchBool}
use Rattle.std.specs.List.{AllWithin, HoldsAt, zip, range_with_len}
use Rattle.std.proofs.lemmas.List.FromFn.{length-range_with_len, get_or-range_with_len}
use Rattle.std.proofs.lemmas.Slice.Zip.{length-zip, get_or-zip}
use lib.ListN.{length, get_or}
use borrow.Author.Tests.{leb-true}
use Rattle.reach.specs.declared.Policy.{Policy}
use Rattle.reach.specs.declared.Masks.{Masks}
use Rattle.reach.specs.Tests.{◌⇒◌∥◌, Decides}
use Rattle.reach.specs.Tables.{Sized, view, counted, stored, appointment, rule, no_appointment, no_rule}
use Rattle.reach.specs.Privileges.{orphaned}
use Rattle.reach.specs.Surveys.{MasksOf}
use Rattle.reach.proofs.Lists.{get_d_past}
use Rattle.reach.proofs.Testing.{decides_as, decides_and, refuted}
use Rattle.reach.proofs.WordSets.{decides_has}
use Rattle.reach.proofs.Sorts.{counted_known}
use Rattle.rules.specs.Allowing.{Owned}
use Rattle.rules.proofs.Giving.{orphaned_passes}
use Rattle.soundness.specs.Soundness.{MembersFit, AppointmentsFit, RulesFit, Sound}
use Rattle.soundness.specs.Masked.{Every, RowIn, RowsIn, AppointmentIn, AppointmentsIn, RuleIn, RulesIn}
use Rattle.soundness.proofs.Fitting.{always, never, row_none}

-- ---- Tables from their places

-- What `all` answers of a table, said of its places.
pub decides_every : {A : Type 0} (P : A → Type 0) (l : List A) (d : A) (r : Bool) {n : ℕ} → length l ≡ n
    → MatchBool r (AllWithin P l 0 (length l)) ((k : ℕ) × (k < length l) × HoldsAt (λ x. P x → ⊥) l k)
    → Decides r (Every n (λ i. P (get_or l i d)))
decides_every P l d true e f = always (λ i h. f i d (omega arith) (omega (arith, e)))
decides_every P l d false e f = never (λ g. f.2 d (g f.0 (omega (arith, e, f.1))))

-- The same with the number of each place.
pub decides_numbered : {A : Type 0} (P : ℕ → A → Type 0) (n : ℕ) (l : List A) (d : A) (r : Bool) → length l ≡ n
    → MatchBool r (AllWithin (λ p. P p.0 p.1) (zip (range_with_len 0 n) l) 0 (length (zip (range_with_len 0 n) l)))
    ((k : ℕ) × (k < length (zip (range_with_len 0 n) l)) × HoldsAt (λ p. P p.0 p.1 → ⊥) (zip (range_with_len 0 n) l) k)
    → Decides r (Every n (λ i. P i (get_or l i d)))
decides_numbered {A} P n l d r e f = decides_as (decides_every (λ p. P p.0 p.1) numbered (0, d) r long f) (λ g i h. rw (place i h) at (g i h)) (λ g i h. rw (place i h) (g i h))
  where
    numbered : List (ℕ × A)
    numbered = zip (range_with_len 0 n) l

    long : length numbered ≡ n
    long = length-zip (range_with_len 0 n) l ∙ omega (arith, length-range_with_len 0 n, e)

    place : (i : ℕ) → i < n → get_or numbered i (0, d) ≡ (i, get_or l i d)
    place i h =
        get_or-zip (range_with_len 0 n) l i (0, d) (omega (arith, length-range_with_len 0 n)) (omega (arith, e))
        ∙ ap (λ (k : ℕ). (k, get_or l i d)) (get_or-range_with_len 0 n i 0 h ∙ omega arith)

-- What one answer of a test says.
pub holds : {P : Type 0} → Decides true P → P
holds d = d.sound refl

pub fails : {P : Type 0} → Decides false P → P → ⊥
fails d = refuted d refl

-- What holds of every place of a table, and of an empty place, holds at every number.
every_number : {A : Type 0} (P : ℕ → A → Type 0) (l : List A) (d : A) (n : ℕ) → length l ≡ n → ((i : ℕ) → P i d)
    → Every n (λ i. P i (get_or l i d)) → (i : ℕ) → P i (get_or l i d)
every_number P l d n e empty f i = go (dec_lt i n)
  where
    go : Dec (i < n) → P i (get_or l i d)
    go (yes k) = f i k
    go (no k) = subst (P i) (sym (get_d_past l i d (omega arith))) (empty i)

-- ---- Soundness from its tests

-- A kind that counts is 1, 2 or 3.
kind_known : (n : ℕ) → 0 < counted n → (1 ≤ n) × (n ≤ 3)
unfolding counted
kind_known n = go (leb n 3) refl
  where
    go : (t : Bool) → leb n 3 ≡ t → 0 < (t ⇒ n ∥ 0) → (1 ≤ n) × (n ≤ 3)
    go true e l = (l, leb-true n 3 e)
    go false e l = absurd (not-suc-le-zero l)

module _ (p : Policy) (z : Sized p) (m : Masks) (k : MasksOf p m) where
  -- Table by table, against the masks and on the policy.
  memberships_decided : {t : Bool} → Decides t (RowsIn m p.memberships) → Decides t (MembersFit (view p))
  unfolding stored
  memberships_decided d =
      decides_as d
      (λ f x g s.
      let rows = every_number (λ y row. RowIn m row y) p.memberships 0 64 z.memberships (λ y. row_none m 0 y refl) f in
      let h = rows x g s in
      ((decides_has k.objects x).sound h.0, (decides_has k.groups g).sound h.1))
      (λ f x l g s.
      let h = f x g s in ((decides_has k.objects x).complete h.0, (decides_has k.groups g).complete h.1))

  -- Past the table of appointments none stands.
  none_appointed : AppointmentIn m no_appointment
  none_appointed s = absurd (omega (arith, s, counted_known 0 (omega arith)))

  appointments_decided : {t : Bool} → Decides t (AppointmentsIn m p.appointments) → Decides t (AppointmentsFit (view p))
  unfolding appointment
  appointments_decided d =
      decides_as d
      (λ f i s.
      let h = every_number (λ j. AppointmentIn m) p.appointments no_appointment 32 z.appointments (λ j. none_appointed) f i s in
      record {
        known = kind_known _ s;
        holder = (decides_has k.users _).sound h.holder;
        group_a = (decides_has k.groups _).sound h.group_a;
        group_b = λ e. (decides_has k.groups _).sound (h.group_b e);
        unread_b = h.unread_b;
      })
      (λ f i l s.
      let h = f i s in
      record {
        holder = (decides_has k.users _).complete h.holder;
        group_a = (decides_has k.groups _).complete h.group_a;
        group_b = λ e. (decides_has k.groups _).complete (h.group_b e);
        unread_b = h.unread_b;
      })

  rules_decided : {t : Bool} → Decides t (RulesIn m p.rules) → Decides t (RulesFit (view p))
  unfolding rule
  rules_decided d =
      decides_as d
      (λ f i s.
      let h = every_number (λ j. RuleIn m) p.rules no_rule 64 z.rules (λ j u. absurd (false≢true u)) f i s in
      record {
        group_users = (decides_has k.groups _).sound h.group_users;
        group_targets = (decides_has k.groups _).sound h.group_targets;
        some_operation = h.some_operation;
      })
      (λ f i l s.
      let h = f i s in
      record {
        group_users = (decides_has k.groups _).complete h.group_users;
        group_targets = (decides_has k.groups _).complete h.group_targets;
        some_operation = h.some_operation;
      })

  -- No orphan is the same as an owner for every object in use.
  owned_decided : (t : Bool) → orphaned p ≡ t → Decides (not t) (Owned (view p))
  owned_decided true e = never (λ o. true≢false (sym e ∙ (orphaned_passes p).complete o))
  owned_decided false e = always ((orphaned_passes p).sound e)

  -- The four tests together decide soundness.
  pub sound_decided : (a b c : Bool) → Decides a (RowsIn m p.memberships) → Decides b (AppointmentsIn m p.appointments)
      → Decides c (RulesIn m p.rules) → Decides (a && b && c && not (orphaned p)) (Sound (view p))
  sound_decided a b c da db dc =
      decides_as
      (decides_and _ _
      (decides_and _ _ (decides_and _ _ (memberships_decided da) (appointments_decided db)) (rules_decided dc))
      (owned_decided (orphaned p) refl))
      (λ h. record { memberships = h.0.0.0; appointments = h.0.0.1; rules = h.0.1; owners = h.1 })
      (λ s. (((s.memberships, s.appointments), s.rules), s.owners))
