-- From the founding, every line is a descent, in the second wording of Descent: who acted then held his post, by an appointment that
-- descends, and what he gave lasted. Line by line, what stood at the start being what the founding gave and what has a line stands.
use mathlib.Core.Path.{◌≡◌, refl, sym, ap, ◌∙◌, subst}
use mathlib.Core.List.{List}
use mathlib.Core.Bool.{true}
use Prim.Native.Nat.{ℕ, suc, ◌≤◌, ◌<◌}
use native.Mathlib.Decide.{ℕ_discrete}
use native.Mathlib.Nat.{le_refl}
use native.Mathlib.Omega.{arith}
use Rattle.reach.specs.declared.Appointment.{Appointment}
use Rattle.reach.specs.declared.AccessRule.{AccessRule}
use Rattle.reach.specs.Tables.{View, initial}
use Rattle.reach.specs.Reach.{Under, itself, up}
use Rattle.reach.specs.Privileges.{owner, manager, administrator, Holds, Permitted}
use Rattle.reach.proofs.Sizes.{sized_initial}
use Rattle.rules.specs.declared.Request.{Request}
use Rattle.rules.specs.declared.Request.TheVariants.{Dismiss}
use Rattle.rules.specs.Allowing.{Standing, appointing}
use Rattle.text.specs.Text.{Bytes}
use Rattle.list.specs.Runs.{before, end, Done, NotDone}
use Rattle.list.specs.Lines.{Each, AppointmentLine, GovernsLine, MembershipLine, RuleLine, PermissionLine}
use Rattle.list.specs.Demand.{FoundingDemand3}
use Rattle.list.specs.Descent.{founders, Post, AppointedBy, OwnerDescent, ManagerDescent, AppointmentDescent}
use Rattle.list.specs.Descent.{AdministratorDescent, GovernsDescent, MembershipDescent, ChainDescent, RuleDescent, PermissionDescent}
use Rattle.list.proofs.Positions.{as_allowed}
use Rattle.list.proofs.Holding.{appointment_holds, membership_holds, rule_holds}

module _ (list : List Bytes) (demanded : FoundingDemand3 list) where
  abbrev Then : ℕ → View
  Then = before initial list

  abbrev Did : ℕ → ℕ → Request → Type 0
  Did = Done initial list

  abbrev last : ℕ
  last = end initial list

  -- What was not done up to i was not done up to any k before.
  sooner : {q : Request} {lo i k : ℕ} → NotDone initial list q lo i → k ≤ i → NotDone initial list q lo k
  sooner n h a u l b = n a u l (omega (arith, b, h))

  -- ---- Appointments

  -- A line with its request, up to which it may be cut short, gives the APPOINT and that it lasts.
  appointed_by : {i p j u : ℕ} {w : Appointment} → j < i → i ≤ last → Did j u (appointing p w) → NotDone initial list (Dismiss p) (suc j) i
      → ((k : ℕ) → suc j ≤ k → k ≤ i → AppointmentLine initial list k p w) → AppointedBy list j u i p
  appointed_by {i} {p} {j} {u} {w} l h d n line =
      record {
        earlier = l;
        accepted = subst (λ (t : Appointment). Did j u (appointing p t)) (sym (is i l (le_refl i))) d;
        lasts = record { holds = λ k a b. is k a b ∙ sym (is i l (le_refl i)); not_undone = n };
      }
    where
      is : (k : ℕ) → suc j ≤ k → k ≤ i → (Then k).appointment p ≡ w
      is k a b = (appointment_holds initial list sized_initial (omega arith) (line k a b)).0

  post : {j kind u x : ℕ} (o : Holds (Then j) kind u x) → Post list j kind u x o.by.place
  post o = record { user = o.user; low = o.by.low; held = o.by.at }

  -- The descent of an appointment whose kind is known.
  owner_descent : {i p : ℕ} → ((Then i).appointment p).kind ≡ owner → AppointmentDescent list i p → OwnerDescent list i p
  owner_descent k (AppointmentDescent.of_owner e d) = d
  owner_descent k (AppointmentDescent.of_manager e d) = absurd (omega (arith, k, e))
  owner_descent k (AppointmentDescent.of_administrator e d) = absurd (omega (arith, k, e))

  manager_descent : {i p : ℕ} → ((Then i).appointment p).kind ≡ manager → AppointmentDescent list i p → ManagerDescent list i p
  manager_descent k (AppointmentDescent.of_owner e d) = absurd (omega (arith, k, e))
  manager_descent k (AppointmentDescent.of_manager e d) = d
  manager_descent k (AppointmentDescent.of_administrator e d) = absurd (omega (arith, k, e))

  administrator_descent : {i p : ℕ} → ((Then i).appointment p).kind ≡ administrator → AppointmentDescent list i p
      → AdministratorDescent list i p
  administrator_descent k (AppointmentDescent.of_owner e d) = absurd (omega (arith, k, e))
  administrator_descent k (AppointmentDescent.of_manager e d) = absurd (omega (arith, k, e))
  administrator_descent k (AppointmentDescent.of_administrator e d) = d

  pub appointment_descends : {i p : ℕ} {w : Appointment} → i ≤ last → AppointmentLine initial list i p w → AppointmentDescent list i p
  appointment_descends {i} {p} {w} h (AppointmentLine.stood e s n) =
      AppointmentDescent.of_owner (ap (λ (t : Appointment). t.kind) (is i (le_refl i)))
      (OwnerDescent.founding only.0 (record { holds = λ k a b. is k b; not_undone = n }))
    where
      only : (p ≡ 0) × ((Then 0).appointment p ≡ founders)
      only = demanded.one_appointment p (subst Standing (sym e) s)

      is : (k : ℕ) → k ≤ i → (Then k).appointment p ≡ founders
      is k b =
          (appointment_holds initial list sized_initial (omega arith) (AppointmentLine.stood e s (sooner n b))).0 ∙ sym e ∙ only.1
  appointment_descends {i} {p} {w} h (AppointmentLine.from_owner j u l d n k o z) =
      by_kind (ℕ_discrete w.kind owner) (owner_descent o.by.at.is_kind (appointment_descends (omega arith) z))
    where
      is : (Then i).appointment p ≡ w
      is = (appointment_holds initial list sized_initial h (AppointmentLine.from_owner j u l d n k o z)).0

      by : AppointedBy list j u i p
      by = appointed_by l h d n (λ m a b. AppointmentLine.from_owner j u a d (sooner n b) k o z)

      owned : Post list j owner u ((Then i).appointment p).a o.by.place
      owned = subst (λ (t : Appointment). Post list j owner u t.a o.by.place) (sym is) (post o)

      known : (1 ≤ w.kind) × (w.kind ≤ 3)
      known = (as_allowed initial list sized_initial d).0.fits.1.known

      by_kind : Dec (w.kind ≡ owner) → OwnerDescent list j o.by.place → AppointmentDescent list i p
      by_kind (yes e) y =
          AppointmentDescent.of_owner (ap (λ (t : Appointment). t.kind) is ∙ e) (OwnerDescent.appointed j u o.by.place by owned y)
      by_kind (no e) y =
          let m : w.kind ≡ manager = omega (arith, known, e, k) in
          AppointmentDescent.of_manager (ap (λ (t : Appointment). t.kind) is ∙ m)
          (record { request = j; sender = u; place = o.by.place; appointed = by; owned = owned; descent = y })
  appointment_descends {i} {p} {w} h (AppointmentLine.from_manager j u l d n k a y b z) =
      AppointmentDescent.of_administrator (ap (λ (t : Appointment). t.kind) is ∙ k)
      (record {
        request = j;
        sender = u;
        place_a = a.by.place;
        place_b = b.by.place;
        appointed = appointed_by l h d n (λ m f g. AppointmentLine.from_manager j u f d (sooner n g) k a y b z);
        managed_a = subst (λ (t : Appointment). Post list j manager u t.a a.by.place) (sym is) (post a);
        descent_a = manager_descent a.by.at.is_kind (appointment_descends (omega arith) y);
        managed_b = subst (λ (t : Appointment). Post list j manager u t.b b.by.place) (sym is) (post b);
        descent_b = manager_descent b.by.at.is_kind (appointment_descends (omega arith) z);
      })
    where
      is : (Then i).appointment p ≡ w
      is = (appointment_holds initial list sized_initial h (AppointmentLine.from_manager j u l d n k a y b z)).0

  pub governs_descends : {j u x : ℕ} → j ≤ last → GovernsLine initial list j u x → GovernsDescent list j u x
  governs_descends h (GovernsLine.as_owner o z) =
      GovernsDescent.owning o.by.place (post o) (owner_descent o.by.at.is_kind (appointment_descends h z))
  governs_descends h (GovernsLine.as_manager o z) =
      GovernsDescent.managing o.by.place (post o) (manager_descent o.by.at.is_kind (appointment_descends h z))

  -- ---- Memberships

  pub membership_descends : {i x g : ℕ} → i ≤ last → MembershipLine initial list i x g → MembershipDescent list i x g
  membership_descends {i} {x} {g} h (MembershipLine.stood d n) =
      let only : (x ≡ 1) × (g ≡ 0) = demanded.one_membership x g d in
      MembershipDescent.founding only.0 only.1
      (record {
        holds = λ k a b. membership_holds initial list sized_initial (omega arith) (MembershipLine.stood d (sooner n b));
        not_undone = n;
      })
  membership_descends {i} {x} {g} h (MembershipLine.by_make j u s l d n z) =
      MembershipDescent.made j u s l d
      (record {
        holds = λ k a b. membership_holds initial list sized_initial (omega arith) (MembershipLine.by_make j u s a d (sooner n b) z);
        not_undone = n;
      })
      (governs_descends (omega arith) z)
  membership_descends {i} {x} {g} h (MembershipLine.by_put j u l d n y z) =
      MembershipDescent.put j u l d
      (record {
        holds = λ k a b. membership_holds initial list sized_initial (omega arith) (MembershipLine.by_put j u a d (sooner n b) y z);
        not_undone = n;
      })
      (governs_descends (omega arith) y)
      (governs_descends (omega arith) z)

  pub chain_descends : {i x g : ℕ} → i ≤ last → (c : Under (Then i) x g) → Each (MembershipLine initial list i) c
      → ChainDescent list i x g
  chain_descends h (itself i) e = ChainDescent.top i
  chain_descends h (up d l) e = ChainDescent.step (membership_descends h e.0) (chain_descends h l e.1)

  -- ---- Rules

  pub rule_descends : {i p : ℕ} → i ≤ last → RuleLine initial list i p ((Then i).rule p) → RuleDescent list i p
  rule_descends {i} {p} h (RuleLine.stood e s n) =
      absurd (demanded.no_rule p (ap (λ (r : AccessRule). r.used) e ∙ s))
  rule_descends {i} {p} h (RuleLine.by_grant j u l d n o z) =
      record {
        request = j;
        sender = u;
        place = o.by.place;
        earlier = l;
        accepted = d;
        used = ap (λ (r : AccessRule). r.used) (is i l (le_refl i));
        lasts = record { holds = λ k a b. is k a b ∙ sym (is i l (le_refl i)); not_undone = n };
        administered = record { user = o.user; low = o.by.low; held = o.by.at };
        descent = administrator_descent o.by.at.is_kind (appointment_descends (omega arith) z);
      }
    where
      -- The rule that the GRANT puts there: in use.
      granted : AccessRule
      granted =
          let r = (Then i).rule p in record { used = true; users = r.users; targets = r.targets; operations = r.operations }

      is : (k : ℕ) → suc j ≤ k → k ≤ i → (Then k).rule p ≡ granted
      is k a b = rule_holds initial list sized_initial (omega arith) refl (RuleLine.by_grant j u a d (sooner n b) o z)

  -- ---- Permissions

  pub permission_descends : {u k x : ℕ} → PermissionLine initial list u k x → PermissionDescent list u k x
  permission_descends l =
      record {
        place = l.place;
        low = l.low;
        operation = l.permits.operation;
        rule = rule_descends (le_refl last) l.rule_line;
        user_chain = chain_descends (le_refl last) l.permits.covers_user l.user_line;
        target_chain = chain_descends (le_refl last) l.permits.covers_target l.target_line;
      }

  -- Demand 3 in the second wording: every permission at the end descends from the founding.
  pub every_permission_descends : (u k x : ℕ) → Permitted (Then last) u k x → PermissionDescent list u k x
  every_permission_descends u k x h = permission_descends (demanded.demand.lines u k x h)
