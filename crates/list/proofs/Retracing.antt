-- Every descent is a line: the second wording of Descent asks no less than Lines does, so that with Authority the two agree. Clause by
-- clause, each post being what its holder owned, managed or administered then.
use mathlib.Core.Path.{◌≡◌, sym, ◌∙◌, subst}
use mathlib.Core.List.{List}
use Prim.Native.Nat.{ℕ, ◌<◌}
use native.Mathlib.Nat.{le_refl}
use native.Mathlib.Omega.{arith}
use Rattle.reach.specs.Tables.{View, counted, initial}
use Rattle.reach.specs.Reach.{Direct, Under, itself, up}
use Rattle.reach.specs.Privileges.{owner, manager, administrator, Holds}
use Rattle.reach.proofs.Carrying.{known_kind}
use Rattle.text.specs.Text.{Bytes}
use Rattle.list.specs.Runs.{before}
use Rattle.list.specs.Lines.{Each, AppointmentLine, GovernsLine, MembershipLine, RuleLine, PermissionLine}
use Rattle.list.specs.Descent.{Post, OwnerDescent, ManagerDescent, AdministratorDescent, AppointmentDescent}
use Rattle.list.specs.Descent.{GovernsDescent, MembershipDescent, ChainDescent, RuleDescent, PermissionDescent}

module _ (list : List Bytes) where
  abbrev Then : ℕ → View
  Then = before initial list

  -- The line of what stands at place p just before request i.
  abbrev LineAt : ℕ → ℕ → Type 0
  LineAt i p = AppointmentLine initial list i p ((Then i).appointment p)

  -- ---- Appointments

  -- A post, as what its holder held then.
  abbrev held : {j kind u x q : ℕ} → Post list j kind u x q → Holds (Then j) kind u x
  held {q = q} o = record { user = o.user; by = record { place = q; low = o.low; at = o.held } }

  owner_line : {i p : ℕ} → ((Then i).appointment p).kind ≡ owner → OwnerDescent list i p → LineAt i p
  owner_line {i} {p} k (OwnerDescent.founding e l) =
      AppointmentLine.stood
      (l.holds 0 (omega arith) (omega arith) ∙ sym (l.holds i (omega arith) (le_refl i)))
      (subst (λ (n : ℕ). 0 < counted n) (sym k) (known_kind owner (omega arith) (omega arith)))
      l.not_undone
  owner_line k (OwnerDescent.appointed j u q a o d) =
      AppointmentLine.from_owner j u a.earlier a.accepted a.lasts.not_undone (λ e. omega (arith, k, e)) (held o)
      (owner_line o.held.is_kind d)

  manager_line : {i p : ℕ} → ((Then i).appointment p).kind ≡ manager → ManagerDescent list i p → LineAt i p
  manager_line k m =
      AppointmentLine.from_owner m.request m.sender m.appointed.earlier m.appointed.accepted
      m.appointed.lasts.not_undone (λ e. omega (arith, k, e)) (held m.owned)
      (owner_line m.owned.held.is_kind m.descent)

  administrator_line : {i p : ℕ} → ((Then i).appointment p).kind ≡ administrator → AdministratorDescent list i p → LineAt i p
  administrator_line k m =
      AppointmentLine.from_manager m.request m.sender m.appointed.earlier m.appointed.accepted
      m.appointed.lasts.not_undone k
      (held m.managed_a) (manager_line m.managed_a.held.is_kind m.descent_a)
      (held m.managed_b) (manager_line m.managed_b.held.is_kind m.descent_b)

  pub appointment_line : {i p : ℕ} → AppointmentDescent list i p → LineAt i p
  appointment_line (AppointmentDescent.of_owner k d) = owner_line k d
  appointment_line (AppointmentDescent.of_manager k d) = manager_line k d
  appointment_line (AppointmentDescent.of_administrator k d) = administrator_line k d

  pub governs_line : {j u x : ℕ} → GovernsDescent list j u x → GovernsLine initial list j u x
  governs_line (GovernsDescent.owning q o d) = GovernsLine.as_owner (held o) (owner_line o.held.is_kind d)
  governs_line (GovernsDescent.managing q o d) = GovernsLine.as_manager (held o) (manager_line o.held.is_kind d)

  -- ---- Memberships

  pub membership_line : {i x g : ℕ} → MembershipDescent list i x g → MembershipLine initial list i x g
  membership_line (MembershipDescent.founding a b l) =
      MembershipLine.stood (l.holds 0 (omega arith) (omega arith)) l.not_undone
  membership_line (MembershipDescent.made j u s h d l z) = MembershipLine.by_make j u s h d l.not_undone (governs_line z)
  membership_line (MembershipDescent.put j u h d l y z) =
      MembershipLine.by_put j u h d l.not_undone (governs_line y) (governs_line z)

  -- What descends to request i is read just before it.
  direct : {i x g : ℕ} → MembershipDescent list i x g → Direct (Then i) x g
  direct {i} (MembershipDescent.founding a b l) = l.holds i (omega arith) (le_refl i)
  direct {i} (MembershipDescent.made j u s h d l z) = l.holds i h (le_refl i)
  direct {i} (MembershipDescent.put j u h d l y z) = l.holds i h (le_refl i)

  pub chain_line : {i x g : ℕ} → ChainDescent list i x g → (c : Under (Then i) x g) × Each (MembershipLine initial list i) c
  chain_line (ChainDescent.top i) = (itself i, tt)
  chain_line (ChainDescent.step m c) =
      let l = chain_line c in
      (up (direct m) l.0, (membership_line m, l.1))

  -- ---- Rules and permissions

  pub rule_line : {i p : ℕ} → RuleDescent list i p → RuleLine initial list i p ((Then i).rule p)
  rule_line r =
      let o = r.administered in
      RuleLine.by_grant r.request r.sender r.earlier r.accepted r.lasts.not_undone
      (record { user = o.user; by = record { place = r.place; low = o.low; at = o.held } })
      (administrator_line o.held.is_kind r.descent)

  pub permission_line : {u k x : ℕ} → PermissionDescent list u k x → PermissionLine initial list u k x
  permission_line d =
      let user = chain_line d.user_chain in
      let target = chain_line d.target_chain in
      record {
        place = d.place;
        low = d.low;
        permits =
            record {
              used = d.rule.used;
              operation = d.operation;
              covers_user = user.0;
              covers_target = target.0;
            };
        rule_line = rule_line d.rule;
        user_line = user.1;
        target_line = target.1;
      }
