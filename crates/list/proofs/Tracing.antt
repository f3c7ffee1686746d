-- Whatever stands at a position has its line: it stood at the start and was not undone since, or an accepted request put it there whose
-- sender's authority has its own line, by induction on the position.
use mathlib.Core.Path.{◌≡◌, refl, sym, ap, ◌∙◌, subst}
use mathlib.Core.Bool.{true}
use mathlib.Core.Logic.{◌⊎◌, inl, inr}
use mathlib.Core.List.{List}
use Prim.Native.Nat.{ℕ, zero, suc, ◌≤◌, ◌<◌}
use native.Mathlib.Nat.{eq-or-lt_of_le, le_of_suc-le-suc, le_step, le_refl}
use native.Mathlib.Omega.{arith}
use Rattle.reach.specs.declared.Policy.{Policy}
use Rattle.reach.specs.declared.Appointment.{Appointment}
use Rattle.reach.specs.declared.AccessRule.{AccessRule}
use Rattle.reach.specs.Tables.{View, counted, Sized}
use Rattle.reach.specs.Reach.{Direct, Under, itself, up}
use Rattle.reach.specs.Privileges.{owner, manager, administrator, Holds, Owns, Manages, Administers, Permitted}
use Rattle.reach.proofs.Carrying.{known_kind}
use Rattle.rules.specs.declared.Request.{Request}
use Rattle.rules.specs.declared.Request.TheVariants.{Make, Put, Take, Dismiss, Withdraw}
use Rattle.rules.specs.Allowing.{Standing, MayAppoint, as_owner as may-as-owner, as_manager as may-as-manager, Governs, Allowed, appointing}
use Rattle.rules.specs.Allowing.{granting}
use Rattle.rules.proofs.Origins.{AppointmentFrom, appointment_from, RuleFrom, rule_from, DirectFrom, direct_from}
use Rattle.text.specs.Text.{Bytes}
use Rattle.list.specs.Runs.{before, end, Done, NotDone}
use Rattle.list.specs.Lines.{Each, AppointmentLine, GovernsLine, MembershipLine, RuleLine, PermissionLine}
use Rattle.list.proofs.Positions.{Next, did, turned_away, next, same_request}

module _ (start : Policy) (list : List Bytes) (sized : Sized start) where
  abbrev Then : ℕ → View
  Then = before start list

  abbrev last : ℕ
  last = end start list

  abbrev Did : ℕ → ℕ → Request → Type 0
  Did = Done start list

  -- ---- Stretches of the list

  none_yet : (q : Request) → NotDone start list q 0 0
  none_yet q k u l h = absurd (omega (arith, l, h))

  none_since : (q : Request) (i : ℕ) → NotDone start list q (suc i) (suc i)
  none_since q i k u l h = absurd (omega (arith, l, h))

  longer : {q : Request} {lo i : ℕ} → NotDone start list q lo i → ((u : ℕ) → Did i u q → ⊥) → NotDone start list q lo (suc i)
  longer {q} {lo} {i} n new k u l h d = go (eq-or-lt_of_le (le_of_suc-le-suc h))
    where
      go : (k ≡ i) ⊎ (k < i) → ⊥
      go (inl e) = new u (subst (λ (z : ℕ). Did z u q) e d)
      go (inr z) = n k u l z d

  -- What request i did is no q, if it is none.
  not_done : {i u : ℕ} {q r : Request} → Did i u r → (r ≡ q → ⊥) → (w : ℕ) → Did i w q → ⊥
  not_done d n w d' = n (same_request start list sized d d')

  -- ---- Appointments

  later : {i p : ℕ} {w : Appointment} → AppointmentLine start list i p w → ((u : ℕ) → Did i u (Dismiss p) → ⊥)
      → AppointmentLine start list (suc i) p w
  later (AppointmentLine.stood e s n) new = AppointmentLine.stood e s (longer n new)
  later (AppointmentLine.from_owner j u h d n k o l) new = AppointmentLine.from_owner j u (le_step h) d (longer n new) k o l
  later (AppointmentLine.from_manager j u h d n k a l b m) new = AppointmentLine.from_manager j u (le_step h) d (longer n new) k a l b m

  -- Every appointment that stands at position i has a line.
  abbrev AllLines : ℕ → Type 0
  AllLines i = (p : ℕ) → Standing ((Then i).appointment p) → AppointmentLine start list i p ((Then i).appointment p)

  -- An appointment by which something is held stands.
  held_stands : {v : View} {kind u x : ℕ} → 0 < counted kind → (h : Holds v kind u x) → Standing (v.appointment h.by.place)
  held_stands k h = subst (λ (n : ℕ). 0 < counted n) (sym h.by.at.is_kind) k

  owner_line : {i : ℕ} → AllLines i → {u x : ℕ} (o : Owns (Then i) u x)
      → AppointmentLine start list i o.by.place ((Then i).appointment o.by.place)
  owner_line ls o = ls o.by.place (held_stands (known_kind owner (omega arith) (omega arith)) o)

  manager_line : {i : ℕ} → AllLines i → {u x : ℕ} (o : Manages (Then i) u x)
      → AppointmentLine start list i o.by.place ((Then i).appointment o.by.place)
  manager_line ls o = ls o.by.place (held_stands (known_kind manager (omega arith) (omega arith)) o)

  -- The line of an appointment that request i gives.
  new_line : (i u p : ℕ) (w : Appointment) → AllLines i → Did i u (appointing p w) → MayAppoint (Then i) u w
      → AppointmentLine start list (suc i) p w
  new_line i u p w ls d (may-as-owner k o) =
      AppointmentLine.from_owner i u (le_refl (suc i)) d (none_since (Dismiss p) i) k o (owner_line ls o)
  new_line i u p w ls d (may-as-manager k a b) =
      AppointmentLine.from_manager i u (le_refl (suc i)) d (none_since (Dismiss p) i) k a (manager_line ls a) b (manager_line ls b)

  pub appointment_lines : (i : ℕ) → i ≤ last → AllLines i
  appointment_lines zero h p s = AppointmentLine.stood refl s (none_yet (Dismiss p))
  appointment_lines (suc i) h p s = go (next start list sized i h) (appointment_lines i (omega arith))
    where
      w : Appointment
      w = (Then (suc i)).appointment p

      go : Next start list sized i → AllLines i → AppointmentLine start list (suc i) p w
      go (turned_away n e) ls =
          let q : (Then i).appointment p ≡ w = ap (λ (v : View). v.appointment p) (sym e) in
          subst
          (AppointmentLine start list (suc i) p)
          q
          (later (ls p (subst Standing (sym q) s)) (λ u. n u (Dismiss p)))
      go (did u r d ok e) ls = from (appointment_from (Then i) r p w (ap (λ (v : View). v.appointment p) (sym e)) s)
        where
          from : AppointmentFrom (Then i) r p w → AppointmentLine start list (suc i) p w
          from (inl z) =
              subst
              (AppointmentLine start list (suc i) p)
              z.0
              (later (ls p (subst Standing (sym z.0) s)) (not_done d z.1))
          from (inr z) =
              let ok' : Allowed (Then i) u (appointing p w) = subst (Allowed (Then i) u) z ok in
              new_line i u p w ls (subst (Did i u) z d) ok'.authority

  governs_line : {i u x : ℕ} → AllLines i → Governs (Then i) u x → GovernsLine start list i u x
  governs_line ls (inl o) = GovernsLine.as_owner o (owner_line ls o)
  governs_line ls (inr o) = GovernsLine.as_manager o (manager_line ls o)

  -- ---- Memberships

  later_membership : {i x g : ℕ} → MembershipLine start list i x g → ((u : ℕ) → Did i u (Take x g) → ⊥)
      → MembershipLine start list (suc i) x g
  later_membership (MembershipLine.stood d n) new = MembershipLine.stood d (longer n new)
  later_membership (MembershipLine.by_make j u s h d n l) new = MembershipLine.by_make j u s (le_step h) d (longer n new) l
  later_membership (MembershipLine.by_put j u h d n l m) new = MembershipLine.by_put j u (le_step h) d (longer n new) l m

  pub membership_line : (i : ℕ) → i ≤ last → (x g : ℕ) → Direct (Then i) x g → MembershipLine start list i x g
  membership_line zero h x g d = MembershipLine.stood d (none_yet (Take x g))
  membership_line (suc i) h x g d = go (next start list sized i h) (membership_line i (omega arith) x g)
    where
      ls : AllLines i
      ls = appointment_lines i (omega arith)

      go : Next start list sized i → (Direct (Then i) x g → MembershipLine start list i x g) → MembershipLine start list (suc i) x g
      go (turned_away n e) l = later_membership (l (subst (λ (v : View). Direct v x g) e d)) (λ u. n u (Take x g))
      go (did u r e ok q) l = from (direct_from (Then i) r x g (subst (λ (v : View). Direct v x g) q d))
        where
          from : DirectFrom (Then i) r x g → MembershipLine start list (suc i) x g
          from (DirectFrom.stood z n) = later_membership (l z) (not_done e n)
          from (DirectFrom.by_make s z) =
              let ok' : Allowed (Then i) u (Make x s g) = subst (Allowed (Then i) u) z ok in
              MembershipLine.by_make i u s (le_refl (suc i)) (subst (Did i u) z e) (none_since (Take x g) i)
              (governs_line ls ok'.authority)
          from (DirectFrom.by_put z) =
              let ok' : Allowed (Then i) u (Put x g) = subst (Allowed (Then i) u) z ok in
              MembershipLine.by_put
              i
              u
              (le_refl (suc i))
              (subst (Did i u) z e)
              (none_since (Take x g) i)
              (governs_line ls ok'.authority.0)
              (governs_line ls ok'.authority.1)

  -- ---- Rules

  later_rule : {i p : ℕ} {r : AccessRule} → RuleLine start list i p r → ((u : ℕ) → Did i u (Withdraw p) → ⊥)
      → RuleLine start list (suc i) p r
  later_rule (RuleLine.stood e s n) new = RuleLine.stood e s (longer n new)
  later_rule (RuleLine.by_grant j u h d n o l) new = RuleLine.by_grant j u (le_step h) d (longer n new) o l

  pub rule_line : (i : ℕ) → i ≤ last → (p : ℕ) → ((Then i).rule p).used ≡ true → RuleLine start list i p ((Then i).rule p)
  rule_line zero h p s = RuleLine.stood refl s (none_yet (Withdraw p))
  rule_line (suc i) h p s = go (next start list sized i h) (rule_line i (omega arith) p)
    where
      ls : AllLines i
      ls = appointment_lines i (omega arith)

      t : AccessRule
      t = (Then (suc i)).rule p

      used : {a b : AccessRule} → a ≡ b → b.used ≡ true → a.used ≡ true
      used e u = ap (λ (r : AccessRule). r.used) e ∙ u

      go : Next start list sized i → (((Then i).rule p).used ≡ true → RuleLine start list i p ((Then i).rule p))
          → RuleLine start list (suc i) p t
      go (turned_away n e) l =
          let q : (Then i).rule p ≡ t = ap (λ (v : View). v.rule p) (sym e) in
          subst (RuleLine start list (suc i) p) q (later_rule (l (used q s)) (λ u. n u (Withdraw p)))
      go (did u r d ok e) l = from (rule_from (Then i) r p t (ap (λ (v : View). v.rule p) (sym e)) s)
        where
          from : RuleFrom (Then i) r p t → RuleLine start list (suc i) p t
          from (inl z) = subst (RuleLine start list (suc i) p) z.0 (later_rule (l (used z.0 s)) (not_done d z.1))
          from (inr z) =
              let ok' : Allowed (Then i) u (granting p t) = subst (Allowed (Then i) u) z ok in
              let o : Administers (Then i) u t.users t.targets = ok'.authority in
              let k : Standing ((Then i).appointment o.by.place) =
              subst (λ (n : ℕ). 0 < counted n) (sym o.by.at.is_kind) (known_kind administrator (omega arith) (omega arith)) in
              RuleLine.by_grant i u (le_refl (suc i)) (subst (Did i u) z d) (none_since (Withdraw p) i) o (ls o.by.place k)

  -- ---- Permissions

  each : {v : View} {P : ℕ → ℕ → Type 0} → ((x g : ℕ) → Direct v x g → P x g) → {x g : ℕ} (l : Under v x g) → Each P l
  each f (itself i) = tt
  each f (up d l) = (f _ _ d, each f l)

  pub permission_line : (u k x : ℕ) → Permitted (Then last) u k x → PermissionLine start list u k x
  permission_line u k x h =
      record {
        place = h.by.place;
        low = h.by.low;
        permits = h.by.at;
        rule_line = rule_line last (le_refl last) h.by.place h.by.at.used;
        user_line = each (membership_line last (le_refl last)) h.by.at.covers_user;
        target_line = each (membership_line last (le_refl last)) h.by.at.covers_target;
      }
