-- Policies that agree in every place in use and every membership are sound together: each clause speaks of what is in use.
use mathlib.Core.Path.{sym, ap, ◌∙◌, subst}
use mathlib.Core.Logic.{inl, inr}
use Prim.Native.Nat.{ℕ}
use native.Mathlib.Omega.{arith}
use Rattle.reach.specs.declared.Appointment.{Appointment}
use Rattle.reach.specs.declared.AccessRule.{AccessRule}
use Rattle.reach.specs.Tables.{View}
use Rattle.reach.specs.Reach.{InUse}
use Rattle.reach.specs.Privileges.{owner}
use Rattle.reach.proofs.Testing.{some_map}
use Rattle.reach.proofs.Frames.{under_same}
use Rattle.reach.proofs.Carrying.{known_kind, Carried, holds_carried, All}
use Rattle.rules.specs.Allowing.{Standing, Appointable}
use Rattle.soundness.specs.Soundness.{Grantable, Sound}
use Rattle.snapshot.specs.Card.{Same}

module _ (v w : View) (s : Same v w) where
  in_use_as : (x : ℕ) → InUse w x → InUse v x
  in_use_as x i = omega (arith, s.sorts x, i)

  carried : Carried v w All
  carried = record { under = λ o l. under_same v w s.sorts s.memberships l; appointments = λ i k. s.appointments i (inl k) }

  pub sound_same : Sound v → Sound w
  sound_same a =
      record {
        memberships = λ x g e.
            let m = a.memberships x g (s.memberships x g ∙ e) in (omega (arith, m.0, s.sorts x), sym (s.sorts g) ∙ m.1);
        appointments = λ i k.
            let e = s.appointments i (inr k) in
            let f = a.appointments i (subst Standing (sym e) k) in
            subst
            (λ (t : Appointment). Appointable w t.kind t.holder t.a t.b)
            e
            (record {
              known = f.known;
              holder = sym (s.sorts _) ∙ f.holder;
              group_a = sym (s.sorts _) ∙ f.group_a;
              group_b = λ q. sym (s.sorts _) ∙ f.group_b q;
              unread_b = f.unread_b;
            });
        rules = λ i k.
            let e = s.rules i (inr k) in
            let f = a.rules i (ap (λ (r : AccessRule). r.used) e ∙ k) in
            subst
            (λ (r : AccessRule). Grantable w r)
            e
            (record {
              group_users = sym (s.sorts _) ∙ f.group_users;
              group_targets = sym (s.sorts _) ∙ f.group_targets;
              some_operation = f.some_operation;
            });
        owners = λ x i.
            some_map
            (λ u h. holds_carried carried (sym (s.sorts u) ∙ h.user) (known_kind owner (omega arith) (omega arith)) tt h)
            (a.owners x (in_use_as x i));
      }
