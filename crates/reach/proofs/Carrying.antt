-- Privileges go from one view to another with what they are made of: reach over the objects concerned, the appointments that stand and
-- the rules in use. One law for each privilege, for a change forward or back; then what each change carries.
use mathlib.Core.Path.{◌≡◌, refl, sym, ap, ◌∙◌, subst}
use mathlib.Core.Bool.{true, true≢false}
use mathlib.Core.Logic.{◌⊎◌, inl, inr, ⊎_elim}
use Prim.Native.Nat.{ℕ, ◌≤◌, ◌<◌}
use native.Mathlib.Omega.{arith}
use Rattle.reach.specs.declared.Appointment.{Appointment}
use Rattle.reach.specs.declared.AccessRule.{AccessRule}
use Rattle.reach.specs.Words.{bit}
use Rattle.reach.specs.Tables.{counted, no_appointment, no_rule, View}
use Rattle.reach.specs.Reach.{InUse, Group, User, Target, Under}
use Rattle.reach.specs.Privileges.{administrator, Holds, Administers, Permitted}
use Rattle.reach.specs.Changes.{view_made, view_put, view_taken, view_appointed, view_ruled}
use Rattle.reach.proofs.Testing.{some_map, written-cases}
use Rattle.reach.proofs.Sorts.{counted_known}
use Rattle.reach.proofs.Frames.{under_appointed, under_appointed_back, under_ruled, under_ruled_back, put_keeps, put_adds}
use Rattle.reach.proofs.Frames.{put_adds_only, taken_removes_only, made_keeps, made_adds_none}

-- An appointment of a known kind stands.
pub known_kind : (k : ℕ) → 1 ≤ k → k ≤ 3 → 0 < counted k
known_kind k a b = omega (arith, counted_known k b)

-- What f has over the objects of Over, t has: reach, and the appointments that stand.
pub record Carried (f t : View) (Over : ℕ → Type 0) : Type 0 where
  pub under : {x g : ℕ} → Over x → Under f x g → Under t x g
  pub appointments : (i : ℕ) → 0 < counted (f.appointment i).kind → f.appointment i ≡ t.appointment i

-- The rules in use of f are those of t.
abbrev pub RulesCarried : View → View → Type 0
RulesCarried f t = (i : ℕ) → (f.rule i).used ≡ true → f.rule i ≡ t.rule i

module _ {f t : View} {Over : ℕ → Type 0} (c : Carried f t Over) {u : ℕ} (user : User t u) where
  pub holds_carried : {kind x : ℕ} → 0 < counted kind → Over x → Holds f kind u x → Holds t kind u x
  holds_carried {kind} {x} k o h =
      record {
        user = user;
        by =
            some_map
            (λ i b.
            let e = c.appointments i (rw b.is_kind k) in
            record {
              is_kind = ap (λ (w : Appointment). w.kind) (sym e) ∙ b.is_kind;
              is_holder = ap (λ (w : Appointment). w.holder) (sym e) ∙ b.is_holder;
              covers = subst (λ (w : Appointment). Under t x w.a) e (c.under o b.covers);
            })
            h.by;
      }

  pub administers_carried : {a b : ℕ} → Over a → Over b → Administers f u a b → Administers t u a b
  administers_carried {a} {b} o q h =
      record {
        user = user;
        by =
            some_map
            (λ i s.
            let e = c.appointments i (rw s.is_kind (known_kind administrator (omega arith) (omega arith))) in
            record {
              is_kind = ap (λ (w : Appointment). w.kind) (sym e) ∙ s.is_kind;
              is_holder = ap (λ (w : Appointment). w.holder) (sym e) ∙ s.is_holder;
              covers_a = subst (λ (w : Appointment). Under t a w.a) e (c.under o s.covers_a);
              covers_b = subst (λ (w : Appointment). Under t b w.b) e (c.under q s.covers_b);
            })
            h.by;
      }

  pub permitted_carried : {k x : ℕ} → RulesCarried f t → Over u → Over x → Target t x → Permitted f u k x → Permitted t u k x
  permitted_carried {k} {x} r o q target h =
      record {
        user = user;
        target = target;
        number = h.number;
        by =
            some_map
            (λ i s.
            let e = r i s.used in
            record {
              used = ap (λ (w : AccessRule). w.used) (sym e) ∙ s.used;
              operation = ap (λ (w : AccessRule). bit w.operations k) (sym e) ∙ s.operation;
              covers_user = subst (λ (w : AccessRule). Under t u w.users) e (c.under o s.covers_user);
              covers_target = subst (λ (w : AccessRule). Under t x w.targets) e (c.under q s.covers_target);
            })
            h.by;
      }

-- ---- What each change carries, forward (to the view after) and back

abbrev pub All : ℕ → Type 0
All x = Unit {0}

module _ (v : View) where
  pub put_carries : (x g : ℕ) → Carried v (view_put v x g) All
  put_carries x g = record { under = λ o l. put_keeps v x g l; appointments = λ i s. refl }

  pub taken_carries_back : (x g : ℕ) → Carried (view_taken v x g) v All
  taken_carries_back x g = record { under = λ o l. taken_removes_only v x g l; appointments = λ i s. refl }

  module _ (x s g : ℕ) (free : InUse v x → ⊥) where
    pub made_carries : Carried v (view_made v x s g) All
    made_carries = record { under = λ o l. made_keeps v x s g free l; appointments = λ i k. refl }

    pub made_carries_back : Carried (view_made v x s g) v (InUse v)
    made_carries_back =
        record { under = λ o l. made_adds_none v x s g (λ e. free (subst (InUse v) e o)) l; appointments = λ i k. refl }

  -- APPOINT fills a place that is vacant; DISMISS empties one.
  pub appointed_carries : (i : ℕ) (w : Appointment) → counted (v.appointment i).kind ≡ 0 → Carried v (view_appointed v i w) All
  appointed_carries i w vacant =
      record {
        under = λ o l. under_appointed v i w l;
        appointments = λ j s.
            ⊎_elim
            (λ e. absurd (omega (arith, s, vacant, ap (λ (n : ℕ). counted (v.appointment n).kind) e.0)))
            (λ e. sym e.1)
            (written-cases w (v.appointment j) j i);
      }

  pub dismissed_carries_back : (i : ℕ) → Carried (view_appointed v i no_appointment) v All
  dismissed_carries_back i =
      record {
        under = λ o l. under_appointed_back v i no_appointment l;
        appointments = λ j s.
            ⊎_elim
            (λ e. absurd (omega (arith, s, ap (λ (w : Appointment). counted w.kind) e.1, counted_known 0 (omega arith))))
            (λ e. e.1)
            (written-cases no_appointment (v.appointment j) j i);
      }

  pub ruled_carries : (i : ℕ) (r : AccessRule) → Carried v (view_ruled v i r) All
  ruled_carries i r = record { under = λ o l. under_ruled v i r l; appointments = λ j s. refl }

  pub ruled_carries_back : (i : ℕ) (r : AccessRule) → Carried (view_ruled v i r) v All
  ruled_carries_back i r = record { under = λ o l. under_ruled_back v i r l; appointments = λ j s. refl }

  -- WITHDRAW leaves no rule that was not there.
  pub withdrawn_rules : (i : ℕ) → RulesCarried (view_ruled v i no_rule) v
  withdrawn_rules i j e =
      ⊎_elim
      (λ q. absurd (true≢false (sym e ∙ ap (λ (r : AccessRule). r.used) q.1)))
      (λ q. q.1)
      (written-cases no_rule (v.rule j) j i)

  pub same_carries : Carried v v All
  same_carries = record { under = λ o l. l; appointments = λ i s. refl }

-- ---- What PUT adds to what is held

-- Who holds something after PUT held it before, or it is under the object put and he holds the group.
pub holds_put : (v : View) (x g : ℕ) {kind u y : ℕ} → Holds (view_put v x g) kind u y → Holds v kind u y ⊎ (Under v y x × Holds v kind u g)
holds_put v x g {kind} {u} {y} h =
    ⊎_elim (λ l. inl (by_it l)) (λ l. inr (l.0, by_it l.1)) (put_adds_only v x g h.by.at.covers)
  where
    by_it : {z : ℕ} → Under v z (v.appointment h.by.place).a → Holds v kind u z
    by_it l =
        record {
          user = h.user;
          by =
              record {
                place = h.by.place;
                low = h.by.low;
                at = record { is_kind = h.by.at.is_kind; is_holder = h.by.at.is_holder; covers = l };
              };
        }

pub holds_put_new : (v : View) (x g : ℕ) → Group v g → {kind u y : ℕ} → Under v y x → Holds v kind u g → Holds (view_put v x g) kind u y
holds_put_new v x g j l h =
    record {
      user = h.user;
      by =
          some_map
          (λ i b. record { is_kind = b.is_kind; is_holder = b.is_holder; covers = put_adds v x g j l b.covers })
          h.by;
    }
