-- What APPOINT changes of privileges: who holds something after it held it before or holds it by the new appointment, and the new
-- appointment gives its holder what it covers. The place is read as written, and all others as they were.
use mathlib.Core.Path.{◌≡◌, refl, sym, ap, ◌∙◌, subst}
use mathlib.Core.Logic.{◌⊎◌, inl, inr, ⊎_elim}
use Prim.Native.Nat.{ℕ, ◌<◌}
use Rattle.reach.specs.declared.Appointment.{Appointment}
use Rattle.reach.specs.Tables.{View}
use Rattle.reach.specs.Reach.{User, Under}
use Rattle.reach.specs.Privileges.{administrator, HoldsBy, Holds, AdministersBy, Administers}
use Rattle.reach.specs.Changes.{view_appointed}
use Rattle.reach.proofs.Testing.{written-cases}
use Rattle.reach.proofs.Frames.{under_appointed, under_appointed_back}

at : (f : Appointment → ℕ) {a b : Appointment} → a ≡ b → f b ≡ f a
at f e = ap f (sym e)

here : (v : View) (i : ℕ) (w : Appointment) → (view_appointed v i w).appointment i ≡ w
here v i w = ⊎_elim (λ e. e.1) (λ e. absurd (e.0 refl)) (written-cases w (v.appointment i) i i)

-- Who holds something after APPOINT held it before, or holds it by the new appointment.
pub holds_appointed : (v : View) (i : ℕ) (w : Appointment) {kind u x : ℕ} → Holds (view_appointed v i w) kind u x
    → Holds v kind u x ⊎ (((w.kind ≡ kind) × (w.holder ≡ u)) × Under v x w.a)
holds_appointed v i w {kind} {u} {x} h =
    ⊎_elim
    (λ e.
    inr (
      (at (λ a. a.kind) e.1 ∙ b.is_kind, at (λ a. a.holder) e.1 ∙ b.is_holder),
      subst (λ (a : Appointment). Under v x a.a) e.1 c,
    ))
    (λ e.
    inl
    (record {
      user = h.user;
      by =
          record {
            place = h.by.place;
            low = h.by.low;
            at =
                record {
                  is_kind = at (λ a. a.kind) e.1 ∙ b.is_kind;
                  is_holder = at (λ a. a.holder) e.1 ∙ b.is_holder;
                  covers = subst (λ (a : Appointment). Under v x a.a) e.1 c;
                };
          };
    }))
    (written-cases w (v.appointment h.by.place) h.by.place i)
  where
    b : HoldsBy (view_appointed v i w) kind u x h.by.place
    b = h.by.at

    c : Under v x ((view_appointed v i w).appointment h.by.place).a
    c = under_appointed_back v i w b.covers

pub administers_appointed : (v : View) (i : ℕ) (w : Appointment) {u x y : ℕ} → Administers (view_appointed v i w) u x y
    → Administers v u x y ⊎ (((w.kind ≡ administrator) × (w.holder ≡ u)) × (Under v x w.a × Under v y w.b))
administers_appointed v i w {u} {x} {y} h =
    ⊎_elim
    (λ e.
    inr (
      (at (λ a. a.kind) e.1 ∙ b.is_kind, at (λ a. a.holder) e.1 ∙ b.is_holder),
      (subst (λ (a : Appointment). Under v x a.a) e.1 c, subst (λ (a : Appointment). Under v y a.b) e.1 d),
    ))
    (λ e.
    inl
    (record {
      user = h.user;
      by =
          record {
            place = h.by.place;
            low = h.by.low;
            at =
                record {
                  is_kind = at (λ a. a.kind) e.1 ∙ b.is_kind;
                  is_holder = at (λ a. a.holder) e.1 ∙ b.is_holder;
                  covers_a = subst (λ (a : Appointment). Under v x a.a) e.1 c;
                  covers_b = subst (λ (a : Appointment). Under v y a.b) e.1 d;
                };
          };
    }))
    (written-cases w (v.appointment h.by.place) h.by.place i)
  where
    b : AdministersBy (view_appointed v i w) u x y h.by.place
    b = h.by.at

    c : Under v x ((view_appointed v i w).appointment h.by.place).a
    c = under_appointed_back v i w b.covers_a

    d : Under v y ((view_appointed v i w).appointment h.by.place).b
    d = under_appointed_back v i w b.covers_b

-- The new appointment gives its holder what it covers.
pub holds_new : (v : View) (i : ℕ) (w : Appointment) → i < 32 → User v w.holder → {x : ℕ} → Under v x w.a
    → Holds (view_appointed v i w) w.kind w.holder x
holds_new v i w l user {x} c =
    record {
      user = user;
      by =
          record {
            place = i;
            low = l;
            at =
                record {
                  is_kind = ap (λ (a : Appointment). a.kind) (here v i w);
                  is_holder = ap (λ (a : Appointment). a.holder) (here v i w);
                  covers = subst (λ (a : Appointment). Under (view_appointed v i w) x a.a) (sym (here v i w)) (under_appointed v i w c);
                };
          };
    }

pub administers_new : (v : View) (i : ℕ) (w : Appointment) → i < 32 → User v w.holder → w.kind ≡ administrator
    → {x y : ℕ} → Under v x w.a → Under v y w.b → Administers (view_appointed v i w) w.holder x y
administers_new v i w l user k {x} {y} c d =
    record {
      user = user;
      by =
          record {
            place = i;
            low = l;
            at =
                record {
                  is_kind = ap (λ (a : Appointment). a.kind) (here v i w) ∙ k;
                  is_holder = ap (λ (a : Appointment). a.holder) (here v i w);
                  covers_a = subst (λ (a : Appointment). Under (view_appointed v i w) x a.a) (sym (here v i w)) (under_appointed v i w c);
                  covers_b = subst (λ (a : Appointment). Under (view_appointed v i w) y a.b) (sym (here v i w)) (under_appointed v i w d);
                };
          };
    }
