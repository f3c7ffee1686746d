-- Readings of the rules that follow from them: when APPOINT is own gain, and that a hand-over is of what the sender does not own (D23), from
-- what APPOINT and PUT change of reach and privileges; and what a stored U or T that names nothing is to WITHDRAW (D17).
use mathlib.Core.Path.{◌≡◌, sym, subst}
use mathlib.Core.Bool.{true}
use mathlib.Core.Logic.{◌⊎◌, inl, inr, ⊎_elim}
use Prim.Native.Nat.{ℕ, ◌<◌}
use native.Mathlib.Omega.{arith}
use Rattle.reach.specs.declared.Appointment.{Appointment}
use Rattle.reach.specs.Tables.{View}
use Rattle.reach.specs.Reach.{InUse, Group, User, Under, itself}
use Rattle.reach.specs.Privileges.{owner, manager, administrator, Holds, Owns, Manages, Administers}
use Rattle.reach.specs.Changes.{view_put, view_appointed}
use Rattle.reach.proofs.Testing.{some_map}
use Rattle.reach.proofs.Reaching.{under_lower, under_trans}
use Rattle.reach.proofs.Frames.{put_adds_only, under_appointed_back}
use Rattle.reach.proofs.Appointing.{holds_appointed, administers_appointed, holds_new, administers_new}
use Rattle.rules.specs.declared.Request.TheVariants.{Withdraw}
use Rattle.rules.specs.Allowing.{Privilege, owning, managing, administering, permission, Has, Gives, HandsOver, MayAppoint, as_owner}
use Rattle.rules.specs.Allowing.{as_manager, Allowed}

-- Who holds a group holds what is under it.
holds_under : {v : View} {kind u x y : ℕ} → Under v x y → Holds v kind u y → Holds v kind u x
holds_under l h =
    record {
      user = h.user;
      by = some_map (λ i b. record { is_kind = b.is_kind; is_holder = b.is_holder; covers = under_trans l b.covers }) h.by;
    }

administers_under : {v : View} {u a b x y : ℕ} → Under v x a → Under v y b → Administers v u a b → Administers v u x y
administers_under l m h =
    record {
      user = h.user;
      by =
          some_map
          (λ i s.
          record {
            is_kind = s.is_kind;
            is_holder = s.is_holder;
            covers_a = under_trans l s.covers_a;
            covers_b = under_trans m s.covers_b;
          })
          h.by;
    }

-- ---- APPOINT as own gain

-- The appointment is his own, and he lacked what it gives.
pub record OwnAppointment (v : View) (u : ℕ) (w : Appointment) : Type 0 where
  pub own : w.holder ≡ u
  pub new : ((w.kind ≡ manager) × (Manages v u w.a → ⊥)) ⊎ ((w.kind ≡ administrator) × (Administers v u w.a w.b → ⊥))

module _ (v : View) (u i : ℕ) (w : Appointment) where
  appoint_gains : MayAppoint v u w → Gives v (view_appointed v i w) u → OwnAppointment v u w
  appoint_gains may g = go g.what g.has g.lacked
    where
      owned : MayAppoint v u w → w.kind ≡ owner → {x : ℕ} → Under v x w.a → Owns v u x
      owned (as_owner n o) e l = holds_under l o
      owned (as_manager k a b) e l = absurd (omega (arith, k, e))

      go : (p : Privilege) → Has (view_appointed v i w) u p → (Has v u p → ⊥) → OwnAppointment v u w
      go (owning x) h n =
          ⊎_elim (λ o. absurd (n o)) (λ z. absurd (n (owned may z.0.0 z.1))) (holds_appointed v i w h)
      go (managing x) h n =
          ⊎_elim
          (λ o. absurd (n o))
          (λ z. record { own = z.0.1; new = inl (z.0.0, λ m. n (holds_under z.1 m)) })
          (holds_appointed v i w h)
      go (administering a b) h n =
          ⊎_elim
          (λ o. absurd (n o))
          (λ z. record { own = z.0.1; new = inr (z.0.0, λ m. n (administers_under z.1.0 z.1.1 m)) })
          (administers_appointed v i w h)
      go (permission k x) h n =
          absurd
          (n
          (record {
            user = h.user;
            target = h.target;
            number = h.number;
            by =
                some_map
                (λ j s.
                record {
                  used = s.used;
                  operation = s.operation;
                  covers_user = under_appointed_back v i w s.covers_user;
                  covers_target = under_appointed_back v i w s.covers_target;
                })
                h.by;
          }))

  gains_appoint : i < 32 → User v u → Group v w.a → (w.kind ≡ administrator → Group v w.b) → OwnAppointment v u w
      → Gives v (view_appointed v i w) u
  gains_appoint l user ga gb o = ⊎_elim manages administers o.new
    where
      ia : InUse v w.a
      ia = omega (arith, ga)

      holder : User v w.holder
      holder = subst (User v) (sym o.own) user

      manages : (w.kind ≡ manager) × (Manages v u w.a → ⊥) → Gives v (view_appointed v i w) u
      manages z =
          record {
            what = managing w.a;
            there = ia;
            has =
                subst
                (λ (k : ℕ). Holds (view_appointed v i w) k u w.a)
                z.0
                (subst
                (λ (h : ℕ). Holds (view_appointed v i w) w.kind h w.a)
                o.own
                (holds_new v i w l holder (itself ia)));
            lacked = z.1;
          }

      administers : (w.kind ≡ administrator) × (Administers v u w.a w.b → ⊥) → Gives v (view_appointed v i w) u
      administers z =
          let ib : InUse v w.b = omega (arith, gb z.0) in
          record {
            what = administering w.a w.b;
            there = (ia, ib);
            has =
                subst
                (λ (h : ℕ). Administers (view_appointed v i w) h w.a w.b)
                o.own
                (administers_new v i w l holder z.0 (itself ia) (itself ib));
            lacked = z.1;
          }

-- Given the authority, APPOINT is own gain exactly where the holder is the sender and he lacks what it gives. So to appoint oneself owner
-- of what one owns is no gain.
pub record AppointGains (v : View) (u i : ℕ) (w : Appointment) : Type 0 where
  pub only : Gives v (view_appointed v i w) u → OwnAppointment v u w
  pub all : OwnAppointment v u w → Gives v (view_appointed v i w) u

pub appoint_own_gain : (v : View) (u i : ℕ) (w : Appointment) → i < 32 → User v u → Group v w.a
    → (w.kind ≡ administrator → Group v w.b) → MayAppoint v u w → AppointGains v u i w
appoint_own_gain v u i w l user ga gb may =
    record { only = appoint_gains v u i w may; all = gains_appoint v u i w l user ga gb }

-- ---- Hand-over

-- What PUT hands over is under the object put, or was held before.
pub hand_over_not_owned : (v : View) (u x g : ℕ) → HandsOver v (view_put v x g) u → Owns v u x → ⊥
hand_over_not_owned v u x g h o = ⊎_elim (λ z. go z.0 z.1) (λ z. go z.0 z.1) h.comes.gain
  where
    go : {kind : ℕ} → Holds (view_put v x g) kind h.who h.what → (Holds v kind h.who h.what → ⊥) → ⊥
    go a n =
        let b = a.by.at in
        ⊎_elim
        (λ l.
        n
        (record {
          user = a.user;
          by =
              record {
                place = a.by.place;
                low = a.by.low;
                at = record { is_kind = b.is_kind; is_holder = b.is_holder; covers = l };
              };
        }))
        (λ l. h.not_own (holds_under l.0 o))
        (put_adds_only v x g b.covers)

-- ---- WITHDRAW

-- Who owns T withdraws the rule whatever its U is: a number past the table, an empty object.
pub owner_withdraws : (v : View) (u i : ℕ) → i < 64 → (v.rule i).used ≡ true → Owns v u (v.rule i).targets → Allowed v u (Withdraw i)
owner_withdraws v u i l s o = record { known = o.user; fits = (l, s); authority = inr o; clean = tt }

-- A T that is past the table or empty is nobody's, so nobody withdraws the rule.
pub nobody_withdraws : (v : View) (u i : ℕ) → (InUse v (v.rule i).targets → ⊥) → Allowed v u (Withdraw i) → ⊥
nobody_withdraws v u i n a = ⊎_elim (λ m. n (under_lower m.by.at.covers_b)) (λ o. n (under_lower o.by.at.covers)) a.authority
