-- APPOINT gives its sender something exactly if it appoints himself and he lacks what it covers: A by that kind, or for an administrator
-- the pair (A, B). The new appointment gives what is under its groups, and what one holds is closed downward.
use mathlib.Core.Path.{◌≡◌, sym, ◌∙◌, subst}
use mathlib.Core.Bool.{Bool}
use mathlib.Core.Logic.{◌⊎◌, inl, inr, ⊎_elim}
use Prim.Native.Nat.{ℕ, ◌<◌}
use native.Mathlib.Omega.{arith}
use Rattle.reach.specs.declared.Appointment.{Appointment}
use Rattle.reach.specs.Tables.{View}
use Rattle.reach.specs.Reach.{InUse, User, itself}
use Rattle.reach.specs.Privileges.{owner, manager, administrator, Holds, Administers}
use Rattle.reach.specs.Changes.{view_appointed}
use Rattle.reach.specs.Tests.{Decides}
use Rattle.reach.proofs.Testing.{decides_as, some_map}
use Rattle.reach.proofs.Reaching.{under_upper}
use Rattle.reach.proofs.Frames.{under_appointed_back}
use Rattle.reach.proofs.Appointing.{holds_appointed, administers_appointed, holds_new, administers_new}
use Rattle.rules.specs.Allowing.{Privilege, owning, managing, administering, permission, Has, Gives}
use Rattle.gains.specs.Lacking.{LacksAppointed}
use Rattle.gains.proofs.Downward.{holds_down, administers_down}

module _ (v : View) (u i : ℕ) (w : Appointment) where
  pub appoint_gives : Gives v (view_appointed v i w) u → LacksAppointed v u w
  appoint_gives g = go g.what g.has g.lacked
    where
      held : {kind x : ℕ} → (w.kind ≡ kind → (w.kind ≡ owner) ⊎ (w.kind ≡ manager)) → (kind ≡ administrator → ⊥)
          → Holds (view_appointed v i w) kind u x → (Holds v kind u x → ⊥) → LacksAppointed v u w
      held {kind} {x} known other h n =
          ⊎_elim
          (λ o. absurd (n o))
          (λ z.
          record {
            own = z.0.1;
            user = h.user;
            in_a = under_upper z.1;
            in_b = λ e. absurd (other (sym z.0.0 ∙ e));
            lacks = inl (known z.0.0, λ m. n (holds_down (subst (λ (k : ℕ). Holds v k u w.a) z.0.0 m) z.1));
          })
          (holds_appointed v i w h)

      go : (p : Privilege) → Has (view_appointed v i w) u p → (Has v u p → ⊥) → LacksAppointed v u w
      go (owning x) h n = held (λ e. inl e) (λ e. omega (arith, e)) h n
      go (managing x) h n = held (λ e. inr e) (λ e. omega (arith, e)) h n
      go (administering a b) h n =
          ⊎_elim
          (λ o. absurd (n o))
          (λ z.
          record {
            own = z.0.1;
            user = h.user;
            in_a = under_upper z.1.0;
            in_b = λ e. under_upper z.1.1;
            lacks = inr (z.0.0, λ m. n (administers_down m z.1.0 z.1.1));
          })
          (administers_appointed v i w h)
      go (permission k x) h n =
          absurd
          (n
          (record {
            user = h.user;
            target = h.target;
            number = h.number;
            by =
                some_map
                (λ j s.
                record {
                  used = s.used;
                  operation = s.operation;
                  covers_user = under_appointed_back v i w s.covers_user;
                  covers_target = under_appointed_back v i w s.covers_target;
                })
                h.by;
          }))

  module _ (low : i < 32) (l : LacksAppointed v u w) where
    has_a : {kind : ℕ} → w.kind ≡ kind → Holds (view_appointed v i w) kind u w.a
    has_a e =
        subst
        (λ (k : ℕ). Holds (view_appointed v i w) k u w.a)
        e
        (subst
        (λ (h : ℕ). Holds (view_appointed v i w) w.kind h w.a)
        l.own
        (holds_new v i w low (subst (User v) (sym l.own) l.user) (itself l.in_a)))

    pub gives_appoint : Gives v (view_appointed v i w) u
    gives_appoint = ⊎_elim (λ z. held z.0 z.1) pair l.lacks
      where
        held : (w.kind ≡ owner) ⊎ (w.kind ≡ manager) → (Holds v w.kind u w.a → ⊥) → Gives v (view_appointed v i w) u
        held (inl e) n =
            record {
              what = owning w.a;
              there = l.in_a;
              has = has_a e;
              lacked = subst (λ (k : ℕ). Holds v k u w.a → ⊥) e n;
            }
        held (inr e) n =
            record {
              what = managing w.a;
              there = l.in_a;
              has = has_a e;
              lacked = subst (λ (k : ℕ). Holds v k u w.a → ⊥) e n;
            }

        pair : (w.kind ≡ administrator) × (Administers v u w.a w.b → ⊥) → Gives v (view_appointed v i w) u
        pair z =
            record {
              what = administering w.a w.b;
              there = (l.in_a, l.in_b z.0);
              has =
                  subst
                  (λ (h : ℕ). Administers (view_appointed v i w) h w.a w.b)
                  l.own
                  (administers_new v i w low (subst (User v) (sym l.own) l.user) z.0 (itself l.in_a) (itself (l.in_b z.0)));
              lacked = z.1;
            }

-- ---- What is lacked, by the kind of the appointment

module _ (v : View) (u : ℕ) (w : Appointment) (own : w.holder ≡ u) (user : User v u) (a : InUse v w.a) where
  pub lacks_held : {t : Bool} (kind : ℕ) → w.kind ≡ kind → (kind ≡ owner) ⊎ (kind ≡ manager) → Decides t (Holds v kind u w.a → ⊥)
      → Decides t (LacksAppointed v u w)
  lacks_held kind e k d =
      decides_as
      d
      (λ n.
      record {
        own = own;
        user = user;
        in_a = a;
        in_b = λ q. absurd (⊎_elim (λ s. omega (arith, s, e, q)) (λ s. omega (arith, s, e, q)) k);
        lacks =
            inl (
              ⊎_elim (λ s. inl (e ∙ s)) (λ s. inr (e ∙ s)) k,
              λ h. n (subst (λ (j : ℕ). Holds v j u w.a) e h),
            );
      })
      (λ l h.
      ⊎_elim
      (λ z. z.1 (subst (λ (j : ℕ). Holds v j u w.a) (sym e) h))
      (λ z. ⊎_elim (λ s. omega (arith, s, e, z.0)) (λ s. omega (arith, s, e, z.0)) k)
      l.lacks)

  pub lacks_pair : {t : Bool} → w.kind ≡ administrator → Decides t (InUse v w.b × (Administers v u w.a w.b → ⊥))
      → Decides t (LacksAppointed v u w)
  lacks_pair e d =
      decides_as
      d
      (λ n. record { own = own; user = user; in_a = a; in_b = λ q. n.0; lacks = inr (e, n.1) })
      (λ l. (
        l.in_b e,
        λ h.
            ⊎_elim
            (λ z. ⊎_elim (λ s. omega (arith, s, e)) (λ s. omega (arith, s, e)) z.0)
            (λ z. z.1 h)
            l.lacks,
      ))

-- An appointment of no such kind gives nothing.
pub lacks_none : (v : View) (u : ℕ) (w : Appointment) → (w.kind ≡ owner → ⊥) → (w.kind ≡ manager → ⊥) → (w.kind ≡ administrator → ⊥)
    → LacksAppointed v u w → ⊥
lacks_none v u w a b c l = ⊎_elim (λ z. ⊎_elim a b z.0) (λ z. c z.0) l.lacks
