-- What stands stays until the request that undoes it: an appointment until its DISMISS, a rule until its WITHDRAW, a membership until its
-- TAKE; and what a request puts there is there. Kind by kind: no other request may write over what stands.
use mathlib.Core.Path.{◌≡◌, refl, sym, ap, ◌∙◌, subst}
use mathlib.Core.Bool.{true, true≢false}
use mathlib.Core.Logic.{⊎_elim}
use Prim.Native.Nat.{ℕ}
use native.Mathlib.Omega.{arith}
use Rattle.reach.specs.declared.Appointment.{Appointment}
use Rattle.reach.specs.declared.AccessRule.{AccessRule}
use Rattle.reach.specs.Tables.{View, no_appointment, no_rule}
use Rattle.reach.specs.Reach.{Direct}
use Rattle.reach.specs.Changes.{view_appointed, view_ruled}
use Rattle.reach.proofs.Testing.{written-cases}
use Rattle.reach.proofs.Frames.{direct_same, direct_put, direct_taken, direct_made, direct_new_made, direct_new_put}
use Rattle.rules.specs.declared.Request.{Request}
use Rattle.rules.specs.declared.Request.TheVariants.{Make, Put, Take, Appoint, Dismiss, Grant, Withdraw, Use}
use Rattle.rules.specs.Allowing.{Standing, Vacant, view_after, Allowed, appointing, granting}
use Rattle.reach.proofs.Carrying.{known_kind}

-- ---- Appointments

-- The appointment at p is w, and stands.
abbrev pub Holds : ℕ → Appointment → View → Type 0
Holds p w v = (v.appointment p ≡ w) × Standing w

-- A place other than the one that is written.
elsewhere : (v : View) (p j : ℕ) (w n : Appointment) → (p ≡ j → ⊥) → Holds p w v → Holds p w (view_appointed v j n)
elsewhere v p j w n m h =
    ⊎_elim (λ e. absurd (m e.0)) (λ e. (e.1 ∙ h.0, h.1)) (written-cases n (v.appointment p) p j)

pub appointment_stays : (v : View) (u : ℕ) (q : Request) (p : ℕ) (w : Appointment) → Allowed v u q → (q ≡ Dismiss p → ⊥)
    → Holds p w v → Holds p w (view_after v q)
appointment_stays v u (Make i s g) p w ok n h = h
appointment_stays v u (Put x g) p w ok n h = h
appointment_stays v u (Take x g) p w ok n h = h
appointment_stays v u (Appoint i k a b c) p w ok n h =
    elsewhere v p i w _ (λ e. occupied ok.fits.2 (subst (λ (j : ℕ). Holds j w v) e h)) h
  where
    occupied : Vacant (v.appointment i) → Holds i w v → ⊥
    occupied e f = omega (arith, e, subst Standing (sym f.0) f.1)
appointment_stays v u (Dismiss i) p w ok n h = elsewhere v p i w no_appointment (λ e. n (ap Dismiss (sym e))) h
appointment_stays v u (Grant i x t o) p w ok n h = h
appointment_stays v u (Withdraw i) p w ok n h = h
appointment_stays v u (Use x k) p w ok n h = h

pub appointing_appoints : (v : View) (u p : ℕ) (w : Appointment) → Allowed v u (appointing p w) → Holds p w (view_after v (appointing p w))
appointing_appoints v u p w ok =
    let f = ok.fits.1 in (
      ⊎_elim (λ e. e.1) (λ e. absurd (e.0 refl)) (written-cases w (v.appointment p) p p),
      known_kind w.kind f.known.0 f.known.1,
    )

-- ---- Rules

other_rule : (v : View) (p j : ℕ) (r n : AccessRule) → (p ≡ j → ⊥) → v.rule p ≡ r → (view_ruled v j n).rule p ≡ r
other_rule v p j r n m h = ⊎_elim (λ e. absurd (m e.0)) (λ e. e.1 ∙ h) (written-cases n (v.rule p) p j)

pub rule_stays : (v : View) (u : ℕ) (q : Request) (p : ℕ) (r : AccessRule) → r.used ≡ true → Allowed v u q → (q ≡ Withdraw p → ⊥)
    → v.rule p ≡ r → (view_after v q).rule p ≡ r
rule_stays v u (Make i s g) p r c ok n h = h
rule_stays v u (Put x g) p r c ok n h = h
rule_stays v u (Take x g) p r c ok n h = h
rule_stays v u (Appoint i k a b d) p r c ok n h = h
rule_stays v u (Dismiss i) p r c ok n h = h
rule_stays v u (Grant i x t o) p r c ok n h =
    other_rule v p i r _
    (λ e.
    true≢false
    (sym c ∙ ap (λ (a : AccessRule). a.used) (sym (subst (λ (j : ℕ). v.rule j ≡ r) e h)) ∙ ok.fits.3))
    h
rule_stays v u (Withdraw i) p r c ok n h = other_rule v p i r no_rule (λ e. n (ap Withdraw (sym e))) h
rule_stays v u (Use x k) p r c ok n h = h

pub granting_grants : (v : View) (u p : ℕ) (r : AccessRule) → r.used ≡ true → Allowed v u (granting p r)
    → (view_after v (granting p r)).rule p ≡ r
granting_grants v u p r c ok =
    ⊎_elim (λ e. e.1) (λ e. absurd (e.0 refl))
    (written-cases (record { used = true; users = r.users; targets = r.targets; operations = r.operations }) (v.rule p) p p)
    ∙ marked r c
  where
    marked : (r : AccessRule) → r.used ≡ true
        → record { used = true; users = r.users; targets = r.targets; operations = r.operations } ≡ r
    marked r c = ap (λ b. record { used = b; users = r.users; targets = r.targets; operations = r.operations }) (sym c)

-- ---- Memberships

pub direct_stays : (v : View) (u : ℕ) (q : Request) (x g : ℕ) → Allowed v u q → (q ≡ Take x g → ⊥) → Direct v x g
    → Direct (view_after v q) x g
direct_stays v u (Make i s h) x g ok n d = direct_made v i s h (λ j. omega (arith, j, ok.fits.3)) d
direct_stays v u (Put i h) x g ok n d = direct_put v i h d
direct_stays v u (Take i h) x g ok n d = direct_taken v i h (λ e. n (is e.0 e.1)) d
  where
    is : x ≡ i → g ≡ h → Take i h ≡ Take x g
    is p q = cc
direct_stays v u (Appoint i k a b c) x g ok n d = direct_same v (view_after v (Appoint i k a b c)) (λ y. refl) (λ y z. refl) d
direct_stays v u (Dismiss i) x g ok n d = direct_same v (view_after v (Dismiss i)) (λ y. refl) (λ y z. refl) d
direct_stays v u (Grant i w t o) x g ok n d = direct_same v (view_after v (Grant i w t o)) (λ y. refl) (λ y z. refl) d
direct_stays v u (Withdraw i) x g ok n d = direct_same v (view_after v (Withdraw i)) (λ y. refl) (λ y z. refl) d
direct_stays v u (Use y k) x g ok n d = d

pub made_in : (v : View) (u x s g : ℕ) → Allowed v u (Make x s g) → Direct (view_after v (Make x s g)) x g
made_in v u x s g ok =
    let f = ok.fits in
    direct_new_made v x s g (λ j. omega (arith, j, f.3)) (known_kind s f.1.0 f.1.1) f.2

pub put_in : (v : View) (u x g : ℕ) → Allowed v u (Put x g) → Direct (view_after v (Put x g)) x g
put_in v u x g ok = direct_new_put v x g ok.fits.0 ok.fits.1
