-- Where what stands after an allowed request comes from: it stood before and the request did not undo it, or the request put it there.
-- Kind by kind.
use mathlib.Core.Path.{◌≡◌, refl, sym, ap, ◌∙◌}
use mathlib.Core.Bool.{true, true≢false}
use mathlib.Core.Logic.{◌⊎◌, inl, inr, ⊎_elim}
use Prim.Native.Nat.{ℕ}
use native.Mathlib.Omega.{arith}
use Rattle.reach.specs.declared.Appointment.{Appointment}
use Rattle.reach.specs.declared.AccessRule.{AccessRule}
use Rattle.reach.specs.Tables.{View, counted, no_appointment, no_rule}
use Rattle.reach.specs.Reach.{Direct}
use Rattle.reach.proofs.Testing.{written-cases}
use Rattle.reach.proofs.Sorts.{counted_known}
use Rattle.reach.proofs.Frames.{direct_same, put_direct, taken_direct, made_direct}
use Rattle.rules.specs.declared.Request.{Request}
use Rattle.rules.specs.declared.Request.TheVariants.{Make, Put, Take, Appoint, Dismiss, Grant, Withdraw, Use}
use Rattle.rules.specs.Allowing.{Standing, view_after, appointing, granting}

clash : ◌≡◌ {A = ℕ} 0 1 → ⊥
clash e = omega arith

-- ---- Appointments

abbrev pub AppointmentFrom : View → Request → ℕ → Appointment → Type 0
AppointmentFrom v q i w = ((v.appointment i ≡ w) × (q ≡ Dismiss i → ⊥)) ⊎ (q ≡ appointing i w)

pub appointment_from : (v : View) (q : Request) (i : ℕ) (w : Appointment) → (view_after v q).appointment i ≡ w → Standing w
    → AppointmentFrom v q i w
appointment_from v (Make j s g) i w e s' = inl (e, λ z. clash (cc))
appointment_from v (Put x g) i w e s = inl (e, λ z. clash (cc))
appointment_from v (Take x g) i w e s = inl (e, λ z. clash (cc))
appointment_from v (Appoint j k h a b) i w e s =
    ⊎_elim
    (λ c. inr (appoint_is c.0 (sym c.1 ∙ e)))
    (λ c. inl (sym c.1 ∙ e, λ z. clash (cc)))
    (written-cases (record { kind = k; holder = h; a = a; b = b }) (v.appointment i) i j)
  where
    appoint_is : i ≡ j → record { kind = k; holder = h; a = a; b = b } ≡ w → Appoint j k h a b ≡ appointing i w
    appoint_is p q = ap (λ (n : ℕ). Appoint n k h a b) (sym p) ∙ ap (appointing i) q
appointment_from v (Dismiss j) i w e s =
    ⊎_elim
    (λ c. absurd (omega (arith, s, ap (λ (a : Appointment). counted a.kind) (sym c.1 ∙ e), counted_known 0 (omega arith))))
    (λ c. inl (sym c.1 ∙ e, λ z. c.0 (cc)))
    (written-cases no_appointment (v.appointment i) i j)
appointment_from v (Grant j u t o) i w e s = inl (e, λ z. clash (cc))
appointment_from v (Withdraw j) i w e s = inl (e, λ z. clash (cc))
appointment_from v (Use x k) i w e s = inl (e, λ z. clash (cc))

-- ---- Rules

abbrev pub RuleFrom : View → Request → ℕ → AccessRule → Type 0
RuleFrom v q i r = ((v.rule i ≡ r) × (q ≡ Withdraw i → ⊥)) ⊎ (q ≡ granting i r)

pub rule_from : (v : View) (q : Request) (i : ℕ) (r : AccessRule) → (view_after v q).rule i ≡ r → r.used ≡ true → RuleFrom v q i r
rule_from v (Make j s g) i r e u = inl (e, λ z. clash (cc))
rule_from v (Put x g) i r e u = inl (e, λ z. clash (cc))
rule_from v (Take x g) i r e u = inl (e, λ z. clash (cc))
rule_from v (Appoint j k h a b) i r e u = inl (e, λ z. clash (cc))
rule_from v (Dismiss j) i r e u = inl (e, λ z. clash (cc))
rule_from v (Grant j w t o) i r e u =
    ⊎_elim
    (λ c. inr (grant_is c.0 (sym c.1 ∙ e)))
    (λ c. inl (sym c.1 ∙ e, λ z. clash (cc)))
    (written-cases (record { used = true; users = w; targets = t; operations = o }) (v.rule i) i j)
  where
    grant_is : i ≡ j → record { used = true; users = w; targets = t; operations = o } ≡ r → Grant j w t o ≡ granting i r
    grant_is p q = ap (λ (n : ℕ). Grant n w t o) (sym p) ∙ ap (granting i) q
rule_from v (Withdraw j) i r e u =
    ⊎_elim
    (λ c. absurd (true≢false (sym u ∙ ap (λ (a : AccessRule). a.used) (sym e ∙ c.1))))
    (λ c. inl (sym c.1 ∙ e, λ z. c.0 (cc)))
    (written-cases no_rule (v.rule i) i j)
rule_from v (Use x k) i r e u = inl (e, λ z. clash (cc))

-- ---- Direct memberships

pub data DirectFrom (v : View) (q : Request) (x g : ℕ) : Type 0 where
  stood : Direct v x g → (q ≡ Take x g → ⊥) → DirectFrom v q x g
  by_make : (s : ℕ) → q ≡ Make x s g → DirectFrom v q x g
  by_put : q ≡ Put x g → DirectFrom v q x g

pub direct_from : (v : View) (q : Request) (x g : ℕ) → Direct (view_after v q) x g → DirectFrom v q x g
direct_from v (Make i s h) x g d = ⊎_elim (λ e. by_make s (is e.0 e.1)) (λ o. stood o (λ z. clash (cc))) (made_direct v i s h d)
  where
    is : x ≡ i → g ≡ h → Make i s h ≡ Make x s g
    is p q = cc
direct_from v (Put i h) x g d = ⊎_elim (λ e. by_put (is e.0 e.1)) (λ o. stood o (λ z. clash (cc))) (put_direct v i h d)
  where
    is : x ≡ i → g ≡ h → Put i h ≡ Put x g
    is p q = cc
direct_from v (Take i h) x g d = let w = taken_direct v i h d in stood w.0 (λ z. w.1 (cc, cc))
direct_from v (Appoint i k h a b) x g d =
    stood (direct_same (view_after v (Appoint i k h a b)) v (λ y. refl) (λ y z. refl) d) (λ z. clash (cc))
direct_from v (Dismiss i) x g d = stood (direct_same (view_after v (Dismiss i)) v (λ y. refl) (λ y z. refl) d) (λ z. clash (cc))
direct_from v (Grant i u t o) x g d = stood (direct_same (view_after v (Grant i u t o)) v (λ y. refl) (λ y z. refl) d) (λ z. clash (cc))
direct_from v (Withdraw i) x g d = stood (direct_same (view_after v (Withdraw i)) v (λ y. refl) (λ y z. refl) d) (λ z. clash (cc))
direct_from v (Use y k) x g d = stood d (λ z. clash (cc))
