-- What one allowed request keeps: every object keeps an owner, every holder stays a user; and what it does not do: give its sender a
-- privilege, or hand over what its sender does not own. Kind by kind, from what each change carries.
use mathlib.Core.Path.{◌≡◌, refl, sym, ap, ◌∙◌, subst}
use mathlib.Core.Logic.{⊎_elim}
use Prim.Native.Nat.{ℕ, ◌<◌}
use native.Mathlib.Decide.{ℕ_discrete}
use native.Mathlib.Omega.{arith}
use Rattle.reach.specs.declared.Appointment.{Appointment}
use Rattle.reach.specs.Tests.{Some}
use Rattle.reach.specs.Tables.{View, counted, no_appointment}
use Rattle.reach.specs.Reach.{InUse, Group, User, Under}
use Rattle.reach.specs.Privileges.{owner, manager, administrator, Holds, Owns}
use Rattle.reach.specs.Changes.{view_made, view_appointed}
use Rattle.reach.proofs.Testing.{some_map, written-cases}
use Rattle.reach.proofs.Sorts.{counted_known}
use Rattle.reach.proofs.Reaching.{under_trans}
use Rattle.reach.proofs.Frames.{made_under}
use Rattle.reach.proofs.Carrying.{known_kind, Carried, RulesCarried, holds_carried, administers_carried, permitted_carried, All}
use Rattle.reach.proofs.Carrying.{put_carries, taken_carries_back, made_carries, made_carries_back, appointed_carries}
use Rattle.reach.proofs.Carrying.{dismissed_carries_back, ruled_carries, ruled_carries_back, withdrawn_rules, same_carries}
use Rattle.reach.proofs.Appointing.{holds_appointed}
use Rattle.rules.specs.declared.Request.{Request}
use Rattle.rules.specs.declared.Request.TheVariants.{Make, Put, Take, Appoint, Dismiss, Grant, Withdraw, Use}
use Rattle.rules.specs.Allowing.{Privilege, owning, managing, administering, permission, Has, There, Gives, Comes, HandsOver, Owned}
use Rattle.rules.specs.Allowing.{MayAppoint, as_owner, as_manager, Standing, view_after, Allowed}

owner_stands : 0 < counted owner
owner_stands = known_kind owner (omega arith) (omega arith)

manager_stands : 0 < counted manager
manager_stands = known_kind manager (omega arith) (omega arith)

-- ---- Every object keeps an owner

-- Owners go with what is carried, where no object and no user is new.
owned_carried : {v n : View} → Carried v n All → ((x : ℕ) → n.sort x ≡ v.sort x) → Owned v → Owned n
owned_carried {v} {n} c s own x i =
    some_map (λ u h. holds_carried c (s u ∙ h.user) owner_stands tt h) (own x (omega (arith, s x, i)))

module _ (v : View) (i s g : ℕ) (free : v.sort i ≡ 0) where
  not_used : InUse v i → ⊥
  not_used u = omega (arith, u, free)

  -- The sort of an object that was there is as it was.
  made_sort : (x : ℕ) → InUse v x → (view_made v i s g).sort x ≡ v.sort x
  made_sort x u = ⊎_elim (λ e. absurd (not_used (subst (InUse v) e.0 u))) (λ e. e.1) (written-cases (counted s) (v.sort x) x i)

  -- The new object has the owners of its group.
  made_owned : 0 < counted s → Group v g → Owned v → Owned (view_made v i s g)
  made_owned k grp own x u = go (ℕ_discrete x i)
    where
      kept : {w y : ℕ} → Owns v w y → Owns (view_made v i s g) w y
      kept {w} h = holds_carried (made_carries v i s g not_used) (made_sort w (omega (arith, h.user)) ∙ h.user) owner_stands tt h

      new : {w : ℕ} → Owns v w g → Owns (view_made v i s g) w i
      new {w} h =
          record {
            user = made_sort w (omega (arith, h.user)) ∙ h.user;
            by =
                some_map
                (λ j b. record { is_kind = b.is_kind; is_holder = b.is_holder; covers = made_under v i s g not_used k grp b.covers })
                h.by;
          }

      go : Dec (x ≡ i) → Some 64 (λ w. Owns (view_made v i s g) w x)
      go (yes e) = some_map (λ w h. subst (λ (y : ℕ). Owns (view_made v i s g) w y) (sym e) (new h)) (own g (omega (arith, grp)))
      go (no n) =
          let old : (view_made v i s g).sort x ≡ v.sort x =
          ⊎_elim (λ e. absurd (n e.0)) (λ e. e.1) (written-cases (counted s) (v.sort x) x i) in
          some_map (λ w h. kept h) (own x (omega (arith, old, u)))

pub step_owned : (v : View) (u : ℕ) (q : Request) → Allowed v u q → Owned v → Owned (view_after v q)
step_owned v u (Make i s g) ok =
    let f = ok.fits in made_owned v i s g f.3 (known_kind s f.1.0 f.1.1) f.2
step_owned v u (Put x g) ok = owned_carried (put_carries v x g) (λ y. refl)
step_owned v u (Take x g) ok = λ own. ok.clean
step_owned v u (Appoint i k h a b) ok = owned_carried (appointed_carries v i _ ok.fits.2) (λ y. refl)
step_owned v u (Dismiss i) ok = λ own. ok.clean
step_owned v u (Grant i w t o) ok = owned_carried (ruled_carries v i _) (λ y. refl)
step_owned v u (Withdraw i) ok = owned_carried (ruled_carries v i _) (λ y. refl)
step_owned v u (Use x k) ok = λ own. own

-- ---- Every holder stays a user

-- Whoever holds a standing appointment is a user.
abbrev pub Holders : View → Type 0
Holders v = (i : ℕ) → Standing (v.appointment i) → User v (v.appointment i).holder

-- A place is written over by what has a user for its holder, if it stands.
holders_appointed : (v : View) (i : ℕ) (w : Appointment) → (Standing w → User v w.holder) → Holders v → Holders (view_appointed v i w)
holders_appointed v i w new hs j s =
    ⊎_elim
    (λ e. subst (λ (a : Appointment). User v a.holder) (sym e.1) (new (subst Standing e.1 s)))
    (λ e. subst (λ (a : Appointment). User v a.holder) (sym e.1) (hs j (subst Standing e.1 s)))
    (written-cases w (v.appointment j) j i)

pub step_holders : (v : View) (u : ℕ) (q : Request) → Allowed v u q → Holders v → Holders (view_after v q)
step_holders v u (Make i s g) ok hs = λ j k. let e = hs j k in made_sort v i s g ok.fits.3 _ (omega (arith, e)) ∙ e
step_holders v u (Put x g) ok hs = hs
step_holders v u (Take x g) ok hs = hs
step_holders v u (Appoint i k h a b) ok hs = holders_appointed v i _ (λ s. ok.fits.1.holder) hs
step_holders v u (Dismiss i) ok hs = holders_appointed v i no_appointment (λ s. absurd (omega (arith, s, counted_known 0 (omega arith)))) hs
step_holders v u (Grant i w t o) ok hs = hs
step_holders v u (Withdraw i) ok hs = hs
step_holders v u (Use x k) ok hs = hs

-- ---- No own gain

-- What is carried back was had before, so that nothing is given.
nothing_given : {v n : View} → Carried n v (InUse v) → RulesCarried n v → ((x : ℕ) → InUse v x → n.sort x ≡ v.sort x)
    → {u : ℕ} → User v u → Gives v n u → ⊥
nothing_given {v} {n} c r s {u} e g = g.lacked (had g.what g.there g.has)
  where
    had : (w : Privilege) → There v w → Has n u w → Has v u w
    had (owning x) t h = holds_carried c e owner_stands t h
    had (managing x) t h = holds_carried c e manager_stands t h
    had (administering a b) t h = administers_carried c e t.0 t.1 h
    had (permission k x) t h = permitted_carried c e r (omega (arith, e)) t (sym (s x t) ∙ h.target) h

-- What is carried for all objects is carried for those in use.
for_used : {v n : View} → Carried n v All → Carried n v (InUse v)
for_used c = record { under = λ o l. c.under tt l; appointments = c.appointments }

pub step_no_gain : (v : View) (u : ℕ) (q : Request) → Allowed v u q → Gives v (view_after v q) u → ⊥
step_no_gain v u (Make i s g) ok =
    nothing_given (made_carries_back v i s g (not_used v i s g ok.fits.3)) (λ j e. refl) (made_sort v i s g ok.fits.3) ok.known
step_no_gain v u (Put x g) ok = ok.clean.0
step_no_gain v u (Take x g) ok = nothing_given (for_used (taken_carries_back v x g)) (λ j e. refl) (λ y i. refl) ok.known
step_no_gain v u (Appoint i k h a b) ok = ok.clean
step_no_gain v u (Dismiss i) ok = nothing_given (for_used (dismissed_carries_back v i)) (λ j e. refl) (λ y t. refl) ok.known
step_no_gain v u (Grant i w t o) ok = ok.clean
step_no_gain v u (Withdraw i) ok = nothing_given (for_used (ruled_carries_back v i _)) (withdrawn_rules v i) (λ y t. refl) ok.known
step_no_gain v u (Use x k) ok = nothing_given (for_used (same_carries v)) (λ j e. refl) (λ y t. refl) ok.known

-- ---- No hand-over

-- Where what stands is carried back and holders are users, nobody comes to own or manage anything.
nobody_comes : {v n : View} → Carried n v (InUse v) → Holders v → {u x : ℕ} → Comes v n u x → ⊥
nobody_comes {v} {n} c hs {u} {x} m = ⊎_elim (λ g. g.1 (had owner_stands g.0)) (λ g. g.1 (had manager_stands g.0)) m.gain
  where
    had : {kind : ℕ} → 0 < counted kind → Holds n kind u x → Holds v kind u x
    had {kind} k h =
        let b = h.by.at in
        let s : Standing (n.appointment h.by.place) = subst (λ (j : ℕ). 0 < counted j) (sym b.is_kind) k in
        let e = c.appointments h.by.place s in
        let holder : (v.appointment h.by.place).holder ≡ u = ap (λ (a : Appointment). a.holder) (sym e) ∙ b.is_holder in
        holds_carried c (subst (User v) holder (hs h.by.place (subst Standing e s))) k m.there h

-- Who may appoint an owner or manager owns what is under its A.
sender_owns : {v : View} {u : ℕ} {w : Appointment} {x : ℕ} → (w.kind ≡ administrator → ⊥) → MayAppoint v u w → Under v x w.a
    → Owns v u x
sender_owns n (as_owner m o) l =
    record {
      user = o.user;
      by = some_map (λ i b. record { is_kind = b.is_kind; is_holder = b.is_holder; covers = under_trans l b.covers }) o.by;
    }
sender_owns n (as_manager e a b) l = absurd (n e)

appointed_hands : (v : View) (u i : ℕ) (w : Appointment) → MayAppoint v u w → HandsOver v (view_appointed v i w) u → ⊥
appointed_hands v u i w may h =
    ⊎_elim
    (λ g. go (omega arith) g.0 g.1)
    (λ g. go (omega arith) g.0 g.1)
    h.comes.gain
  where
    go : {kind : ℕ} → kind < administrator → Holds (view_appointed v i w) kind h.who h.what → (Holds v kind h.who h.what → ⊥) → ⊥
    go l a n =
        ⊎_elim
        (λ old. n old)
        (λ new. h.not_own (sender_owns (λ e. omega (arith, e, new.0.0, l)) may new.1))
        (holds_appointed v i w a)

pub step_no_hand : (v : View) (u : ℕ) (q : Request) → Allowed v u q → Holders v → HandsOver v (view_after v q) u → ⊥
step_no_hand v u (Make i s g) ok hs h = nobody_comes (made_carries_back v i s g (not_used v i s g ok.fits.3)) hs h.comes
step_no_hand v u (Put x g) ok hs h = ok.clean.1 h
step_no_hand v u (Take x g) ok hs h = nobody_comes (for_used (taken_carries_back v x g)) hs h.comes
step_no_hand v u (Appoint i k a b c) ok hs h = appointed_hands v u i _ ok.authority h
step_no_hand v u (Dismiss i) ok hs h = nobody_comes (for_used (dismissed_carries_back v i)) hs h.comes
step_no_hand v u (Grant i w t o) ok hs h = nobody_comes (for_used (ruled_carries_back v i _)) hs h.comes
step_no_hand v u (Withdraw i) ok hs h = nobody_comes (for_used (ruled_carries_back v i _)) hs h.comes
step_no_hand v u (Use x k) ok hs h = nobody_comes (for_used (same_carries v)) hs h.comes
