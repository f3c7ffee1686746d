-- Of the first thirteen records of the sample: which record asked for what, and which appointment its sender held then. By computation, as
-- no other position asks for it and no other place holds it.
use mathlib.Core.Path.{◌≡◌, refl, sym, ap, ◌∙◌}
use mathlib.Core.Bool.{Bool, true, false, not, ◌&&◌}
use Prim.Native.Nat.{ℕ, ◌<◌}
use lib.Dec.{eqb}
use Rattle.reach.specs.declared.Policy.{Policy}
use Rattle.reach.specs.declared.Appointment.{Appointment}
use Rattle.reach.specs.declared.AccessRule.{AccessRule}
use Rattle.reach.specs.Tests.{some}
use Rattle.reach.specs.Tables.{appointment, initial}
use Rattle.reach.specs.Privileges.{owner, manager, administrator, Holds, Owns, Manages, Administers}
use Rattle.reach.proofs.Testing.{decides_and, decides_eqb}
use Rattle.rules.specs.declared.Request.{Request}
use Rattle.rules.specs.declared.Request.TheVariants.{Make, Put, Take, Appoint, Dismiss, Grant, Withdraw, Use}
use Rattle.rules.specs.Records.{sender, request}
use Rattle.rules.specs.Allowing.{appointing, granting}
use Rattle.rules.proofs.Answered.{computed}
use Rattle.list.specs.Runs.{run, policy_at, before, record_at, Done}
use Rattle.list.proofs.Picking.{none_below, only_at}
use Rattle.list.proofs.Example.{thirteen}

abbrev pub at : ℕ → Policy
at = policy_at initial thirteen

-- ---- Which record

-- The kind of a request, and what it is about: an object and a group, a place, or a target and an operation.
abbrev pub subject : Request → ℕ × ℕ × ℕ
subject (Make x s g) = (1, x, g)
subject (Put x g) = (2, x, g)
subject (Take x g) = (3, x, g)
subject (Appoint i k h a b) = (4, i, 0)
subject (Dismiss i) = (5, i, 0)
subject (Grant i u t o) = (6, i, 0)
subject (Withdraw i) = (7, i, 0)
subject (Use x k) = (8, x, k)

abbrev pub about : ℕ → ℕ → ℕ → Request → Bool
about k x g q = eqb (subject q).0 k && eqb (subject q).1 x && eqb (subject q).2 g

abbrev asks : ℕ → ℕ → ℕ → ℕ → Bool
asks k x g j = about k x g (request (record_at initial thirteen j))

asked : (k x g : ℕ) {j u : ℕ} {q : Request} → Done initial thirteen j u q → about k x g q ≡ true → asks k x g j ≡ true
asked k x g d e = ap (about k x g) d.asks ∙ e

-- An accepted request about that, if only record m asks for it.
record Pinned (m j u : ℕ) (q : Request) : Type 0 where
  position : j ≡ m
  by : u ≡ sender (record_at initial thirteen m)
  is : request (record_at initial thirteen m) ≡ q

pinned : (k x g m : ℕ) → some 13 (λ j. asks k x g j && not (eqb j m)) ≡ false
    → {j u : ℕ} {q : Request} → Done initial thirteen j u q → about k x g q ≡ true → Pinned m j u q
pinned k x g m z {j} {u} {q} d e =
    let f : j ≡ m = only_at 13 m (asks k x g) z j d.within (asked k x g d e) in
    record {
      position = f;
      by = sym d.by ∙ ap (λ (n : ℕ). sender (record_at initial thirteen n)) f;
      is = ap (λ (n : ℕ). request (record_at initial thirteen n)) (sym f) ∙ d.asks;
    }

unasked : (k x g : ℕ) → some 13 (asks k x g) ≡ false → {j u : ℕ} {q : Request} → Done initial thirteen j u q → about k x g q ≡ true → ⊥
unasked k x g z {j} d e = none_below 13 (asks k x g) z j d.within (asked k x g d e)

same_appointment : (w v : Appointment) → w.kind ≡ v.kind → w.holder ≡ v.holder → w.a ≡ v.a → w.b ≡ v.b → w ≡ v
same_appointment w v k h a b = λ i. record { kind = k i; holder = h i; a = a i; b = b i }

-- The place, and what was asked for there.
asked_for : (i j : ℕ) (w v : Appointment) → appointing i w ≡ appointing j v → v ≡ w
asked_for i j w v e = same_appointment v w (cc) (cc) (cc) (cc)

-- The appointments of 2 as manager of 0, and of 3 as administrator of 4 and 5.
abbrev pub manager_2 : Appointment
manager_2 = record { kind = manager; holder = 2; a = 0; b = 0 }

abbrev pub administrator_3 : Appointment
administrator_3 = record { kind = administrator; holder = 3; a = 4; b = 5 }

pub no_appoint_0 : {j u : ℕ} (w : Appointment) → Done initial thirteen j u (appointing 0 w) → ⊥
unfolding computed
no_appoint_0 w d = unasked 4 0 0 refl d refl

pub only_appoint_1 : {j u : ℕ} (w : Appointment) → Done initial thirteen j u (appointing 1 w) → (j ≡ 6) × (u ≡ 1) × (w ≡ manager_2)
unfolding computed
only_appoint_1 w d = let p = pinned 4 1 0 6 refl d refl in (p.position, p.by, asked_for 1 1 manager_2 w p.is)

pub only_appoint_2 : {j u : ℕ} (w : Appointment) → Done initial thirteen j u (appointing 2 w)
    → (j ≡ 7) × (u ≡ 2) × (w ≡ administrator_3)
unfolding computed
only_appoint_2 w d = let p = pinned 4 2 0 7 refl d refl in (p.position, p.by, asked_for 2 2 administrator_3 w p.is)

pub only_grant_0 : {j u : ℕ} (r : AccessRule) → Done initial thirteen j u (granting 0 r)
    → (j ≡ 8) × (u ≡ 3) × (r.users ≡ 4) × (r.targets ≡ 5) × (r.operations ≡ 6)
unfolding computed
only_grant_0 r d =
    let p = pinned 6 0 0 8 refl d refl in
    let e : Grant 0 4 5 6 ≡ granting 0 r = p.is in
    (p.position, p.by, (cc), (cc), (cc))

-- 3 was put into 4 by record 11 and not made there; 6 was made in 5 by record 4 and not put there.
pub only_put_3_4 : {j u : ℕ} → Done initial thirteen j u (Put 3 4) → (j ≡ 11) × (u ≡ 2)
unfolding computed
only_put_3_4 d = let p = pinned 2 3 4 11 refl d refl in (p.position, p.by)

pub no_make_3_4 : {j u s : ℕ} → Done initial thirteen j u (Make 3 s 4) → ⊥
unfolding computed
no_make_3_4 d = unasked 1 3 4 refl d refl

pub only_make_6_5 : {j u s : ℕ} → Done initial thirteen j u (Make 6 s 5) → (j ≡ 4) × (u ≡ 1)
unfolding computed
only_make_6_5 d = let p = pinned 1 6 5 4 refl d refl in (p.position, p.by)

pub no_put_6_5 : {j u : ℕ} → Done initial thirteen j u (Put 6 5) → ⊥
unfolding computed
no_put_6_5 d = unasked 2 6 5 refl d refl

-- ---- Which place

-- u holds the appointment at place i, and it is of that kind.
abbrev held_at : Policy → ℕ → ℕ → ℕ → Bool
held_at p kind u i = eqb (appointment p i).kind kind && eqb (appointment p i).holder u

held : (p : Policy) (kind u i : ℕ) → (appointment p i).kind ≡ kind → (appointment p i).holder ≡ u → held_at p kind u i ≡ true
held p kind u i k h = (decides_and _ _ (decides_eqb _ kind) (decides_eqb _ u)).complete (k, h)

-- Just before record n the user w holds such an appointment at place m alone; or none.
module _ (n w kind : ℕ) {j u : ℕ} (e : j ≡ n) (f : u ≡ w) where
  place_of : (m : ℕ) → some 32 (λ i. held_at (at n) kind w i && not (eqb i m)) ≡ false → (i : ℕ) → i < 32
      → (appointment (at j) i).kind ≡ kind → (appointment (at j) i).holder ≡ u → i ≡ m
  place_of m z i l k h =
      let z' : some 32 (λ i. held_at (at j) kind u i && not (eqb i m)) ≡ false = rw (e, f) z in
      only_at 32 m (held_at (at j) kind u) z' i l (held (at j) kind u i k h)

  no_place : some 32 (held_at (at n) kind w) ≡ false → {x : ℕ} → Holds (before initial thirteen j) kind u x → ⊥
  no_place z o =
      let z' : some 32 (held_at (at j) kind u) ≡ false = rw (e, f) z in
      none_below 32 (held_at (at j) kind u) z' o.by.place o.by.low
      (held (at j) kind u o.by.place o.by.at.is_kind o.by.at.is_holder)

-- The owner's appointment of 1 before records 4 and 6, and none as manager; the manager's of 2 before records 7 and 11, and none as owner;
-- the administrator's of 3 before record 8.
places : (some 32 (λ i. held_at (at 4) owner 1 i && not (eqb i 0)) ≡ false)
    × (some 32 (held_at (at 4) manager 1) ≡ false)
    × (some 32 (λ i. held_at (at 6) owner 1 i && not (eqb i 0)) ≡ false)
    × (some 32 (λ i. held_at (at 7) manager 2 i && not (eqb i 1)) ≡ false)
    × (some 32 (λ i. held_at (at 8) administrator 3 i && not (eqb i 2)) ≡ false)
    × (some 32 (λ i. held_at (at 11) manager 2 i && not (eqb i 1)) ≡ false)
    × (some 32 (held_at (at 11) owner 2) ≡ false)
unfolding computed run
places = (refl, refl, refl, refl, refl, refl, refl)

module _ {j u x : ℕ} where
  pub owner_place_4 : j ≡ 4 → u ≡ 1 → (o : Owns (before initial thirteen j) u x) → o.by.place ≡ 0
  owner_place_4 e f o = place_of 4 1 owner e f 0 places.0 o.by.place o.by.low o.by.at.is_kind o.by.at.is_holder

  pub not_manager_4 : j ≡ 4 → u ≡ 1 → Manages (before initial thirteen j) u x → ⊥
  not_manager_4 e f o = no_place 4 1 manager e f places.1 o

  pub owner_place_6 : j ≡ 6 → u ≡ 1 → (o : Owns (before initial thirteen j) u x) → o.by.place ≡ 0
  owner_place_6 e f o = place_of 6 1 owner e f 0 places.2 o.by.place o.by.low o.by.at.is_kind o.by.at.is_holder

  pub manager_place_7 : j ≡ 7 → u ≡ 2 → (o : Manages (before initial thirteen j) u x) → o.by.place ≡ 1
  manager_place_7 e f o = place_of 7 2 manager e f 1 places.3 o.by.place o.by.low o.by.at.is_kind o.by.at.is_holder

  pub manager_place_11 : j ≡ 11 → u ≡ 2 → (o : Manages (before initial thirteen j) u x) → o.by.place ≡ 1
  manager_place_11 e f o =
      place_of 11 2 manager e f 1 places.5 o.by.place o.by.low o.by.at.is_kind o.by.at.is_holder

  pub not_owner_11 : j ≡ 11 → u ≡ 2 → Owns (before initial thirteen j) u x → ⊥
  not_owner_11 e f o = no_place 11 2 owner e f places.6 o

pub administrator_place_8 : {j u a b : ℕ} → j ≡ 8 → u ≡ 3 → (o : Administers (before initial thirteen j) u a b) → o.by.place ≡ 2
administrator_place_8 e f o =
    place_of 8 3 administrator e f 2 places.4 o.by.place o.by.low o.by.at.is_kind o.by.at.is_holder
