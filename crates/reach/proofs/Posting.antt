-- What a user is appointed over, gathered place by place of the table.
use mathlib.Core.Path.{◌≡◌, refl, sym, ap, ◌∙◌, subst}
use mathlib.Core.Bool.{Bool, true}
use mathlib.Core.List.{List}
use Prim.Native.Nat.{ℕ, ◌<◌}
use lib.Dec.{eqb}
use lib.ListN.{get_or}
use Rattle.reach.specs.declared.Appointment.{Appointment}
use Rattle.reach.specs.Words.{bit, SetOf}
use Rattle.reach.specs.Tests.{Some, Decides}
use Rattle.reach.specs.Tables.{sort_in, no_appointment}
use Rattle.reach.specs.Privileges.{owner, administrator}
use Rattle.reach.specs.Asking.{HasA, AppointedOver, CoversPair, HasB, HasFirst, OwnersA}
use Rattle.reach.proofs.Testing.{decides_at, decides_eqb}
use Rattle.reach.proofs.WordSets.{set_as}

-- The number a of an object is the A of the appointment at place j, which is of that kind and which u holds.
abbrev pub Posted : List Appointment → ℕ → ℕ → ℕ → ℕ → Type 0
Posted l kind u j a = (a < 64) × HasA (get_or l j no_appointment) kind u a

-- The number x alone, where a test says that T holds.
just_if : {s y x : ℕ} {T : Type 0} (t : Bool) → SetOf y (λ a. (a < 64) × (x ≡ a)) → SetOf s (λ a. (t ≡ true) × (bit y a ≡ 1)) → Decides t T
    → SetOf s (λ a. T × ((a < 64) × (x ≡ a)))
just_if t y s d = set_as s (λ a v. (d.sound v.0, y.only a v.1)) (λ a v. (d.complete v.0, y.all a v.1))

-- The A of one appointment, where it is of that kind.
pub posted : {s y kind : ℕ} {w : Appointment} (t : Bool) → SetOf y (λ a. (a < 64) × (w.a ≡ a))
    → SetOf s (λ a. (t ≡ true) × (bit y a ≡ 1)) → Decides t (w.kind ≡ kind) → SetOf s (λ a. (a < 64) × HasA w kind w.holder a)
posted t y s d =
    set_as
    (just_if t y s d)
    (λ a v. (v.1.0, record { is_kind = v.0; is_holder = refl; is_a = v.1.1 }))
    (λ a v. (v.1.is_kind, (v.0, v.1.is_a)))

-- The A of an owner's appointment, where its holder is a user.
pub owner_posted : {s y : ℕ} {sorts : List ℕ} {w : Appointment} (t : Bool) → w.kind ≡ owner → t ≡ eqb (sort_in sorts w.holder) 2
    → SetOf y (λ a. (a < 64) × (w.a ≡ a)) → SetOf s (λ a. (t ≡ true) × (bit y a ≡ 1))
    → SetOf s (λ a. (a < 64) × OwnersA sorts w a)
owner_posted t k e y s =
    set_as
    (just_if t y s (decides_at e (decides_eqb _ 2)))
    (λ a v. (v.1.0, record { is_kind = k; is_user = v.0; is_a = v.1.1 }))
    (λ a v. (v.1.is_user, (v.0, v.1.is_a)))

-- A side of one administrator's appointment, where its other side is in the set.
pub first_posted : {s y set other : ℕ} {w : Appointment} (t : Bool) → SetOf y (λ a. (a < 64) × (w.a ≡ a))
    → SetOf s (λ a. (t ≡ true) × (bit y a ≡ 1)) → Decides t ((w.kind ≡ administrator) × (bit set other ≡ 1)) → other ≡ w.b
    → SetOf s (λ a. (a < 64) × HasFirst w w.holder set a)
first_posted {set = set} t y s d e =
    set_as
    (just_if t y s d)
    (λ a v. (v.1.0, record { is_kind = v.0.0; is_holder = refl; in_b = ap (bit set) (sym e) ∙ v.0.1; is_a = v.1.1 }))
    (λ a v. ((v.1.is_kind, ap (bit set) e ∙ v.1.in_b), (v.0, v.1.is_a)))

pub second_posted : {s y set other : ℕ} {w : Appointment} (t : Bool) → SetOf y (λ b. (b < 64) × (w.b ≡ b))
    → SetOf s (λ b. (t ≡ true) × (bit y b ≡ 1)) → Decides t ((w.kind ≡ administrator) × (bit set other ≡ 1)) → other ≡ w.a
    → SetOf s (λ b. (b < 64) × HasB w w.holder set b)
second_posted {set = set} t y s d e =
    set_as
    (just_if t y s d)
    (λ b v. (v.1.0, record { is_kind = v.0.0; is_holder = refl; in_a = ap (bit set) (sym e) ∙ v.0.1; is_b = v.1.1 }))
    (λ b v. ((v.1.is_kind, ap (bit set) e ∙ v.1.in_a), (v.0, v.1.is_b)))

-- What it gives its holder it gives u, who is he.
pub held_posted : {s kind u : ℕ} {w : Appointment} → w.holder ≡ u → SetOf s (λ a. (a < 64) × HasA w kind w.holder a)
    → SetOf s (λ a. (a < 64) × HasA w kind u a)
held_posted {s} {kind} {u} {w} e h = subst (λ (v : ℕ). SetOf s (λ a. (a < 64) × HasA w kind v a)) e h

pub held_pair : {t : Bool} {u first second : ℕ} {w : Appointment} → w.holder ≡ u → Decides t (CoversPair w w.holder first second)
    → Decides t (CoversPair w u first second)
held_pair {t} {u} {first} {second} {w} e d = subst (λ (v : ℕ). Decides t (CoversPair w v first second)) e d

pub held_first : {s set u : ℕ} {w : Appointment} → w.holder ≡ u → SetOf s (λ a. (a < 64) × HasFirst w w.holder set a)
    → SetOf s (λ a. (a < 64) × HasFirst w u set a)
held_first {s} {set} {u} {w} e h = subst (λ (v : ℕ). SetOf s (λ a. (a < 64) × HasFirst w v set a)) e h

pub held_second : {s set u : ℕ} {w : Appointment} → w.holder ≡ u → SetOf s (λ b. (b < 64) × HasB w w.holder set b)
    → SetOf s (λ b. (b < 64) × HasB w u set b)
held_second {s} {set} {u} {w} e h = subst (λ (v : ℕ). SetOf s (λ b. (b < 64) × HasB w v set b)) e h

-- What the places give together is what he is appointed over.
pub appointed_over : {s kind u : ℕ} {l : List Appointment} → SetOf s (λ a. Some 32 (λ j. Posted l kind u j a))
    → SetOf s (AppointedOver l kind u)
appointed_over h =
    set_as
    h
    (λ a w. record { low = w.at.0; by = record { place = w.place; low = w.low; at = w.at.1 } })
    (λ a w. record { place = w.by.place; low = w.by.low; at = (w.low, w.by.at) })
