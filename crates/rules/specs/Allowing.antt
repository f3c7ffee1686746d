-- The rules in a second wording: what the board allows, and what is read of the policy after it, as relations over what is read of the
-- policy before. That the judge accepts just what is allowed here is proved in proofs/.
use Rattle.std.specs.Prelude.{◌≡◌, true, false, ◌⊎◌, List, ℕ, ◌≤◌, ◌<◌, length}
use Rattle.frame.specs.Fields.{length_field, kind_field}
use Rattle.reach.specs.declared.Appointment.{Appointment}
use Rattle.reach.specs.declared.AccessRule.{AccessRule}
use Rattle.reach.specs.Tests.{Some}
use Rattle.reach.specs.Tables.{View, counted}
use Rattle.reach.specs.Reach.{InUse, Group, User, Target}
use Rattle.reach.specs.Privileges.{administrator, Owns, Manages, Administers, Permitted}
use Rattle.reach.specs.Changes.{view_made, view_put, view_taken, view_appointed, view_dismissed, view_granted, view_withdrawn}
use Rattle.rules.specs.declared.Request.{Request}
use Rattle.rules.specs.declared.Request.TheVariants.{Make, Put, Take, Appoint, Dismiss, Grant, Withdraw, Use}
use Rattle.rules.specs.Records.{length_of}

-- ---- Checks 1 to 3

-- A record whose length field and kind are as they should be.
pub record WellFormed (b : List ℕ) : Type 0 where
  pub whole : 4 ≤ length b
  pub exact : length b ≡ length_field b
  pub known : (1 ≤ kind_field b) × (kind_field b ≤ 8)
  pub fitting : length b ≡ length_of (kind_field b)

-- ---- What a change gives

-- [01:reach.7] "His holdings are these four sets."
pub data Privilege : Type 0 where
  owning managing : (x : ℕ) → Privilege
  administering : (a b : ℕ) → Privilege
  permission : (k x : ℕ) → Privilege

abbrev pub Has : View → ℕ → Privilege → Type 0
Has v u (owning x) = Owns v u x
Has v u (managing x) = Manages v u x
Has v u (administering a b) = Administers v u a b
Has v u (permission k x) = Permitted v u k x

-- Every object in the privilege is in use.
abbrev pub There : View → Privilege → Type 0
There v (owning x) = InUse v x
There v (managing x) = InUse v x
There v (administering a b) = InUse v a × InUse v b
There v (permission k x) = InUse v x

-- [01:reach.8] "A request gives a holding if he has it after and lacked it before, where every object in it was in use before."
pub record Gives (v n : View) (u : ℕ) : Type 0 where
  pub what : Privilege
  pub there : There v what
  pub has : Has n u what
  pub lacked : Has v u what → ⊥

-- [01:line.13] "A member comes to own it if he owns it on the sheet after and didn't on the sheet before; to manage it likewise."
pub record Comes (v n : View) (u x : ℕ) : Type 0 where
  pub there : InUse v x
  pub gain : (Owns n u x × (Owns v u x → ⊥)) ⊎ (Manages n u x × (Manages v u x → ⊥))

-- Some user comes to own or manage an object that u does not own before.
pub record HandsOver (v n : View) (u : ℕ) : Type 0 where
  pub who : ℕ
  pub what : ℕ
  pub comes : Comes v n who what
  pub not_own : Owns v u what → ⊥

-- Every object in use has an owner.
abbrev pub Owned : View → Type 0
Owned v = (x : ℕ) → InUse v x → Some 64 (λ u. Owns v u x)

-- ---- Who may send what

abbrev pub Governs : View → ℕ → ℕ → Type 0
Governs v u x = Owns v u x ⊎ Manages v u x

pub data MayAppoint (v : View) (u : ℕ) (w : Appointment) : Type 0 where
  as_owner : (w.kind ≡ administrator → ⊥) → Owns v u w.a → MayAppoint v u w
  as_manager : w.kind ≡ administrator → Manages v u w.a → Manages v u w.b → MayAppoint v u w

-- [02:1.2] He administers (U, T), or owns T.
abbrev pub MayWithdraw : View → ℕ → AccessRule → Type 0
MayWithdraw v u r = Administers v u r.users r.targets ⊎ Owns v u r.targets

abbrev pub Authority : View → ℕ → Request → Type 0
Authority v u (Make i s g) = Governs v u g
Authority v u (Put x g) = Governs v u x × Governs v u g
Authority v u (Take x g) = Governs v u x × Governs v u g
Authority v u (Appoint i k h a b) = MayAppoint v u (record { kind = k; holder = h; a = a; b = b })
Authority v u (Dismiss i) = MayAppoint v u (v.appointment i)
Authority v u (Grant i w t o) = Administers v u w t
Authority v u (Withdraw i) = MayWithdraw v u (v.rule i)
Authority v u (Use x k) = Permitted v u k x

-- ---- What the fields must be (checks 5 to 8)

-- An appointment stands at the place, or the place is empty.
abbrev pub Standing : Appointment → Type 0
Standing w = 0 < counted w.kind

abbrev pub Vacant : Appointment → Type 0
Vacant w = counted w.kind ≡ 0

-- An appointment that APPOINT can ask for.
pub record Appointable (v : View) (k h a b : ℕ) : Type 0 where
  pub known : (1 ≤ k) × (k ≤ 3)
  pub holder : User v h
  pub group_a : Group v a
  pub group_b : k ≡ administrator → Group v b
  pub unread_b : (k ≡ administrator → ⊥) → b ≡ 0

abbrev pub Fits : View → Request → Type 0
Fits v (Make i s g) = (i < 64) × ((1 ≤ s) × (s ≤ 3)) × Group v g × (v.sort i ≡ 0)
Fits v (Put x g) = InUse v x × Group v g × (v.stored x g ≡ false)
Fits v (Take x g) = InUse v x × Group v g × (v.stored x g ≡ true)
Fits v (Appoint i k h a b) = (i < 32) × Appointable v k h a b × Vacant (v.appointment i)
Fits v (Dismiss i) = (i < 32) × Standing (v.appointment i)
Fits v (Grant i u t o) = (i < 64) × (Group v u × Group v t) × (o ≡ 0 → ⊥) × ((v.rule i).used ≡ false)
Fits v (Withdraw i) = (i < 64) × ((v.rule i).used ≡ true)
Fits v (Use x k) = (k < 8) × Target v x

-- ---- What is read of the policy after an accepted request

abbrev pub view_after : View → Request → View
view_after v (Make i s g) = view_made v i s g
view_after v (Put x g) = view_put v x g
view_after v (Take x g) = view_taken v x g
view_after v (Appoint i k h a b) = view_appointed v i (record { kind = k; holder = h; a = a; b = b })
view_after v (Dismiss i) = view_dismissed v i
view_after v (Grant i u t o) = view_granted v i u t o
view_after v (Withdraw i) = view_withdrawn v i
view_after v (Use x k) = v

-- The requests that put an appointment, and a rule, at a place.
abbrev pub appointing : ℕ → Appointment → Request
appointing i w = Appoint i w.kind w.holder w.a w.b

abbrev pub granting : ℕ → AccessRule → Request
granting i r = Grant i r.users r.targets r.operations

-- Checks 10 to 12, on the view before and the view after.
abbrev pub Clean : View → ℕ → Request → View → Type 0
Clean v u (Make i s g) n = Unit {0}
Clean v u (Put x g) n = (Gives v n u → ⊥) × (HandsOver v n u → ⊥)
Clean v u (Take x g) n = Owned n
Clean v u (Appoint i k h a b) n = Gives v n u → ⊥
Clean v u (Dismiss i) n = Owned n
Clean v u (Grant i w t o) n = Gives v n u → ⊥
Clean v u (Withdraw i) n = Unit {0}
Clean v u (Use x k) n = Unit {0}

-- The request q of u is one that no check from 4 on refuses.
pub record Allowed (v : View) (u : ℕ) (q : Request) : Type 0 where
  pub known : User v u
  pub fits : Fits v q
  pub authority : Authority v u q
  pub clean : Clean v u q (view_after v q)
