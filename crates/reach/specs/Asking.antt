-- What is asked of single tables, lent or handed on: the questions of a policy read no more than these.
use Rattle.std.specs.Prelude.{◌≡◌, Bool, true, ◌&&◌, List, [], ◌⊎◌, ℕ, ◌^◌, ◌<◌, get_or}
use Rattle.reach.specs.declared.Policy.{Policy}
use Rattle.reach.specs.declared.Appointment.{Appointment}
use Rattle.reach.specs.declared.AccessRule.{AccessRule}
use Rattle.reach.specs.declared.Posts.{Posts}
use Rattle.reach.specs.declared.Over.{Over}
use Rattle.reach.specs.declared.Held.{Held}
use Rattle.reach.specs.declared.Placing.{Placing}
use Rattle.reach.specs.Words.{bit, has, SetOf, Meet}
use Rattle.reach.specs.Tests.{Some}
use Rattle.reach.specs.Tables.{sort_in, no_appointment, View, view}
use Rattle.reach.specs.Reach.{InUse, Group, User, Under, direct}
use Rattle.reach.specs.Privileges.{owner, manager, administrator, owns, manages, administers}

-- ---- Reach

-- The policy with these sorts and memberships, and no appointment or rule: reach depends on nothing else.
abbrev pub reach_of : List ℕ → List ℕ → Policy
reach_of sorts memberships = record { sorts = sorts; memberships = memberships; appointments = []; rules = [] }

-- The policy with these three tables, and no rule: what a user owns, manages and administers depends on nothing else.
abbrev pub tables_of : List ℕ → List ℕ → List Appointment → Policy
tables_of sorts memberships appointments =
    record { sorts = sorts; memberships = memberships; appointments = appointments; rules = [] }

-- x is under g by these sorts and memberships.
abbrev pub UnderBy : List ℕ → List ℕ → ℕ → ℕ → Type 0
UnderBy sorts memberships x g = Under (view (reach_of sorts memberships)) x g

-- ---- Appointments

-- u holds this appointment, it is of that kind, and a is its A.
pub record HasA (w : Appointment) (kind u a : ℕ) : Type 0 where
  pub is_kind : w.kind ≡ kind
  pub is_holder : w.holder ≡ u
  pub is_a : w.a ≡ a

-- The number a of an object is the A of an appointment of that kind that u holds.
pub record AppointedOver (l : List Appointment) (kind u a : ℕ) : Type 0 where
  pub low : a < 64
  pub by : Some 32 (λ i. HasA (get_or l i no_appointment) kind u a)

pub record PostsIn (l : List Appointment) (u : ℕ) (r : Posts) : Type 0 where
  pub owner : SetOf r.owner (AppointedOver l owner u)
  pub manager : SetOf r.manager (AppointedOver l manager u)

-- The same of a policy: who is no user holds nothing (D5).
pub record HeldOver (v : View) (kind u a : ℕ) : Type 0 where
  pub user : User v u
  pub low : a < 64
  pub by : Some 32 (λ i. HasA (v.appointment i) kind u a)

pub record PostsOf (v : View) (u : ℕ) (r : Posts) : Type 0 where
  pub owner : SetOf r.owner (HeldOver v owner u)
  pub manager : SetOf r.manager (HeldOver v manager u)

-- u holds this administrator's appointment, its A is in the one set and its B in the other.
pub record CoversPair (w : Appointment) (u first second : ℕ) : Type 0 where
  pub is_kind : w.kind ≡ administrator
  pub is_holder : w.holder ≡ u
  pub in_a : bit first w.a ≡ 1
  pub in_b : bit second w.b ≡ 1

-- The same with b for its B.
pub record HasB (w : Appointment) (u first b : ℕ) : Type 0 where
  pub is_kind : w.kind ≡ administrator
  pub is_holder : w.holder ≡ u
  pub in_a : bit first w.a ≡ 1
  pub is_b : w.b ≡ b

-- The same with the sides exchanged: its B is in the set, and a is its A.
pub record HasFirst (w : Appointment) (u second a : ℕ) : Type 0 where
  pub is_kind : w.kind ≡ administrator
  pub is_holder : w.holder ≡ u
  pub in_b : bit second w.b ≡ 1
  pub is_a : w.a ≡ a

-- The number a of an object is the A of an owner's appointment whose holder is a user by these sorts.
pub record OwnersA (sorts : List ℕ) (w : Appointment) (a : ℕ) : Type 0 where
  pub is_kind : w.kind ≡ owner
  pub is_user : sort_in sorts w.holder ≡ 2
  pub is_a : w.a ≡ a

-- ---- Owners

-- x is under something of the set, by these sorts and memberships.
abbrev pub UnderSomeBy : List ℕ → List ℕ → ℕ → ℕ → Type 0
UnderSomeBy sorts memberships set x = Some 64 (λ g. (bit set g ≡ 1) × UnderBy sorts memberships x g)

-- What is found out of the objects below n: `groups` are groups under something of the set, and `left` are objects in use that are not in
-- the set. Each object in use below n is left, or it is under something of the set, and among the groups if it is one.
pub record Looking (sorts memberships : List ℕ) (set n groups left : ℕ) : Type 0 where
  pub groups_word : groups < 2 ^ 64
  pub left_word : left < 2 ^ 64
  pub owned : (g : ℕ) → bit groups g ≡ 1 → Group (view (reach_of sorts memberships)) g × UnderSomeBy sorts memberships set g
  pub waiting : (x : ℕ) → bit left x ≡ 1 → InUse (view (reach_of sorts memberships)) x × (bit set x ≡ 1 → ⊥)
  pub told : (x : ℕ) → x < n → InUse (view (reach_of sorts memberships)) x
      → (bit left x ≡ 1) ⊎ (UnderSomeBy sorts memberships set x × (Group (view (reach_of sorts memberships)) x → bit groups x ≡ 1))

-- The row of no object that is left has one of the groups.
abbrev pub Closed : List ℕ → ℕ → ℕ → Type 0
Closed rows groups left = (x : ℕ) → bit left x ≡ 1 → Meet (get_or rows x 0) groups → ⊥

-- ---- Rules

-- The rule is in use, has the operation, and its U and T are in the sets.
unfoldable pub covered_by : AccessRule → ℕ → ℕ → ℕ → Bool
covered_by r k users targets = r.used && has r.operations k && has users r.users && has targets r.targets

-- The rule is in use, has the operation, its U is in the set, and t is its T.
pub record HasT (r : AccessRule) (k users t : ℕ) : Type 0 where
  pub used : r.used ≡ true
  pub operation : bit r.operations k ≡ 1
  pub in_u : bit users r.users ≡ 1
  pub is_t : r.targets ≡ t

-- ---- Two objects at once

-- What u holds over x.
abbrev pub over_of : Policy → ℕ → ℕ → Over
over_of p u x = record { owned = owns p u x; managed = manages p u x }

-- What he holds over x and over y, whether he administers the pair, and whether x is directly in y.
abbrev pub held_of : Policy → ℕ → ℕ → ℕ → Held
held_of p u x y = record { first = over_of p u x; second = over_of p u y; pair = administers p u x y; direct = direct p x y }

-- What u is appointed over, all that x is under and all that y is under, and whether x is directly in y.
pub record PlacingOf (p : Policy) (u x y : ℕ) (r : Placing) : Type 0 where
  pub posts : PostsOf (view p) u r.posts
  pub first : SetOf r.first (λ g. Under (view p) x g)
  pub second : SetOf r.second (λ g. Under (view p) y g)
  pub is_direct : r.direct ≡ direct p x y
