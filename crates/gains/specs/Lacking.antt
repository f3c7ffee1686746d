-- What is asked of the view before a request, at the named objects alone, to know what the request gives. That each of these is so exactly
-- where the request gives something is proved in proofs/.
use Rattle.std.specs.Prelude.{◌≡◌, true, ◌⊎◌, ℕ, ◌<◌}
use Rattle.reach.specs.declared.Appointment.{Appointment}
use Rattle.reach.specs.declared.AccessRule.{AccessRule}
use Rattle.reach.specs.Words.{bit, SetOf, Meet}
use Rattle.reach.specs.Tests.{Some}
use Rattle.reach.specs.declared.Policy.{Policy}
use Rattle.reach.specs.Tables.{View, view}
use Rattle.reach.specs.Reach.{InUse, User, Target, Under}
use Rattle.reach.specs.Privileges.{owner, manager, administrator, Holds, Owns, Administers, Permitted}

-- The set is all that x is under.
abbrev pub Above : Policy → ℕ → ℕ → Type 0
Above p x s = SetOf s (λ g. Under (view p) x g)

-- The set is all that g is under and x is not.
abbrev pub Opened : Policy → ℕ → ℕ → ℕ → Type 0
Opened p x g s = SetOf s (λ t. Under (view p) g t × (Under (view p) x t → ⊥))

-- He holds g and not x.
pub record LacksHeld (v : View) (kind u x g : ℕ) : Type 0 where
  pub has : Holds v kind u g
  pub lacks : Holds v kind u x → ⊥

-- What he is appointed over meets what is above g, and nothing that is above x.
abbrev pub Grows : ℕ → ℕ → ℕ → Type 0
Grows held object group = Meet held group × (Meet held object → ⊥)

-- Of the sides a and b: a is above g and not above x, b is in use, and he does not administer the pair of x and b.
pub record LacksA (v : View) (u x g a b : ℕ) : Type 0 where
  pub above : Under v g a
  pub not_above : Under v x a → ⊥
  pub other : InUse v b
  pub lacks : Administers v u x b → ⊥

-- The same with the sides exchanged.
pub record LacksB (v : View) (u x g a b : ℕ) : Type 0 where
  pub above : Under v g b
  pub not_above : Under v x b → ⊥
  pub other : InUse v a
  pub lacks : Administers v u a x → ⊥

-- The appointment at place i makes him an administrator, and its sides are so, the one way or the other.
pub record LacksPairBy (v : View) (u x g i : ℕ) : Type 0 where
  pub is_kind : (v.appointment i).kind ≡ administrator
  pub is_holder : (v.appointment i).holder ≡ u
  pub side : LacksA v u x g (v.appointment i).a (v.appointment i).b
      ⊎ LacksB v u x g (v.appointment i).a (v.appointment i).b

abbrev pub LacksPair : View → ℕ → ℕ → ℕ → Type 0
LacksPair v u x g = Some 32 (LacksPairBy v u x g)

-- Some user holds g and not x, in one of the two ways.
abbrev pub SomeLacks : View → ℕ → ℕ → Type 0
SomeLacks v x g = Some 64 (λ u. LacksHeld v owner u x g ⊎ LacksHeld v manager u x g)

-- Somebody holds g and not x, and u does not own x.
pub record LacksOver (v : View) (u x g : ℕ) : Type 0 where
  pub not_own : Owns v u x → ⊥
  pub who : ℕ
  pub lacks : LacksHeld v owner who x g ⊎ LacksHeld v manager who x g

-- The appointment is his own, he is a user, its groups are in use, and he lacks what it covers.
pub record LacksAppointed (v : View) (u : ℕ) (w : Appointment) : Type 0 where
  pub own : w.holder ≡ u
  pub user : User v u
  pub in_a : InUse v w.a
  pub in_b : w.kind ≡ administrator → InUse v w.b
  pub lacks : (((w.kind ≡ owner) ⊎ (w.kind ≡ manager)) × (Holds v w.kind u w.a → ⊥))
      ⊎ ((w.kind ≡ administrator) × (Administers v u w.a w.b → ⊥))

-- He is among the users of a rule, and lacks an operation of it on gear of it.
pub record LacksRuled (v : View) (u : ℕ) (r : AccessRule) : Type 0 where
  pub among : Under v u r.users
  pub operation : ℕ
  pub gear : ℕ
  pub number : operation < 8
  pub has : bit r.operations operation ≡ 1
  pub target : Target v gear
  pub covers : Under v gear r.targets
  pub lacks : Permitted v u operation gear → ⊥

-- y is under a after PUT of x into g, said of the view before: it was so, or y is under x and g under a.
abbrev pub UnderPut : View → ℕ → ℕ → ℕ → ℕ → Type 0
UnderPut v x g y a = Under v y a ⊎ (Under v y x × Under v g a)

-- The rule at place i covers him and the gear once x is in g, and he lacks its operation on the gear.
pub record LacksPermit (v : View) (u x g : ℕ) : Type 0 where
  pub place : ℕ
  pub low : place < 64
  pub used : (v.rule place).used ≡ true
  pub operation : ℕ
  pub number : operation < 8
  pub has : bit (v.rule place).operations operation ≡ 1
  pub gear : ℕ
  pub target : Target v gear
  pub covers_user : UnderPut v x g u (v.rule place).users
  pub covers_gear : UnderPut v x g gear (v.rule place).targets
  pub lacks : Permitted v u operation gear → ⊥

-- What PUT would give him, in one of the four ways.
pub data LacksPut (v : View) (u x g : ℕ) : Type 0 where
  held_owner : LacksHeld v owner u x g → LacksPut v u x g
  held_manager : LacksHeld v manager u x g → LacksPut v u x g
  pair : LacksPair v u x g → LacksPut v u x g
  permit : LacksPermit v u x g → LacksPut v u x g

-- ---- Who holds an appointment

-- u holds this appointment, it is of that kind, and its A is in the set.
pub record HolderOf (w : Appointment) (kind over u : ℕ) : Type 0 where
  pub is_kind : w.kind ≡ kind
  pub in_a : bit over w.a ≡ 1
  pub is_holder : w.holder ≡ u
