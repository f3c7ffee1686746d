-- Privileges (document 01's holdings): what a user owns, manages and administers, and what he is permitted. Each relation has
-- beside it a test that computes.
use Rattle.std.specs.Prelude.{◌≡◌, Bool, true, not, ◌&&◌, ℕ, ◌<◌, eqb, ltb, Option, None}
use Rattle.reach.specs.declared.Policy.{Policy}
use Rattle.reach.specs.Words.{bit, has}
use Rattle.reach.specs.Tests.{◌⇒◌∥◌, some, lowest, Some}
use Rattle.reach.specs.Tables.{appointment, rule, View}
use Rattle.reach.specs.Reach.{InUse, User, Target, Under, in_use, is_user, is_target, under}

-- The kinds of appointment (document 01's warrants), by document 01's numbers.
abbrev pub owner : ℕ
owner = 1

abbrev pub manager : ℕ
manager = 2

abbrev pub administrator : ℕ
administrator = 3

-- The appointment at place i is of that kind, u holds it, and x is under its A. [01:keeps.13] "For kinds 1 and 2, B is 0 and unread": no B
-- stands here (D15).
pub record HoldsBy (v : View) (kind u x i : ℕ) : Type 0 where
  pub is_kind : (v.appointment i).kind ≡ kind
  pub is_holder : (v.appointment i).holder ≡ u
  pub covers : Under v x (v.appointment i).a

-- [01:reach.5] "A member owns x if he holds an owner warrant with x under its A; manages x likewise by a manager warrant only": only a
-- user holds anything (D5).
pub record Holds (v : View) (kind u x : ℕ) : Type 0 where
  pub user : User v u
  pub by : Some 32 (HoldsBy v kind u x)

abbrev pub Owns : View → ℕ → ℕ → Type 0
Owns v u x = Holds v owner u x

abbrev pub Manages : View → ℕ → ℕ → Type 0
Manages v u x = Holds v manager u x

-- [01:keeps.12] "For an administrator A holds users and B holds gear." [01:keeps.13] "for kind 3, B = 0 means object 0."
-- [01:reach.5] ".. administers the pair (a, b) if he holds one administrator warrant with a under A and b under B."
pub record AdministersBy (v : View) (u a b i : ℕ) : Type 0 where
  pub is_kind : (v.appointment i).kind ≡ administrator
  pub is_holder : (v.appointment i).holder ≡ u
  pub covers_a : Under v a (v.appointment i).a
  pub covers_b : Under v b (v.appointment i).b

pub record Administers (v : View) (u a b : ℕ) : Type 0 where
  pub user : User v u
  pub by : Some 32 (AdministersBy v u a b)

-- [01:reach.6] "He is permitted operation k on gear x if some one rule has bit k, himself under U and x under T."
-- [01:keeps.15] "Operation k is the bit worth 2 to the power k".
pub record PermitsBy (v : View) (u k x i : ℕ) : Type 0 where
  pub used : (v.rule i).used ≡ true
  pub operation : bit (v.rule i).operations k ≡ 1
  pub covers_user : Under v u (v.rule i).users
  pub covers_target : Under v x (v.rule i).targets

pub record Permitted (v : View) (u k x : ℕ) : Type 0 where
  pub user : User v u
  pub target : Target v x
  pub number : k < 8
  pub by : Some 64 (PermitsBy v u k x)

-- An object in use that no user owns.
pub record Orphan (v : View) (x : ℕ) : Type 0 where
  pub object : InUse v x
  pub nobody : (u : ℕ) → Owns v u x → ⊥

-- ---- The tests

unfoldable pub holds_by : Policy → ℕ → ℕ → ℕ → ℕ → Bool
holds_by p kind u x i =
    eqb (appointment p i).kind kind && eqb (appointment p i).holder u && under p x (appointment p i).a

unfoldable pub holds : Policy → ℕ → ℕ → ℕ → Bool
holds p kind u x = is_user p u && some 32 (holds_by p kind u x)

abbrev pub owns : Policy → ℕ → ℕ → Bool
owns p u x = holds p owner u x

abbrev pub manages : Policy → ℕ → ℕ → Bool
manages p u x = holds p manager u x

unfoldable pub administers_by : Policy → ℕ → ℕ → ℕ → ℕ → Bool
administers_by p u a b i =
    eqb (appointment p i).kind administrator && eqb (appointment p i).holder u
    && under p a (appointment p i).a && under p b (appointment p i).b

unfoldable pub administers : Policy → ℕ → ℕ → ℕ → Bool
administers p u a b = is_user p u && some 32 (administers_by p u a b)

unfoldable pub permits_by : Policy → ℕ → ℕ → ℕ → ℕ → Bool
permits_by p u k x i =
    (rule p i).used && has (rule p i).operations k && under p u (rule p i).users && under p x (rule p i).targets

-- Whether a permission can be: u is a user, x a target, k an operation.
unfoldable pub askable : Policy → ℕ → ℕ → ℕ → Bool
askable p u k x = is_user p u && is_target p x && ltb k 8

unfoldable pub permitted : Policy → ℕ → ℕ → ℕ → Bool
permitted p u k x = askable p u k x && some 64 (permits_by p u k x)

-- The lowest place of a rule that permits it, or none.
unfoldable pub permitting : Policy → ℕ → ℕ → ℕ → Option ℕ
permitting p u k x = askable p u k x ⇒ lowest 64 (permits_by p u k x) ∥ None

-- Some object in use has no owner.
unfoldable pub orphaned : Policy → Bool
orphaned p = some 64 (λ x. in_use p x && not (some 64 (λ u. owns p u x)))
