-- The sorts of a policy as sets, and what is asked of them and of the lent memberships.
use Rattle.std.specs.Prelude.{List, ◌≡◌, ℕ, ◌+◌, ◌<◌, get_or}
use Rattle.reach.specs.declared.Policy.{Policy}
use Rattle.reach.specs.declared.Masks.{Masks}
use Rattle.reach.specs.Words.{SetOf}
use Rattle.reach.specs.Tables.{view}
use Rattle.reach.specs.Reach.{InUse, Group, User, Target}

-- The sets are those of the objects of each sort.
pub record MasksOf (p : Policy) (m : Masks) : Type 0 where
  pub objects : SetOf m.objects (InUse (view p))
  pub groups : SetOf m.groups (Group (view p))
  pub users : SetOf m.users (User (view p))
  pub targets : SetOf m.targets (Target (view p))

-- The table of memberships and the masks, lent without the rest, are those of the policy.
pub record Lent (p : Policy) (memberships : List ℕ) (m : Masks) : Type 0 where
  pub rows : p.memberships ≡ memberships
  pub masks : MasksOf p m

-- P holds of every policy that has these memberships and these masks.
abbrev pub Whose : List ℕ → Masks → (Policy → Type 0) → Type 0
Whose memberships m P = (p : Policy) → Lent p memberships m → P p

-- Of the 32 bytes of a table from a number on, those that are k.
abbrev pub Among : List ℕ → ℕ → ℕ → ℕ → Type 0
Among l from k x = (x < 32) × (get_or l (from + x) 0 ≡ k)
