-- Reach: which objects are under which group. Each relation has beside it a test that computes; the laws in proofs/ say that
-- the test decides it, for every policy.
use Rattle.std.specs.Prelude.{◌≡◌, Bool, true, ◌&&◌, ◌||◌, ℕ, zero, suc, ◌<◌, eqb, ltb}
use Rattle.reach.specs.declared.Policy.{Policy}
use Rattle.reach.specs.Tests.{some}
use Rattle.reach.specs.Tables.{sort, stored, View}

-- In use: of a sort that is not empty. Document 01's member (a person) is a user here, its gear a target.
abbrev pub InUse : View → ℕ → Type 0
InUse v x = 0 < v.sort x

abbrev pub Group : View → ℕ → Type 0
Group v x = v.sort x ≡ 1

abbrev pub User : View → ℕ → Type 0
User v x = v.sort x ≡ 2

abbrev pub Target : View → ℕ → Type 0
Target v x = v.sort x ≡ 3

-- [01:reach.1] "A stored membership counts only from an object in use to a group in use."
pub record Direct (v : View) (x g : ℕ) : Type 0 where
  pub object : InUse v x
  pub group : Group v g
  pub is_stored : v.stored x g ≡ true

-- [01:reach.2] "For x and g in use, x is under g if x = g or a chain of one or more direct memberships leads from x up to g; an
-- empty object is under nothing." [01:keeps.17] "a stored number outside its table, or naming an empty object, covers nothing": both ends
-- of a chain are in use, and so no such number is one.
pub data Under (v : View) : ℕ → ℕ → Type 0 where
  itself : {x : ℕ} → InUse v x → Under v x x
  up : {x h g : ℕ} → Direct v x h → Under v h g → Under v x g

-- ---- The tests

unfoldable pub in_use : Policy → ℕ → Bool
in_use p x = ltb 0 (sort p x)

abbrev pub is_group : Policy → ℕ → Bool
is_group p x = eqb (sort p x) 1

abbrev pub is_user : Policy → ℕ → Bool
is_user p x = eqb (sort p x) 2

abbrev pub is_target : Policy → ℕ → Bool
is_target p x = eqb (sort p x) 3

unfoldable pub direct : Policy → ℕ → ℕ → Bool
direct p x g = in_use p x && is_group p g && stored p x g

-- A chain of at most n direct memberships leads from x up to g.
unfoldable pub chain : ℕ → Policy → ℕ → ℕ → Bool
chain zero p x g = eqb x g
chain (suc n) p x g = eqb x g || some 64 (λ h. direct p x h && chain n p h g)

-- [01:reach.4] "On 64 objects a chain of at most 63 suffices."
unfoldable pub under : Policy → ℕ → ℕ → Bool
under p x g = in_use p x && in_use p g && chain 63 p x g
