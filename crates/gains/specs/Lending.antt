-- What is known of a PUT before checks 10 and 11 are asked.
use Rattle.std.specs.Prelude.{ℕ}
use Rattle.reach.specs.declared.Policy.{Policy}
use Rattle.reach.specs.declared.Placing.{Placing}
use Rattle.reach.specs.Tables.{view}
use Rattle.reach.specs.Reach.{InUse, User}
use Rattle.reach.specs.Asking.{PlacingOf}

-- u is a user and x in use, and this is what the policy answers of x and g.
pub record Placed (p : Policy) (u x g : ℕ) (r : Placing) : Type 0 where
  pub user : User (view p) u
  pub used : InUse (view p) x
  pub asked : PlacingOf p u x g r
