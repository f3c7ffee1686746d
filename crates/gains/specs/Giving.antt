-- What a request would give its sender, as check 10 looks for it.
use Rattle.std.specs.Prelude.{ℕ, ◌<◌, Option, Some, None, Result, Ok, Err}
use Rattle.reach.specs.declared.Policy.{Policy}
use Rattle.reach.specs.Tables.{view}
use Rattle.reach.specs.Reach.{InUse}
use Rattle.reach.specs.Privileges.{Permitted}
use Rattle.reach.specs.Tests.{◌⇒◌∥◌}
use Rattle.rules.specs.declared.Request.{Request}
use Rattle.rules.specs.declared.Refusal.{Refusal}
use Rattle.rules.specs.declared.Refusal.TheVariants.{OwnGain, HandOver}
use Rattle.rules.specs.Refusals.{own_gain, hand_over}
use Rattle.rules.specs.Doing.{after}
use Rattle.gains.specs.declared.Permission.{Permission}

-- [01:reach.8] "A request gives a holding if he has it after and lacked it before, where every object in it was in use before.": by the
-- request q, were it done, u comes to be permitted operation k on target x.
pub record ComesToUse (p : Policy) (u : ℕ) (q : Request) (x k : ℕ) : Type 0 where
  pub there : InUse (view p) x
  pub has : Permitted (view (after p q)) u k x
  pub lacked : Permitted (view p) u k x → ⊥

-- Checks 10 and 11, in their order.
abbrev pub given_by : Policy → ℕ → Request → Result (Unit {0}) Refusal
given_by p u q = own_gain p u q ⇒ Err OwnGain ∥ hand_over p u q ⇒ Err HandOver ∥ Ok tt

-- [01:runner.4] "The search for a permit that the sender would gain goes through gear and operations and stops at the first found.": the
-- first permission that u would gain, target by target and operation by operation, or that there is none.
abbrev pub FirstPermission : Policy → ℕ → Request → Option Permission → Type 0
FirstPermission p u q (Some w) =
    ComesToUse p u q w.target w.operation
    × ((y j : ℕ) → y < w.target → ComesToUse p u q y j → ⊥)
    × ((j : ℕ) → j < w.operation → ComesToUse p u q w.target j → ⊥)
FirstPermission p u q None = (y j : ℕ) → ComesToUse p u q y j → ⊥
