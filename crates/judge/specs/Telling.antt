-- What is told of a record that is refused for own gain.
use Rattle.std.specs.Prelude.{◌≡◌, List, ℕ, Option, None}
use Rattle.reach.specs.declared.Policy.{Policy}
use Rattle.rules.specs.Records.{sender, request}
use Rattle.rules.specs.Judging.{code_of, judge}
use Rattle.gains.specs.declared.Permission.{Permission}
use Rattle.gains.specs.Giving.{FirstPermission}

-- [01:runner.4] The first permission that a record would give its sender, if it is refused with 10, own gain: where it would give him none,
-- but something to own, to manage or to administer, that there is none. None, if it is answered otherwise. So it is one thing that is
-- told of a record (proofs/Telling, `told_unique`).
pub record OwnGainOf (p : Policy) (b : List ℕ) (r : Option Permission) : Type 0 where
  pub refused : code_of (judge p b).verdict ≡ 10 → FirstPermission p (sender b) (request b) r
  pub otherwise : (code_of (judge p b).verdict ≡ 10 → ⊥) → r ≡ None
