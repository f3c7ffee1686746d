-- How large the numbers are by which a line is told: a turn has at most 600 ticks, and a join is answered by a number up
-- to 16. By cases on the tests.
use mathlib.Core.Bool.{Bool, true, false, not}
use mathlib.Core.Path.{◌≡◌, refl}
use Prim.Native.Nat.{ℕ, ◌≤◌}
use native.Mathlib.Omega.{arith}
use lib.Dec.{eqb, ltb}
use borrow.Author.Tests.{ltb-false}
use Rattle.reach.specs.declared.Policy.{Policy}
use Rattle.reach.specs.Tests.{◌⇒◌∥◌}
use Rattle.access.specs.Using.{use_code}
use Rattle.access.proofs.UseTable.{use_bounded}
use Rattle.queue.specs.declared.Queue.{Queue}
use Rattle.queue.specs.Line.{counted, there, full}
use Rattle.queue.specs.Stored.{line_of, code_at, after_join}

pub turn_few : (n : ℕ) → counted n ≤ 600
unfolding counted
turn_few n = go (eqb n 0) (ltb 600 n) refl
  where
    go : (a b : Bool) → ltb 600 n ≡ b → (a ⇒ 1 ∥ b ⇒ 600 ∥ n) ≤ 600
    go true b e = omega arith
    go false true e = omega arith
    go false false e = omega (arith, ltb-false 600 n e)

pub join_code_few : (q : Queue) (p : Policy) (u : ℕ) → (after_join q p u).code ≤ 16
unfolding after_join code_at
join_code_few q p u =
    go (use_code p u q.gear 2) (use_bounded p u q.gear 2) (not (eqb (use_code p u q.gear 2) 0)) (there u (line_of q))
    (full (line_of q))
  where
    go : (c : ℕ) → c ≤ 12 → (a b d : Bool) → (a ⇒ c ∥ b ⇒ 15 ∥ d ⇒ 16 ∥ 0) ≤ 16
    go c h true b d = omega arith
    go c h false true d = omega arith
    go c h false false true = omega arith
    go c h false false false = omega arith
