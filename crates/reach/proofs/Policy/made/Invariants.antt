-- The loop takes x out of the first i rows; then row x is the set of g alone.
use mathlib.Core.Path.{◌≡◌}
use Prim.Native.Nat.{ℕ, ◌-◌, ◌*◌, ◌%◌, ◌^◌}
use lib.Bits.{bit_and}
use Rattle.reach.proofs.Lists.{map_to}
use Rattle.reach.proofs.Policy.made.Given as goal

-- The word w without x, as the machine works it.
abbrev pub masked : ℕ → ℕ → ℕ
masked x w = bit_and w (2 ^ 64 - 1 - (1 * 2 ^ x) % 2 ^ 64)

abbrev pub invariant-loop-row : goal.invariant-loop-row
invariant-loop-row l = l.row-items ≡ map_to (masked l.x) l.row-index l.fn.self.memberships
