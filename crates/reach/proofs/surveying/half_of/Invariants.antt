-- The sets of a half are those of its bytes that are 1, 2 and 3: after i turns each has those below i.
use mathlib.Core.Path.{◌≡◌}
use Prim.Native.Nat.{◌+◌, ◌-◌, ◌≤◌, ◌<◌}
use lib.ListN.{get_or}
use Rattle.reach.specs.Words.{SetOf}
use Rattle.reach.proofs.surveying.half_of.Given as goal

abbrev pub invariant-loop-i : goal.invariant-loop-i
invariant-loop-i l =
    (l.i ≤ 32)
    × SetOf l.groups (λ x. (x < l.i) × (get_or l.sorts (l.from + x) 0 ≡ 1))
    × SetOf l.users (λ x. (x < l.i) × (get_or l.sorts (l.from + x) 0 ≡ 2))
    × SetOf l.targets (λ x. (x < l.i) × (get_or l.sorts (l.from + x) 0 ≡ 3))

abbrev pub decreases-loop-i : goal.decreases-loop-i
decreases-loop-i l = 32 - l.i
