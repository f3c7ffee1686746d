use native.Mathlib.Omega.{arith}
use mathlib.Core.Path.{◌≡◌}
use Prim.Native.Nat.{◌<◌}
use lib.Bits.{bit_or}
use lib.Count.{count_trailing_zeros}
use Rattle.reach.specs.Words.{bit}
use Rattle.reach.specs.Asking.{reach_of}
use Rattle.reach.proofs.Bits.{lowest_bit}
use Rattle.reach.proofs.Testing.{decides_number, refuted}
use Rattle.reach.proofs.WordSets.{set_none}
use Rattle.reach.proofs.Reaching.{under_lower}
use Rattle.reach.proofs.Chains.{in_use_below}
use Rattle.reach.proofs.Gathering.{left_least}
use Rattle.reach.proofs.Upward.{used_by, climb_start, climb_step, climb_less, climb_end}
use Rattle.reach.proofs.Objects.above.Goals.{In-loop-left}
use Rattle.reach.proofs.Objects.above.Goals as goal

-- The lowest number of what is left.
lowest : (c : In-loop-left) → (count_trailing_zeros 64 c.loop-left.left < 64) × (bit c.loop-left.left (count_trailing_zeros 64 c.loop-left.left) ≡ 1)
lowest c = lowest_bit 64 _ c.loop-left-test.true c.loop-left.invariant.left_word

pub returns-then-not-in_use : goal.returns-then-not-in_use
returns-then-not-in_use c = set_none (λ g u. refuted (used_by _ _ _ c.in_use.ensures) c.if-not-in_use.true (under_lower u))

pub overflow_shl-found : goal.overflow_shl-found
overflow_shl-found c = in_use_below (reach_of c.args.self.sorts.now c.args.self.memberships.now) _ ((used_by _ _ _ c.in_use.ensures).sound c.if-not-in_use.false)

pub bounds-memberships-n : goal.bounds-memberships-n
bounds-memberships-n c = in_use_below (reach_of c.args.self.sorts.now c.args.self.memberships.now) _ ((used_by _ _ _ c.in_use.ensures).sound c.if-not-in_use.false)

pub loop-left-init : goal.loop-left-init
loop-left-init c =
    let used = (used_by _ _ _ c.in_use.ensures).sound c.if-not-in_use.false in
    climb_start _ used (in_use_below _ _ used) (omega arith)

pub overflow_cast-h : goal.overflow_cast-h
overflow_cast-h c =
    let low = lowest (goal.at.overflow_cast-h c).In-loop-left in
    omega (arith, low.0)

pub overflow_shl-one : goal.overflow_shl-one
overflow_shl-one c =
    let low = lowest (goal.at.overflow_shl-one c).In-loop-left in
    low.0

pub bounds-sorts-h : goal.bounds-sorts-h
bounds-sorts-h c =
    let low = lowest (goal.at.bounds-sorts-h c).In-loop-left in
    low.0

pub offset_bounds-memberships-h : goal.offset_bounds-memberships-h
offset_bounds-memberships-h c =
    let low = lowest (goal.at.offset_bounds-memberships-h c).In-loop-left in
    omega (arith, low.0)

pub bounds-memberships-h : goal.bounds-memberships-h
bounds-memberships-h c =
    let low = lowest (goal.at.bounds-memberships-h c).In-loop-left in
    low.0

pub overflow_sub-rest : goal.overflow_sub-rest
overflow_sub-rest c =
    let low = lowest (goal.at.overflow_sub-rest c).In-loop-left in
    (left_least c.loop-left.invariant.left_word _ low.1).1

pub loop-left-smaller : goal.loop-left-smaller
loop-left-smaller c =
    let low = lowest (goal.at.loop-left-smaller c).In-loop-left in
    let l = c.loop-left in
    climb_less _ (bit_or l.over c.only_if-over.result) l.invariant (count_trailing_zeros 64 l.left) low.1 c.first_of-left.ensures (omega arith)

pub loop-left-preserved : goal.loop-left-preserved
loop-left-preserved c =
    let low = lowest (goal.at.loop-left-preserved c).In-loop-left in
    let l = c.loop-left in
    climb_step _ _ l.invariant (count_trailing_zeros 64 l.left) low.1 (decides_number _ _ 1 (omega arith)) c.only_if-found.ensures
    c.only_if-over.ensures (omega arith) c.first_of-left.ensures (omega arith)

pub returns : goal.returns
returns c = climb_end _ c.loop-left.invariant c.loop-left-test.false
