-- The objects that were left are gone through, the lowest first: `Rounding` whatever the set, and what was found out of the set stays so.
use Prim.Native.Nat.{ℕ}
use Rattle.reach.specs.Asking.{Looking}
use Rattle.reach.proofs.Owning.{Rounding}
use Rattle.reach.proofs.orphans.round.Given as goal

abbrev pub invariant-loop-h : goal.invariant-loop-h
invariant-loop-h l =
    Rounding l.memberships l.waiting l.groups l.left l.h-iterator.0
    × ((set : ℕ) → Looking l.sorts l.memberships set 64 l.had l.waiting → Looking l.sorts l.memberships set 64 l.groups l.left)
