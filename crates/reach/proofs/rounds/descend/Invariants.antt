-- The rounds find all that is under something of the set: the invariant of both loops is `Settling`, and `Sweeping` whatever the policy. A
-- round makes less of what is left; rounds end because each but the last finds more than was found when it began.
use Prim.Native.Nat.{◌-◌, ◌^◌}
use Rattle.reach.specs.Surveys.{Whose}
use Rattle.reach.proofs.Settling.{Sweeping}
use Rattle.reach.proofs.Settling.{Settling}
use Rattle.reach.proofs.rounds.descend.Given as goal

abbrev pub invariant-loop-h : goal.invariant-loop-h
invariant-loop-h l =
    let left = l.h-iterator.0 in
    Sweeping l.m.objects l.done l.found left × Whose l.memberships l.m (λ p. Settling p l.set l.done l.found left)

abbrev pub invariant-loop-found : goal.invariant-loop-found
invariant-loop-found l =
    Sweeping l.m.objects l.done l.found 0 × Whose l.memberships l.m (λ p. Settling p l.set l.done l.found 0)

abbrev pub decreases-loop-found : goal.decreases-loop-found
decreases-loop-found l = 2 ^ 64 - l.done
