-- The numbers of the set are gone through, the lowest first: of those that are no longer left none is a user.
use mathlib.Core.Path.{◌≡◌}
use Rattle.reach.specs.Tables.{sort_in}
use Rattle.reach.proofs.Gathering.{Picking}
use Rattle.gains.proofs.handing.some_user.Given as goal

abbrev pub invariant-loop-h : goal.invariant-loop-h
invariant-loop-h l = Picking (λ h. sort_in l.objects.sorts.now h ≡ 2) l.set 0 l.h-iterator.0
