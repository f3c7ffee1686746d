-- The loop has met no rule that covers, so the one that it finds is the lowest.
use mathlib.Core.Path.{◌≡◌}
use mathlib.Core.Bool.{false}
use lib.ListN.{get_or}
use Rattle.reach.specs.Tests.{some}
use Rattle.reach.specs.Tables.{no_rule}
use Rattle.reach.specs.Asking.{covered_by}
use Rattle.reach.proofs.ruling.covering.Given as goal

abbrev pub invariant-loop-i : goal.invariant-loop-i
invariant-loop-i l = some l.i (λ j. covered_by (get_or l.rules j no_rule) l.k l.users l.targets) ≡ false
