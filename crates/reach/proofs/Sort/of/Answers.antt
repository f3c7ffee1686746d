-- A number that is known counts as it is, and any other as none.
use mathlib.Core.Path.{sym, ◌∙◌}
use native.Mathlib.Omega.{arith}
use Rattle.std.proofs.Common.{rules}
use Rattle.reach.specs.Tables.{counted}
use Rattle.reach.proofs.Sorts.{counted_known}
use Rattle.reach.proofs.Sort.of.Goals as goal

pub returns-in-3 : goal.returns-in-3
returns-in-3 c = sym (counted_known _ (omega (arith, c.in-3.is)) ∙ c.in-3.is)

pub returns-in_default : goal.returns-in_default
unfolding counted
returns-in_default c = search rules
