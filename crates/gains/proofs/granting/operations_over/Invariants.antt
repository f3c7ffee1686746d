-- The set is a union over the places of the table.
use Rattle.std.proofs.Common.{get_or}
use Rattle.reach.specs.Tables.{no_rule}
use Rattle.reach.proofs.Unions.{Union}
use Rattle.gains.specs.Searching.{GrantsOver}
use Rattle.gains.proofs.granting.operations_over.Given as goal

abbrev pub invariant-loop-rule : goal.invariant-loop-rule
invariant-loop-rule l = Union (λ j k. GrantsOver (get_or l.rules j no_rule) l.users l.targets k) l.rule-index l.set
