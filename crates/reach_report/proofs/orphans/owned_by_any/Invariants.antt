-- The set is the union, over the numbers u, of what each owns: after u turns it has what some number below u owns.
use Rattle.reach.specs.Tables.{view}
use Rattle.reach.specs.Privileges.{Owns}
use Rattle.reach.proofs.Unions.{Union}
use Rattle.reach_report.proofs.orphans.owned_by_any.Given as goal

abbrev pub invariant-loop-u : goal.invariant-loop-u
invariant-loop-u l = Union (λ v x. Owns (view l.initial.p) v x) l.u l.set
