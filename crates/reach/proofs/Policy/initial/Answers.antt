-- `initial` is its definition, table by table.
use Rattle.reach.specs.Tables.{initial}
use Rattle.std.proofs.Common.{rules}
use Rattle.reach.proofs.Policy.initial.Goals as goal

pub returns : goal.returns
unfolding initial
returns c = search rules
