-- `direct` is its definition, by the contracts of what it calls.
use Rattle.reach.specs.Tables.{sort, stored}
use Rattle.reach.specs.Reach.{in_use, direct}
use Rattle.reach.proofs.Objects.direct.Goals as goal

pub returns : goal.returns
unfolding direct in_use stored sort
returns c = rw (c.has.ensures, c.at.ensures, c.is_group.ensures, c.in_use.ensures)
