-- The tables lent are those of the policy itself, and reach is read of them alone.
use Rattle.reach.proofs.Meeting.{climbed}
use Rattle.reach.proofs.Policy.above.Goals as goal

pub returns : goal.returns
returns c = climbed _ c.above.ensures
