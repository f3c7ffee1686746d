use Rattle.snapshot.specs.Loading.{blank}
use Rattle.std.proofs.Common.{rules}
use Rattle.snapshot.proofs.reading.blank.Goals as goal

pub returns : goal.returns
unfolding blank
returns c = search rules
