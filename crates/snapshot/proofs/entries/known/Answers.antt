-- `known` tests the sorts and kinds of document 01, which are 1 to 3.
use Rattle.std.proofs.Common.{rules}
use Rattle.snapshot.proofs.Records.{known_is}
use Rattle.snapshot.proofs.entries.known.Goals as goal

pub returns : goal.returns
returns c = rw (← known_is _) (search rules)
