-- `joined` gives the set of both halves: the product and the sum are the word with the one half above the other.
use Rattle.reach.proofs.WordSets.{set_joined}
use native.Mathlib.Omega.{arith}
use Rattle.reach.proofs.sets.joined.Goals as goal

pub returns : goal.returns
returns c = set_joined c.args.low c.args.high (omega arith) (omega arith)
