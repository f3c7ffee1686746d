-- Both tests are of words as sets.
use lib.Bits.{and_comm}
use Rattle.gains.proofs.Searched.{decides_equal, fresh_decides}
use Rattle.std.proofs.Common.{rules}
use Rattle.gains.proofs.searching.fresh.Goals as goal

pub returns : goal.returns
returns c =
    let a = c.args in
    decides_equal
    (fresh_decides a.had a.got a.before a.after (search rules) (search rules))
    (rw (and_comm a.got a.after, and_comm a.had a.before))
