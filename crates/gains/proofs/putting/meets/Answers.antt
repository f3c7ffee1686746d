-- Each of the two ways is asked.
use lib.Bits.{and_comm}
use Rattle.gains.proofs.Searched.{decides_equal}
use Rattle.gains.proofs.PutMay.{meets_either}
use Rattle.std.proofs.Common.{rules}
use Rattle.gains.proofs.putting.meets.Goals as goal

pub returns : goal.returns
returns c =
    let a = c.args in
    decides_equal
    (meets_either a.posts.owner a.posts.manager a.set (search rules))
    (rw (and_comm a.posts.owner a.set, and_comm a.posts.manager a.set))
