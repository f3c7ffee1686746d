-- On the table the machine's word is the set with g, and past it nothing changes.
use mathlib.Core.Path.{sym}
use lib.ListN.{get_or}
use Rattle.reach.specs.Successors.{put}
use Rattle.reach.proofs.OneBit.{or_is_with}
use Rattle.std.proofs.Common.{rules}
use Rattle.reach.proofs.Policy.put.Goals as goal

pub returns-then-x-g : goal.returns-then-x-g
unfolding put
returns-then-x-g c =
    let a = c.args in rw (c.if-x-g.true, sym (or_is_with a.g (get_or a.self.memberships a.x 0) (search rules)))

pub returns-else-x-g : goal.returns-else-x-g
unfolding put
returns-else-x-g c = rw c.if-x-g.false
