-- Each kind is one case; a valid membership is on the table, and the machine's word is the set with g.
use Rattle.reach.specs.Successors.{put, appointed, ruled}
use Rattle.reach.proofs.OneBit.{or_is_with}
use Rattle.snapshot.proofs.Stepping.{membership_low}
use Rattle.snapshot.proofs.Entry.store.Goals as goal

pub returns-in-Membership : goal.returns-in-Membership
unfolding put
returns-in-Membership c =
    let low = membership_low c.in-Membership.is c.requires in
    rw (c.in-Membership.is, c.from-in-Membership.ensures, or_is_with _ _ low.1, rw c.in-Membership.is at c.requires)

pub returns-in-Appointed : goal.returns-in-Appointed
unfolding appointed
returns-in-Appointed c = rw (c.in-Appointed.is, c.from-in-Appointed.ensures)

pub returns-in-Granted : goal.returns-in-Granted
unfolding ruled
returns-in-Granted c = rw (c.in-Granted.is, c.from-in-Granted.ensures)
