-- `after` carries the request out: each arm is the successor that the rules name for that kind.
use Rattle.rules.specs.Doing.{after}
use Rattle.judge.proofs.doing.after.Goals as goal

pub returns-in-Make : goal.returns-in-Make
unfolding after
returns-in-Make c = rw (c.made.ensures, c.in-Make.is)

pub returns-in-Put : goal.returns-in-Put
unfolding after
returns-in-Put c = rw (c.put.ensures, c.in-Put.is)

pub returns-in-Take : goal.returns-in-Take
unfolding after
returns-in-Take c = rw (c.taken.ensures, c.in-Take.is)

pub returns-in-Appoint : goal.returns-in-Appoint
unfolding after
returns-in-Appoint c = rw (c.appointed.ensures, c.in-Appoint.is)

pub returns-in-Dismiss : goal.returns-in-Dismiss
unfolding after
returns-in-Dismiss c = rw (c.dismissed.ensures, c.in-Dismiss.is)

pub returns-in-Grant : goal.returns-in-Grant
unfolding after
returns-in-Grant c = rw (c.granted.ensures, c.in-Grant.is)

pub returns-in-Withdraw : goal.returns-in-Withdraw
unfolding after
returns-in-Withdraw c = rw (c.withdrawn.ensures, c.in-Withdraw.is)

pub returns-in-Use : goal.returns-in-Use
unfolding after
returns-in-Use c = rw c.in-Use.is
