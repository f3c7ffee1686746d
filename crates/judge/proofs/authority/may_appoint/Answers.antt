-- By kind: an administrator's is made by who manages both A and B, and of the others by who owns A.
use borrow.Author.Tests.{eq-eqb, ne_eqb}
use Rattle.rules.specs.Authority.{may_appoint}
use Rattle.judge.proofs.authority.may_appoint.Goals as goal

pub returns-then-w : goal.returns-then-w
unfolding may_appoint
returns-then-w c = rw (eq-eqb _ _ c.if-w.true, c.held-held.ensures)

pub returns-else-w : goal.returns-else-w
unfolding may_appoint
returns-else-w c = rw (ne_eqb _ _ c.if-w.false, c.held.ensures)
