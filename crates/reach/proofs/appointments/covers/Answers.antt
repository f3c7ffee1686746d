-- The holder is tested, and then the appointment is asked for him.
use Rattle.reach.proofs.Testing.{decides_at, decides_none, decides_eqb, fails}
use Rattle.reach.proofs.Posting.{held_pair}
use Rattle.reach.proofs.appointments.covers.Goals as goal

pub returns-then-w-u : goal.returns-then-w-u
returns-then-w-u c = held_pair c.if-w-u.true c.pair_by.ensures

pub returns-else-w-u : goal.returns-else-w-u
returns-else-w-u c = decides_at (fails _ (decides_eqb _ _) c.if-w-u.false) (decides_none (λ h. c.if-w-u.false h.is_holder))
