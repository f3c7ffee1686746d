use Rattle.reach.proofs.Testing.{decides_at, decides_true}
use Rattle.reach.proofs.WordSets.{gathered_none, gathered_next}
use Rattle.reach.proofs.appointments.places.Goals as goal

pub loop-i-init : goal.loop-i-init
loop-i-init g c = λ passes h. gathered_none _

pub loop-i-preserved : goal.loop-i-preserved
loop-i-preserved g c = λ passes h.
    gathered_next _ (c.loop-i.invariant passes h) c.mark-set.ensures (decides_at (h _ _ c.test.ensures) (decides_true _))
