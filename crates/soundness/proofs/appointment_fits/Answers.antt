-- An empty place asks nothing; of an appointment that stands the tests are those of its holder, its A and its B, side by side.
use mathlib.Core.Path.{sym, ◌∙◌}
use native.Mathlib.Omega.{arith}
use Rattle.reach.proofs.Testing.{decides_at}
use Rattle.soundness.proofs.Fitting.{always, appointment_vacant, administrator_in, other_in}
use Rattle.soundness.proofs.appointment_fits.Goals as goal

pub returns-then-not-standing : goal.returns-then-not-standing
returns-then-not-standing c = always (appointment_vacant _ _ (sym c.standing.ensures ∙ c.if-not-standing.true))

pub returns-then-w : goal.returns-then-w
returns-then-w c =
    decides_at
    (rw (c.has.ensures, c.has-then-w.ensures, c.has-then-w-2.ensures))
    (administrator_in _ _
    (sym c.standing.ensures ∙ c.if-not-standing.false)
    (omega (arith, c.if-w.true)))

pub returns : goal.returns
returns c =
    decides_at
    (rw (c.has-2.ensures, c.has-3.ensures))
    (other_in _ _ (sym c.standing.ensures ∙ c.if-not-standing.false) c.if-w.false)
