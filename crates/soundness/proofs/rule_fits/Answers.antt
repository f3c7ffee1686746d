-- An empty place asks nothing; of a rule in use the tests are those of its two groups and its operations, side by side.
use borrow.Author.Tests.{not-true, not-false}
use Rattle.reach.proofs.Testing.{decides_at}
use Rattle.soundness.proofs.Fitting.{always, rule_vacant, rule_read}
use Rattle.soundness.proofs.rule_fits.Goals as goal

pub returns-then-not-r : goal.returns-then-not-r
returns-then-not-r c = always (rule_vacant _ _ (not-true _ c.if-not-r.true))

pub returns : goal.returns
returns c =
    decides_at
    (rw (c.has.ensures, c.has-2.ensures))
    (rule_read _ _ (not-false _ c.if-not-r.false))
