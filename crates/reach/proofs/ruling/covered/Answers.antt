-- A rule that is not in use covers nothing, and else the three sets are asked.
use mathlib.Core.Path.{◌≡◌}
use mathlib.Core.Bool.{true, false}
use borrow.Author.Tests.{not-true, not-false}
use Rattle.reach.specs.Asking.{covered_by}
use Rattle.reach.proofs.ruling.covered.Goals as goal

pub returns-then-not-rule : goal.returns-then-not-rule
unfolding covered_by
returns-then-not-rule c = let e : c.args.rule.used ≡ false = (not-true _ c.if-not-rule.true) in rw e

pub returns : goal.returns
unfolding covered_by
returns c =
    let e : c.args.rule.used ≡ true = (not-false _ c.if-not-rule.false) in
    rw (c.has-3.ensures, c.has-2.ensures, c.has.ensures, c.from.ensures, e)
