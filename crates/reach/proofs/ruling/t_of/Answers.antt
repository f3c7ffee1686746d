-- The set of its T, if it is in use, has the operation and its U is among those asked for, and else of nothing.
use borrow.Author.Tests.{not-true, not-false}
use Rattle.reach.proofs.Testing.{decides_at, decides_and, decides_true, refuted}
use Rattle.reach.proofs.WordSets.{set_as, set_none, has_decides}
use Rattle.reach.proofs.ruling.t_of.Goals as goal

pub returns-then-not-rule : goal.returns-then-not-rule
returns-then-not-rule c = set_none (λ t h. refuted (decides_true _) (not-true _ c.if-not-rule.true) h.1.used)

pub returns-then-not-has : goal.returns-then-not-has
returns-then-not-has c =
    set_none
    (λ t h.
    refuted
    (decides_and _ _
    (decides_at (rw c.from.ensures at c.has.ensures) (has_decides _ _))
    (decides_at c.has-2.ensures (has_decides _ _)))
    c.if-not-has.true
    (h.1.operation, h.1.in_u))

pub returns : goal.returns
returns c =
    let both =
    (decides_and _ _ (decides_at (rw c.from.ensures at c.has.ensures) (has_decides _ _)) (decides_at c.has-2.ensures (has_decides _ _))
    ).sound
    c.if-not-has.false
    in
    set_as
    c.just.ensures
    (λ x w. (
      w.0,
      record {
        used = (not-false _ c.if-not-rule.false);
        operation = both.0;
        in_u = both.1;
        is_t = w.1;
      },
    ))
    (λ x h. (h.0, h.1.is_t))
