-- None where the rule is not in use or its U or its T is not in its set, and else all of its own.
use Rattle.reach.proofs.Testing.{decides_at, decides_and}
use Rattle.reach.proofs.WordSets.{set_as, has_decides}
use Rattle.gains.proofs.granting.operations_of.Goals as goal

pub returns : goal.returns
returns c =
    let both = decides_and _ _ c.covers.ensures (decides_at c.has.ensures (has_decides _ _)) in
    set_as
    c.only_if.ensures
    (λ k w.
    let b = both.sound w.0 in
    record { used = b.0.used; operation = w.1; in_u = b.0.in_u; in_t = b.1 })
    (λ k g. (both.complete (record { used = g.used; in_u = g.in_u }, g.in_t), g.operation))
