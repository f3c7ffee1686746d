-- Nothing comes where the rule is not in use or its U is not among the users, and else its T for each of its operations.
use native.Mathlib.Omega.{arith}
use lib.ListN.{length, get_or}
use mir.Syntax.{w64}
use mir.Val.{Fits}
use mathlib.Core.Path.{◌≡◌}
use Rattle.reach.proofs.Testing.{refuted}
use Rattle.gains.proofs.Spreading.{joined_none, joined_as}
use Rattle.std.proofs.Common.{rules}
use Rattle.gains.proofs.granting.granted_by.Goals as goal

pub returns-then-not-covers : goal.returns-then-not-covers
returns-then-not-covers c =
    let a = c.args in
    let long : length a.sets ≡ 8 = search rules in
    joined_none
    _
    long
    (λ j. let fits : Fits w64 (get_or a.sets j 0) = search rules in fits.fits)
    (λ i x q. refuted c.covers.ensures c.if-not-covers.true (record { used = q.1.used; in_u = omega (arith, q.1.in_u) }))

pub returns : goal.returns
returns c =
    let covers = c.covers.ensures.sound c.if-not-covers.false in
    let one = c.just.ensures in
    joined_as
    _
    c.spread.ensures
    (λ i x l q.
    let v = one.only x q.1 in (v.0, record { used = covers.used; operation = q.0; in_u = omega (arith, covers.in_u); is_t = v.1 }))
    (λ i x l q. (q.1.operation, one.all x (q.0, q.1.is_t)))
