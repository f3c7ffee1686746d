-- The tables are what the rules grant him before and after; what the search finds is what he comes to be permitted.
use native.Mathlib.Omega.{arith}
use lib.Bits.{or_comm}
use Rattle.reach.proofs.Testing.{decides_at, refuted}
use Rattle.reach.proofs.WordSets.{decides_has}
use Rattle.gains.proofs.Searched.{granted_users, put_found}
use Rattle.gains.proofs.Looking.{over_not, over_too}
use Rattle.gains.proofs.opening.put_permission.Goals as goal

pub returns-then-not-has : goal.returns-then-not-has
returns-then-not-has c = λ u g user o s.
    let p = c.args.p.now in
    let n = refuted (decides_at c.has.ensures (decides_has o _)) c.if-not-has.true in
    put_found p user o c.granted-had.ensures s (over_not p o n) c.granted-had.ensures c.first_fresh.result c.first_fresh.ensures

pub returns-then-over-group : goal.returns-then-over-group
returns-then-over-group c = λ u g user o s.
    let p = c.args.p.now in
    let here = (decides_at c.has.ensures (decides_has o _)).sound c.if-not-has.false in
    put_found p user o c.granted-had.ensures s (over_too p o s here)
    (granted_users p.rules c.granted-had.ensures (omega (arith, c.if-over-group.true)))
    c.first_fresh-then-over-group.result
    c.first_fresh-then-over-group.ensures

pub returns : goal.returns
returns c = λ u g user o s.
    let p = c.args.p.now in
    let here = (decides_at c.has.ensures (decides_has o _)).sound c.if-not-has.false in
    put_found p user o c.granted-had.ensures s (over_too p o s here)
    (granted_users p.rules c.granted-got.ensures (omega (arith, or_comm c.args.over c.args.group)))
    c.first_fresh-2.result
    c.first_fresh-2.ensures
