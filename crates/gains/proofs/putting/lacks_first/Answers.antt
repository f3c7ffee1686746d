-- B is in use unless it is under nothing; and then its pair with the object is lacked unless one appointment covers both.
use native.Mathlib.Omega.{arith}
use borrow.Author.Tests.{eq-eqb}
use Rattle.reach.proofs.Testing.{decides_as, decides_none}
use Rattle.gains.proofs.Lending.{above_by, above_none, above_some, pair_lacked}
use Rattle.gains.proofs.putting.lacks_first.Goals as goal

pub returns-then-over-ne0 : goal.returns-then-over-ne0
returns-then-over-ne0 c = λ x user o.
    let s = above_by c.args.p.now c.objects.ensures.sorts c.objects.ensures.memberships c.above-over.ensures in
    decides_as
    (pair_lacked _ user o s c.covers_pair.ensures (omega arith) (omega arith))
    (λ n. (above_some _ s c.if-over-ne0.true, n))
    (λ w. w.1)

pub returns-else-over-ne0 : goal.returns-else-over-ne0
returns-else-over-ne0 c = λ x user o.
    let s = above_by c.args.p.now c.objects.ensures.sorts c.objects.ensures.memberships c.above-over.ensures in
    rw (eq-eqb _ _ c.if-over-ne0.false) (decides_none (λ w. above_none _ s c.if-over-ne0.false w.0))
