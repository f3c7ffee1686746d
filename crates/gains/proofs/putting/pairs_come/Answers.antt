-- Where no side is opened no pair comes; else the sides that are left tell, the second and then the first.
use native.Mathlib.Omega.{arith}
use borrow.Author.Tests.{ne_eqb}
use Rattle.reach.proofs.Testing.{decides_none}
use Rattle.gains.proofs.PutSides.{left_at, second_at, first_at, none_opened, second_found, first_tells}
use Rattle.gains.proofs.Looking.{decides_found}
use Rattle.gains.proofs.putting.pairs_come.Goals as goal

pub returns-then-opened-eq0 : goal.returns-then-opened-eq0
returns-then-opened-eq0 c = λ x g e.
    let k = e.user in
    let o = e.asked.first in
    let q = e.asked.second in
    let f = c.sides_of-opened.ensures in
    decides_none
    (none_opened _ _ k o q
    (first_at _ _ k o q f.0 (omega arith))
    (second_at _ _ k o q f.1 (omega arith))
    (omega (arith, c.if-opened-eq0.true)))

pub returns-then-not_under-ne0 : goal.returns-then-not_under-ne0
returns-then-not_under-ne0 c = λ x g e.
    let k = e.user in
    let o = e.asked.first in
    let q = e.asked.second in
    let f = c.sides_of-opened.ensures in
    let t = c.objects-objects.ensures in
    let left = rw (t.sorts, t.memberships) at c.not_under.ensures in
    rw (ne_eqb _ 0 c.if-not_under-ne0.true)
    (decides_found
    (second_found _ _ k o q
    (second_at _ _ k o q f.1 (omega arith))
    (second_at _ _ k o q c.sides_of-held.ensures.1 (omega arith))
    (left_at _ _ k o q left (omega arith) (omega arith))
    c.if-not_under-ne0.true))

pub returns-else-not_under-ne0 : goal.returns-else-not_under-ne0
returns-else-not_under-ne0 c = λ x g e.
    let k = e.user in
    let o = e.asked.first in
    let q = e.asked.second in
    let f = c.sides_of-opened.ensures in
    let t = c.objects-objects.ensures in
    let left = rw (t.sorts, t.memberships) at c.not_under.ensures in
    let other = rw (t.sorts, t.memberships) at c.not_under-else-not_under-ne0.ensures in
    first_tells _ _ k o q
    (second_at _ _ k o q f.1 (omega arith))
    (second_at _ _ k o q c.sides_of-held.ensures.1 (omega arith))
    (left_at _ _ k o q left (omega arith) (omega arith))
    c.if-not_under-ne0.false
    (first_at _ _ k o q f.0 (omega arith))
    (first_at _ _ k o q c.sides_of-held.ensures.0 (omega arith))
    (left_at _ _ k o q other (omega arith) (omega arith))
