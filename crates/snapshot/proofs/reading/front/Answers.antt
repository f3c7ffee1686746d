-- The two fields in front say which record stands there, if it is whole.
use Rattle.std.proofs.Common.{arith, sym}
use Rattle.snapshot.proofs.Records.{front_none, front_object, front_membership, front_appointed, front_granted}
use Rattle.snapshot.proofs.reading.front.Goals as goal

pub returns-then-b-n : goal.returns-then-b-n
returns-then-b-n c =
    let n = c.length_field-n.ensures in
    let short = c.if-b-n.true in
    front_none _ (λ l m h. omega (arith, l, h)) (λ l m h. omega (arith, l, h)) (λ l m h. omega (arith, l, h)) (λ l m h. omega (arith, l, h))

pub returns-in-6-eq16 : goal.returns-in-6-eq16
returns-in-6-eq16 c =
    let n = c.length_field-n.ensures in
    let k = c.kind_field.ensures in
    let whole = c.if-b-n.false in
    rw (c.byte.ensures, c.byte-in-6-eq16.ensures)
    (sym (front_object _ (omega (arith, c.in-6-eq16.is-0)) (omega (arith, c.in-6-eq16.is-1)) (omega (arith, c.in-6-eq16.is-0))))

pub returns-in-6-eq17 : goal.returns-in-6-eq17
returns-in-6-eq17 c =
    let n = c.length_field-n.ensures in
    let k = c.kind_field.ensures in
    let whole = c.if-b-n.false in
    rw (c.byte-in-6-eq17.ensures, c.byte-in-6-eq17-2.ensures)
    (sym (front_membership _ (omega (arith, c.in-6-eq17.is-0)) (omega (arith, c.in-6-eq17.is-1)) (omega (arith, c.in-6-eq17.is-0))))

pub returns-in-9-eq18 : goal.returns-in-9-eq18
returns-in-9-eq18 c =
    let n = c.length_field-n.ensures in
    let k = c.kind_field.ensures in
    let whole = c.if-b-n.false in
    rw (c.byte-in-9-eq18.ensures, c.byte-in-9-eq18-2.ensures, c.byte-in-9-eq18-3.ensures, c.byte-in-9-eq18-4.ensures, c.byte-in-9-eq18-5.ensures)
    (sym (front_appointed _ (omega (arith, c.in-9-eq18.is-0)) (omega (arith, c.in-9-eq18.is-1)) (omega (arith, c.in-9-eq18.is-0))))

pub returns-in-8-eq19 : goal.returns-in-8-eq19
returns-in-8-eq19 c =
    let n = c.length_field-n.ensures in
    let k = c.kind_field.ensures in
    let whole = c.if-b-n.false in
    rw (c.byte-in-8-eq19.ensures, c.byte-in-8-eq19-2.ensures, c.byte-in-8-eq19-3.ensures, c.byte-in-8-eq19-4.ensures)
    (sym (front_granted _ (omega (arith, c.in-8-eq19.is-0)) (omega (arith, c.in-8-eq19.is-1)) (omega (arith, c.in-8-eq19.is-0))))

pub returns-in_default : goal.returns-in_default
returns-in_default c =
    let n = c.length_field-n.ensures in
    let k = c.kind_field.ensures in
    front_none _ (λ l m h. omega (arith, l, m)) (λ l m h. omega (arith, l, m)) (λ l m h. omega (arith, l, m)) (λ l m h. omega (arith, l, m))

pub returns-in_default-2 : goal.returns-in_default-2
returns-in_default-2 c =
    let n = c.length_field-n.ensures in
    let k = c.kind_field.ensures in
    front_none _ (λ l m h. omega (arith, l, m)) (λ l m h. omega (arith, l, m)) (λ l m h. omega (arith, l, m)) (λ l m h. omega (arith, l, m))

pub returns-in_default-3 : goal.returns-in_default-3
returns-in_default-3 c =
    let n = c.length_field-n.ensures in
    let k = c.kind_field.ensures in
    front_none _ (λ l m h. omega (arith, l, m)) (λ l m h. omega (arith, l, m)) (λ l m h. omega (arith, l, m)) (λ l m h. omega (arith, l, m))

pub returns-in_default-4 : goal.returns-in_default-4
returns-in_default-4 c =
    let n = c.length_field-n.ensures in
    let k = c.kind_field.ensures in
    front_none _ (λ l m h. omega (arith, l, m)) (λ l m h. omega (arith, l, m)) (λ l m h. omega (arith, l, m)) (λ l m h. omega (arith, l, m))
