-- The request of each kind is its definition, arm by arm, from the bytes that the record has.
use Rattle.std.proofs.Common.{arith}
use Rattle.std.proofs.lemmas.Bool.Decides.{nat_tests}
use Rattle.rules.specs.Records.{request}
use Rattle.judge.proofs.records.request_of.Goals as goal

pub returns-in-1 : goal.returns-in-1
unfolding request
returns-in-1 c =
    simp (
      ← c.kind_field-kind.ensures,
      c.in-1.is,
      ← c.byte-b5.ensures,
      ← c.byte-b6.ensures,
      ← c.byte-b7.ensures,
      ← c.byte-b8.ensures,
      ← c.byte-b9.ensures,
    )

pub returns-in-2 : goal.returns-in-2
unfolding request
returns-in-2 c =
    simp (
      ← c.kind_field-kind.ensures,
      c.in-2.is,
      ← c.byte-b5.ensures,
      ← c.byte-b6.ensures,
      ← c.byte-b7.ensures,
      ← c.byte-b8.ensures,
      ← c.byte-b9.ensures,
    )

pub returns-in-3 : goal.returns-in-3
unfolding request
returns-in-3 c =
    simp (
      ← c.kind_field-kind.ensures,
      c.in-3.is,
      ← c.byte-b5.ensures,
      ← c.byte-b6.ensures,
      ← c.byte-b7.ensures,
      ← c.byte-b8.ensures,
      ← c.byte-b9.ensures,
    )

pub returns-in-4 : goal.returns-in-4
unfolding request
returns-in-4 c =
    simp (
      ← c.kind_field-kind.ensures,
      c.in-4.is,
      ← c.byte-b5.ensures,
      ← c.byte-b6.ensures,
      ← c.byte-b7.ensures,
      ← c.byte-b8.ensures,
      ← c.byte-b9.ensures,
    )

pub returns-in-5 : goal.returns-in-5
unfolding request
returns-in-5 c =
    simp (
      ← c.kind_field-kind.ensures,
      c.in-5.is,
      ← c.byte-b5.ensures,
      ← c.byte-b6.ensures,
      ← c.byte-b7.ensures,
      ← c.byte-b8.ensures,
      ← c.byte-b9.ensures,
    )

pub returns-in-6 : goal.returns-in-6
unfolding request
returns-in-6 c =
    simp (
      ← c.kind_field-kind.ensures,
      c.in-6.is,
      ← c.byte-b5.ensures,
      ← c.byte-b6.ensures,
      ← c.byte-b7.ensures,
      ← c.byte-b8.ensures,
      ← c.byte-b9.ensures,
    )

pub returns-in-7 : goal.returns-in-7
unfolding request
returns-in-7 c =
    simp (
      ← c.kind_field-kind.ensures,
      c.in-7.is,
      ← c.byte-b5.ensures,
      ← c.byte-b6.ensures,
      ← c.byte-b7.ensures,
      ← c.byte-b8.ensures,
      ← c.byte-b9.ensures,
    )

pub returns-in-8 : goal.returns-in-8
unfolding request
returns-in-8 c =
    simp (
      ← c.kind_field-kind.ensures,
      c.in-8.is,
      ← c.byte-b5.ensures,
      ← c.byte-b6.ensures,
      ← c.byte-b7.ensures,
      ← c.byte-b8.ensures,
      ← c.byte-b9.ensures,
    )

pub returns-in_default : goal.returns-in_default
unfolding request
returns-in_default c = grind (arith, nat_tests, c.in_default, c.kind_field-kind.ensures)
