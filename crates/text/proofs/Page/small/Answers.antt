-- One, two or three digits, by the two tests.
use Rattle.std.proofs.Common.{sym, arith, rules, ◌<◌}
use Rattle.text.proofs.Paging.{puts_then, puts_as}
use Rattle.text.proofs.Decimals.{decimal_last, decimal_two, decimal_three}
use Rattle.text.proofs.Page.small.Goals.{then-x-ge100, else-x-ge100, then-x-ge10, else-x-ge10}
use Rattle.text.proofs.Page.small.Goals as goal

pub returns : goal.returns
returns c =
    let small : c.args.x < 256 = search rules in
    elim c.if-x-ge100.branch [
      | then-x-ge100 w ↦ elim c.if-x-ge10.branch [
        | then-x-ge10 v ↦
            puts_as (sym (decimal_three _ (omega (arith, w.if-x-ge100.true)) (omega (arith, small))))
            (puts_then (puts_then w.byte.ensures (rw w.self-is at v.byte-then-x-ge10.ensures)) (rw v.self-is at c.byte-2.ensures))
        | else-x-ge10 v ↦ absurd (omega (arith, w.if-x-ge100.true, v.if-x-ge10.false))
      ]
      | else-x-ge100 w ↦ elim c.if-x-ge10.branch [
        | then-x-ge10 v ↦
            puts_as (sym (decimal_two _ v.if-x-ge10.true (omega (arith, w.if-x-ge100.false))))
            (puts_then (rw w.self-is at v.byte-then-x-ge10.ensures) (rw v.self-is at c.byte-2.ensures))
        | else-x-ge10 v ↦ puts_as (decimal_last _ v.if-x-ge10.false) (rw (v.self-is, w.self-is) at c.byte-2.ensures)
      ]
    ]
