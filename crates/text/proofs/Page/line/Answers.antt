-- The six parts of a line are what its six calls put, in their order.
use native.Mathlib.Omega.{arith}
use Rattle.text.specs.Text.{line}
use Rattle.text.proofs.Paging.{puts_then, puts_sign}
use Rattle.text.proofs.Page.line.Goals as goal

pub returns : goal.returns
unfolding line
returns c =
    let indexed = puts_sign 32 c.number.ensures c.byte.ensures (omega arith) in
    let coded = puts_sign 32 (puts_then indexed c.small.ensures) c.byte-2.ensures (omega arith) in
    puts_sign 10 (puts_then coded c.small-2.ensures) c.byte-3.ensures (omega arith)
