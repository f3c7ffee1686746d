use Rattle.std.proofs.Common.{arith, sym, ap, ◌∙◌}
use Rattle.snapshot.specs.Card.{bytes_of}
use Rattle.snapshot.proofs.Penning.{penned_as, penned_start, penned_more, entry_within}
use Rattle.snapshot.proofs.writing.Writer.table.Goals as goal

pub loop-i-init : goal.loop-i-init
loop-i-init g c = penned_start _

pub loop-i-preserved : goal.loop-i-preserved
loop-i-preserved g c =
    let here =
    c.entry.ensures
    ∙ sym (entry_within g.T.Placed.entry_of c.args.table.now c.loop-i.i c.index-table-i.result (omega (arith, c.loop-i-test.true, c.type_inv.table))) in
    penned_more _ _ c.loop-i.invariant (penned_as (ap bytes_of here) c.entry-in-loop-i.ensures)
