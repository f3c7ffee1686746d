-- `put_saved` prints the code, a space, the length and a line feed: texts one after the other are their join.
use Rattle.std.proofs.Common.{rules}
use Rattle.snapshot.proofs.Answering.{length_is}
use Rattle.text.proofs.Paging.{puts_then, printed_page}
use Rattle.card.proofs.texts.put_saved.Goals as goal

pub returns : goal.returns
returns c =
    let told = c.unwrap_or.ensures in
    let all = puts_then (puts_then (puts_then c.small.ensures c.byte.ensures) c.number.ensures) c.byte-2.ensures in
    rw (← c.card_code.ensures, ← length_is c.args.written, ← told)
    (search (rules, printed_page c.new-page.ensures.place c.new-page.ensures.bytes all, all.same))
