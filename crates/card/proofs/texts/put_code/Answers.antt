-- `put_code` prints the code and then a line feed: two texts one after the other are their join.
use Rattle.std.proofs.Common.{rules}
use Rattle.text.proofs.Paging.{puts_then, printed_page}
use Rattle.card.proofs.texts.put_code.Goals as goal

pub returns : goal.returns
returns c =
    let all = puts_then c.small.ensures c.byte.ensures in
    search (rules, printed_page c.new-page.ensures.place c.new-page.ensures.bytes all, all.same)
