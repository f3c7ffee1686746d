-- `put_beside` prints the name and then the six letters: two texts one after the other are their join, and the buffer holds what is counted of
-- it.
use Rattle.std.proofs.Common.{rules}
use Rattle.text.proofs.Paging.{puts_then, printed_page}
use Rattle.card.proofs.Showing.{prefix_of_printed}
use Rattle.card.proofs.files.put_beside.Goals as goal

pub returns-clause-printed : goal.returns-clause-printed
returns-clause-printed c =
    let all = puts_then c.bytes.ensures c.bytes-2.ensures in
    search (rules, printed_page c.new-page.ensures.place c.new-page.ensures.bytes all, all.same)

pub returns-clause-prefix_len : goal.returns-clause-prefix_len
returns-clause-prefix_len c =
    let all = puts_then c.bytes.ensures c.bytes-2.ensures in
    search (rules, prefix_of_printed (printed_page c.new-page.ensures.place c.new-page.ensures.bytes all), all.same)
