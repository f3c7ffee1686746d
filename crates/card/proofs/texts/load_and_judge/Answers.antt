-- `load_and_judge` reads the card and judges from the policy that it gives: the parts one after the other (`loads_all`).
use Rattle.std.proofs.Common.{rules, ◌≡◌, length}
use Rattle.card.proofs.Loading.{loads_all, loads_full}
use Rattle.card.proofs.Showing.{long_input}
use Rattle.card.proofs.texts.load_and_judge.Goals as goal

loads : goal.returns-clause-loads
loads c =
    let room : length c.args.head.now ≡ 4 = search rules in
    let room-text : length c.args.text.now ≡ 212992 = search rules in
    let read = c.read_card-read.ensures in
    loads_all _ read.reads read.demand3 room c.card_code.ensures c.put_code-said.ensures c.initial-founding.ensures c.unwrap_or-policy.ensures
    room-text c.output_from.ensures

pub returns-clause-loads : goal.returns-clause-loads
returns-clause-loads c = loads c

pub returns-clause-shows : goal.returns-clause-shows
returns-clause-shows c = λ long. loads_full (loads c) (long_input _ long)
