-- `save_list` says `too long` past the limit, and else has the card of what the list leaves: the writer can only say that it is done
-- (`saves_done`).
use Rattle.std.proofs.Common.{rules, arith, ◌≡◌, length}
use Rattle.card.proofs.Saving.{saves_long, saves_done}
use Rattle.card.proofs.texts.save_list.Goals as goal

pub returns-then-input-gt65536-clause-saves : goal.returns-then-input-gt65536-clause-saves
returns-then-input-gt65536-clause-saves c =
    let room : length c.args.line.now ≡ 16 = search rules in
    saves_long _ (omega (arith, c.if-input-gt65536.true)) room c.print.ensures

pub returns-clause-saves : goal.returns-clause-saves
returns-clause-saves c =
    let room : length c.args.card.now ≡ 25376 = search rules in
    let room-line : length c.args.line.now ≡ 16 = search rules in
    saves_done _ (omega (arith, c.if-input-gt65536.false))
    (rw c.initial-founding.ensures at c.left_by-left.ensures)
    room c.write_card-written.ensures c.ok.ensures.value room-line c.put_saved.ensures
