-- `selkaum_read_card` answers by the reader on the policy of the picture, and stores what it answers. A picture of another length, or a buffer
-- that is too short, is refused before anything is read.
use Rattle.std.proofs.Common.{arith}
use Rattle.export.proofs.Carding.{no_room_read, card_read}
use Rattle.export.proofs.selkaum_read_card.Goals as goal

pub returns-then-behind-lt1 : goal.returns-then-behind-lt1
returns-then-behind-lt1 c =
    no_room_read _ _ _ c.in-Some.ensures.0 c.in-Some-split_first_chunk_mut.ensures.cases (omega (arith, c.if-behind-lt1.true))

pub returns : goal.returns
returns c =
    card_read
    _ _ _ c.in-Some.p _ c.read_card-read.result _
    c.in-Some.ensures
    c.read_card-read.ensures.reads
    c.read_card-read.ensures.demand3
    c.unwrap_or.ensures
    c.put_policy.ensures
    c.in-Some-split_first_chunk_mut.ensures.cases
    (omega (arith, c.if-behind-lt1.false))
    c.card_code-code.ensures
