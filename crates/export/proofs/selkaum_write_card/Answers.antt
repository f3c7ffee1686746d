-- `selkaum_write_card` answers by the writer on the policy of the picture, and stores its code.
use Rattle.std.proofs.Common.{arith}
use Rattle.export.proofs.Carding.{card_written}
use Rattle.export.proofs.selkaum_write_card.Goals as goal

pub returns : goal.returns
returns c =
    card_written _ _ _ c.in-Some.p _ _ _ c.in-Some.ensures (omega (arith, c.if-code-lt1.false)) c.write_card-written.ensures
    c.card_code.ensures c.unwrap_or.ensures
