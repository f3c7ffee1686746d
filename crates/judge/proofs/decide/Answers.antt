-- The verdict of the rules on the record that was read.
use Rattle.judge.proofs.Ordered.{decides}
use Rattle.judge.proofs.decide.Goals as goal

pub returns : goal.returns
returns c = decides _ _ c.byte-sender.ensures c.request_of-request.ensures c.verdict_on.ensures
