-- `selkaum_gain` stores the gain that is told of the record on the policy of the picture.
use Rattle.std.proofs.Common.{arith}
use Rattle.export.proofs.Telling.{tells, tells_none}
use Rattle.export.proofs.selkaum_gain.Goals as goal

pub returns-in-Some-own_gain_of : goal.returns-in-Some-own_gain_of
returns-in-Some-own_gain_of c =
    tells _ _ _ c.in-Some.p _ c.in-Some.ensures (omega (arith, c.if-gain-lt2.false)) c.own_gain_of.ensures
    _ _ _ _
    c.in-Some-own_gain_of.is
    (omega arith)
    (omega arith)

pub returns-in-None : goal.returns-in-None
returns-in-None c =
    tells_none _ _ _ c.in-Some.p _ c.in-Some.ensures (omega (arith, c.if-gain-lt2.false)) c.own_gain_of.ensures c.in-None.is
