-- `selkaum_judge` answers by the judge on the policy of the picture, and stores what it answers. A picture of another length, or a buffer
-- that is too short, is refused before anything is judged.
use Rattle.std.proofs.Common.{arith}
use Rattle.export.proofs.Picturing.{no_room, judged}
use Rattle.export.proofs.selkaum_judge.Goals as goal

pub returns-then-behind-lt2 : goal.returns-then-behind-lt2
returns-then-behind-lt2 c =
    no_room _ _ _ c.in-Some.ensures.0 c.in-Some-split_first_chunk_mut.ensures.cases (omega (arith, c.if-behind-lt2.true))

pub returns : goal.returns
returns c =
    judged
    _ _ _ c.in-Some.p c.judge-judged.result _ _
    c.in-Some.ensures
    c.judge-judged.ensures.value
    c.put_policy.ensures
    c.in-Some-split_first_chunk_mut.ensures.cases
    (omega (arith, c.if-behind-lt2.false))
    c.code_of.ensures
    c.cited_of.ensures
