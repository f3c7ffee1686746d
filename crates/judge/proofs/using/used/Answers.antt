-- The rule that is found says whether he has the authority, and is the one that is cited.
use Rattle.judge.proofs.ByKind.{used_by, used_by_none}
use Rattle.judge.proofs.using.used.Goals as goal

pub returns-in-Some : goal.returns-in-Some
returns-in-Some c = used_by _ _ _ _ c.in-Some.ensures

pub returns-in-None : goal.returns-in-None
returns-in-None c = used_by_none _ _ _ _ c.in-None.ensures
