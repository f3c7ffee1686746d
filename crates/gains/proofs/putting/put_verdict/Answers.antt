-- Checks 8 and 9 are asked first; who passes them is a user, and the object is in use.
use mathlib.Core.Path.{◌≡◌, sym, ◌∙◌}
use mathlib.Core.Bool.{true, false, ◌&&◌}
use native.Mathlib.Omega.{arith}
use Rattle.std.proofs.Common.{rules}
use Rattle.reach.specs.Reach.{direct}
use Rattle.rules.specs.Authority.{governs}
use Rattle.rules.proofs.Checking.{passed, applied, refused}
use Rattle.gains.proofs.PutMay.{governs_asked, governs_user, governs_used, both_first, put_already, put_unentitled, put_entitled}
use Rattle.gains.proofs.putting.put_verdict.Goals.{After-meets-2}
use Rattle.gains.proofs.putting.put_verdict.Goals as goal

-- What is known once both are met or not: the membership is new, and the sender governs the object, and the group, or does not.
new : (c : After-meets-2) → let a = c.args in direct a.p a.x a.g ≡ false
new c = sym c.placing-asked.ensures.is_direct ∙ passed _ _ c.in_ok-if_so.ensures

object : (c : After-meets-2) → let a = c.args in c.meets.result ≡ governs a.p a.u a.x
object c = let placing = c.placing-asked.ensures in governs_asked _ placing.posts placing.first (omega arith) c.meets.ensures

group : (c : After-meets-2) → let a = c.args in c.meets-2.result ≡ governs a.p a.u a.g
group c = let placing = c.placing-asked.ensures in governs_asked _ placing.posts placing.second (omega arith) c.meets-2.ensures

pub returns-in_err-if_so : goal.returns-in_err-if_so
returns-in_err-if_so c =
    refused _ _ c.in_err-if_so.ensures c.from_residual.ensures.1
    ∙ put_already _ _ _ _ (sym c.placing-asked.ensures.is_direct ∙ applied _ _ c.in_err-if_so.ensures)

pub returns-in_err-if_so-2 : goal.returns-in_err-if_so-2
returns-in_err-if_so-2 c =
    let w = (goal.at.returns-in_err-if_so-2 c).After-meets-2 in
    refused _ _ c.in_err-if_so-2.ensures c.from_residual-in_err-if_so-2.ensures.1
    ∙ put_unentitled _ _ _ _ (new w) (object w) (group w) (search rules)

pub returns : goal.returns
returns c =
    let w = (goal.at.returns c).After-meets-2 in
    let placing = c.placing-asked.ensures in
    let met : (c.meets.result && c.meets-2.result) ≡ true = search rules in
    let yes = both_first c.meets.result _ met in
    put_entitled _ _ _ _ (new w) (object w) (group w) met
    (c.put_gives.ensures
    record {
      user = governs_user _ placing.posts placing.first (omega arith) c.meets.ensures yes;
      used = governs_used _ placing.posts placing.first (omega arith) c.meets.ensures yes;
      asked = placing;
    })
