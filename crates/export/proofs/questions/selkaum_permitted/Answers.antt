use Rattle.export.specs.Picture.{policy_of}
use Rattle.export.proofs.Existing.{permitted_there}
use Rattle.export.proofs.Asking.{no_set, set_answered}
use Rattle.export.proofs.questions.selkaum_permitted.Goals as goal

pub returns-in_default : goal.returns-in_default
returns-in_default c = no_set _ _ _ (permitted_there (policy_of c.args.policy.now) c.args.u c.args.k) c.in_default.ensures

pub returns : goal.returns
returns c =
    set_answered _ _ _ c.in-Some.p _ c.in-Some.ensures c.permitted.ensures c.to_le_bytes.ensures c.tell.ensures.written c.tell.ensures.count
