use Rattle.export.specs.Picture.{policy_of}
use Rattle.export.proofs.Existing.{below_there}
use Rattle.export.proofs.Asking.{no_set, set_answered}
use Rattle.export.proofs.questions.selkaum_below.Goals as goal

pub returns-in_default : goal.returns-in_default
returns-in_default c = no_set _ _ _ (below_there (policy_of c.args.policy.now) c.args.g) c.in_default.ensures

pub returns : goal.returns
returns c =
    set_answered _ _ _ c.in-Some.p _ c.in-Some.ensures c.under_set.ensures c.to_le_bytes.ensures c.tell.ensures.written c.tell.ensures.count
