-- Where the three stages come to an end.
use mathlib.Core.Path.{◌∙◌}
use Rattle.rules.proofs.Checking.{handed_on}
use Rattle.judge.proofs.Ordered.{stops_formed, stops_allowed, stops_harmless, passes_all}
use Rattle.judge.proofs.verdict_on.Goals as goal

pub returns-in_err-formed : goal.returns-in_err-formed
returns-in_err-formed c =
    handed_on _ c.from_residual.ensures.1
    ∙ stops_formed _ _ _ _ c.in_err-formed.ensures

pub returns-in_err-by : goal.returns-in_err-by
returns-in_err-by c =
    handed_on _ c.from_residual-in_err-by.ensures.1
    ∙ stops_allowed _ _ _ _ c.in_ok-formed.ensures c.in_err-by.ensures.value

pub returns-in_err-harmless : goal.returns-in_err-harmless
returns-in_err-harmless c =
    handed_on _ c.from_residual-in_err-harmless.ensures.1
    ∙ stops_harmless _ _ _ _ c.in_ok-formed.ensures c.in_ok-by.ensures.value
    c.in_err-harmless.ensures

pub returns : goal.returns
returns c =
    passes_all _ _ _ _ c.in_ok-formed.ensures c.in_ok-by.ensures.value
    c.in_ok-harmless.ensures
