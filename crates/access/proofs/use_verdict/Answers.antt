-- The verdict is that of the judge's decision on the record that says the USE, and that of the rules.
use mathlib.Core.Path.{ap}
use Rattle.judge.specs.declared.Decision.{Decision}
use Rattle.rules.specs.Judging.{judge}
use Rattle.access.specs.Using.{use_record, use_verdict}
use Rattle.access.proofs.use_verdict.Goals as goal

pub returns : goal.returns
unfolding use_verdict use_record judge
returns c = ap (λ (d : Decision). d.verdict) c.decide.ensures
