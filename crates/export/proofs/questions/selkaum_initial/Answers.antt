use mathlib.Core.Path.{ap, ◌∙◌}
use Rattle.export.specs.Picture.{picture_of}
use Rattle.export.proofs.Asking.{founding}
use Rattle.export.proofs.questions.selkaum_initial.Goals as goal

pub returns : goal.returns
returns c = founding _ _ c.in-Some.ensures.cases.enough (c.put_policy.ensures ∙ ap picture_of c.initial.ensures)
