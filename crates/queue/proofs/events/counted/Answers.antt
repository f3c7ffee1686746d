use Rattle.std.proofs.Common.{◌∙◌}
use Rattle.queue.proofs.Stepping.{counted_between}
use Rattle.queue.proofs.events.counted.Goals as goal

pub returns : goal.returns
returns c = c.clamp.ensures ∙ counted_between _
