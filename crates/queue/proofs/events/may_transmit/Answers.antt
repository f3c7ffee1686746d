-- Who is not refused is permitted.
use Rattle.std.proofs.Common.{◌∙◌}
use Rattle.queue.proofs.Stepping.{asked_permits}
use Rattle.queue.proofs.events.may_transmit.Goals as goal

pub returns : goal.returns
returns c = c.is_ok.ensures.value ∙ asked_permits _ _ _ c.asked.ensures
