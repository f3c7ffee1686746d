-- `joined` asks for the user of the record: what the line answers him is told.
use Rattle.std.proofs.Common.{◌∙◌, ap}
use Rattle.queue.specs.Stored.{Joined, after_join}
use Rattle.queue_run.specs.Program.{event_told}
use Rattle.queue_run.proofs.club.joined.Goals as goal

pub returns : goal.returns
returns c =
    let club = c.args.club.now in
    c.event.ensures
    ∙ rw c.answer_code.ensures
    (ap (λ (j : Joined). event_told club j.queue j.code) (c.joined_in_place-answer.ensures ∙ ap (after_join club.queue club.policy) c.byte.ensures))
