-- A card that was taken is the file of the policy that it gives, and a sound policy's own file is loaded; from a sound policy demand 3 holds.
use Rattle.std.proofs.Common.{sym, ◌∙◌}
use Rattle.snapshot.proofs.Stepping.{err_given}
use Rattle.snapshot.proofs.Theorems.{read_sound, read_unsound, read_damaged, read_demand3}
use Rattle.snapshot.proofs.reading.read_card.Goals as goal

pub returns-in_err-policy-clause-reads : goal.returns-in_err-policy-clause-reads
returns-in_err-policy-clause-reads c =
    rw (err_given _ c.from_residual.ensures.1) (read_damaged (sym c.in_err-policy.was ∙ c.load.ensures))

pub returns-then-is_sound-clause-reads : goal.returns-then-is_sound-clause-reads
returns-then-is_sound-clause-reads c =
    read_sound (sym c.in_ok-policy.was ∙ c.load.ensures) c.is_sound.ensures c.if-is_sound.true

pub returns-then-is_sound-clause-demand3 : goal.returns-then-is_sound-clause-demand3
returns-then-is_sound-clause-demand3 c =
    read_demand3 (read_sound (sym c.in_ok-policy.was ∙ c.load.ensures) c.is_sound.ensures c.if-is_sound.true)

pub returns-else-is_sound-clause-reads : goal.returns-else-is_sound-clause-reads
returns-else-is_sound-clause-reads c =
    read_unsound (sym c.in_ok-policy.was ∙ c.load.ensures) c.is_sound.ensures c.if-is_sound.false
