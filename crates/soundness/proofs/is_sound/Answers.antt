-- Each table is tested against the policy's own masks, and reach tells of orphans: the four tests are the four parts of soundness.
use Rattle.reach.specs.Tables.{Sized}
use Rattle.reach.proofs.Lists.{length_mapped}
use Rattle.reach.proofs.Testing.{decides_at}
use Rattle.soundness.proofs.Tying.{sound_decided}
use Rattle.std.proofs.Common.{rules}
use Rattle.soundness.proofs.is_sound.Goals as goal

pub returns : goal.returns
returns c =
    let sized : Sized c.args.p = record {
      sorts = search rules;
      memberships = search rules;
      appointments = search (rules, length_mapped);
      rules = search (rules, length_mapped);
    } in
    decides_at
    (rw (← c.orphaned-owners.ensures))
    (sound_decided _ sized _ c.masks-m.ensures _ _ _
    c.memberships_fit-memberships.ensures
    c.appointments_fit-appointments.ensures
    c.rules_fit-rules.ensures)
