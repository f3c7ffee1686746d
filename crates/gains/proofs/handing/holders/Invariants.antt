-- Both sets are unions over the places of the table.
use Rattle.std.proofs.Common.{◌<◌, get_or}
use Rattle.reach.specs.Tables.{no_appointment}
use Rattle.reach.proofs.Unions.{Union}
use Rattle.gains.specs.Lacking.{HolderOf}
use Rattle.gains.proofs.handing.holders.Given as goal

abbrev pub invariant-loop-w : goal.invariant-loop-w
invariant-loop-w l =
    Union (λ j u. (u < 64) × HolderOf (get_or l.appointments j no_appointment) l.kind l.object u) l.w-index l.had
    × Union (λ j u. (u < 64) × HolderOf (get_or l.appointments j no_appointment) l.kind l.group u) l.w-index l.got
