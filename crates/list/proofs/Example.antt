-- Demand 3 says something: after the first thirteen records of the sample user 3 is permitted to transmit on target 6, as line 12 of the
-- sample says, and that permission's line is in the list, in both wordings. The permission by computation, its line by demand 3.
use mathlib.Core.Path.{◌≡◌, refl}
use mathlib.Core.Bool.{true}
use mathlib.Core.List.{List}
use native.Mathlib.Omega.{arith}
use lib.ListN.{take}
use Rattle.reach.specs.Tables.{initial}
use Rattle.reach.specs.Privileges.{permitted, Permitted}
use Rattle.reach.proofs.Deciding.{permitted_decides}
use Rattle.rules.specs.declared.Request.TheVariants.{Use}
use Rattle.rules.specs.Sample.{records}
use Rattle.rules.proofs.Answered.{computed}
use Rattle.text.specs.Text.{Bytes}
use Rattle.list.specs.Runs.{run, policy_at, before, end, Done}
use Rattle.list.specs.Lines.{PermissionLine}
use Rattle.list.specs.Descent.{PermissionDescent}
use Rattle.list.proofs.Authority.{every_permission_descends}
use Rattle.list.proofs.Demanded.{third}

abbrev pub thirteen : List Bytes
thirteen = take 13 records

at_end : permitted (policy_at initial thirteen (end initial thirteen)) 3 2 6 ≡ true
unfolding computed run
at_end = refl

-- The last of the thirteen is 3's own USE, accepted.
pub used : Done initial thirteen 12 3 (Use 6 2)
unfolding computed run
used = record { within = omega arith; by = refl; asks = refl; accepted = refl }

permission_of_3 : Permitted (before initial thirteen (end initial thirteen)) 3 2 6
permission_of_3 = (permitted_decides (policy_at initial thirteen (end initial thirteen)) 3 2 6).sound at_end

pub line_of_3 : PermissionLine initial thirteen 3 2 6
line_of_3 = (third thirteen).demand.lines 3 2 6 permission_of_3

pub descent_of_3 : PermissionDescent thirteen 3 2 6
descent_of_3 = every_permission_descends thirteen (third thirteen) 3 2 6 permission_of_3
