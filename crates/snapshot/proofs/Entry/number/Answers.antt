-- `number` counts the places before an entry, table by table: 64 objects, 64 rows of 64 memberships, 32 appointments.
use Rattle.std.proofs.Common.{rules}
use Rattle.snapshot.specs.Loading.{number_of}
use Rattle.snapshot.proofs.Entry.number.Goals as goal

pub returns-in-Object : goal.returns-in-Object
unfolding number_of
returns-in-Object c = rw c.in-Object.is (search rules)

pub returns-in-Membership : goal.returns-in-Membership
unfolding number_of
returns-in-Membership c = rw c.in-Membership.is (search rules)

pub returns-in-Appointed : goal.returns-in-Appointed
unfolding number_of
returns-in-Appointed c = rw c.in-Appointed.is (search rules)

pub returns-in-Granted : goal.returns-in-Granted
unfolding number_of
returns-in-Granted c = rw c.in-Granted.is (search rules)
