-- The founding with one fault, for each thing that [02:2.4] asks of a sound policy; and the founding with what is no fault.
use Rattle.std.specs.Prelude.{true, false, ℕ, ◌+◌, ◌^◌, set}
use Rattle.reach.specs.declared.Policy.{Policy}
use Rattle.reach.specs.Tables.{view, initial}
use Rattle.reach.specs.Successors.{with_sorts, with_members, appointed, ruled}
use Rattle.soundness.specs.Soundness.{Sound}

abbrev pub Unsound : Policy → Type 0
Unsound p = Sound (view p) → ⊥

-- The founding with another set of groups that x is directly in.
abbrev pub with_row : ℕ → ℕ → Policy
with_row x row = with_members initial (set initial.memberships x row)

-- The founding with an appointment at the last place, and with a rule in use at the last place.
abbrev pub with_appointment : ℕ → ℕ → ℕ → ℕ → Policy
with_appointment k h a b = appointed initial 31 (record { kind = k; holder = h; a = a; b = b })

abbrev pub with_rule : ℕ → ℕ → ℕ → Policy
with_rule u t o = ruled initial 63 (record { used = true; users = u; targets = t; operations = o })

-- ---- "its stored memberships .. all name objects in use of the right sort"

-- Beside user 1 the empty object 63 is in group 0.
abbrev pub empty_member : Policy
empty_member = with_row 63 1

-- Group 0 is in user 1; user 1 is in the empty object 63, beside group 0.
abbrev pub in_user : Policy
in_user = with_row 0 2

abbrev pub in_empty : Policy
in_empty = with_row 1 (1 + 2 ^ 63)

-- ---- "the numbers in its places in use, unread B apart, all name objects in use of the right sort", of appointments

-- An owner whose holder is a group, an empty object, and a number past the table.
abbrev pub group_holds : Policy
group_holds = with_appointment 1 0 0 0

abbrev pub empty_holds : Policy
empty_holds = with_appointment 1 63 0 0

abbrev pub past_holds : Policy
past_holds = with_appointment 1 64 0 0

-- An owner of a user, and of an empty object.
abbrev pub owner_of_user : Policy
owner_of_user = with_appointment 1 1 1 0

abbrev pub owner_of_empty : Policy
owner_of_empty = with_appointment 1 1 63 0

-- An administrator whose B is a user.
abbrev pub administrator_of_user : Policy
administrator_of_user = with_appointment 3 1 0 1

-- ---- "B is 0 for owners and managers"

abbrev pub owner_with_b : Policy
owner_with_b = with_appointment 1 1 0 1

abbrev pub manager_with_b : Policy
manager_with_b = with_appointment 2 1 0 1

-- ---- "the numbers in its places in use .. all name objects in use of the right sort, no rule has operation set 0", of rules

-- A rule whose U is a user, one whose T is empty, and one of no operation.
abbrev pub user_rule : Policy
user_rule = with_rule 1 0 1

abbrev pub empty_rule : Policy
empty_rule = with_rule 0 63 1

abbrev pub idle_rule : Policy
idle_rule = with_rule 0 0 0

-- ---- "and every object in use has an owner"

-- Object 63 is a target and in no group.
abbrev pub ownerless : Policy
ownerless = with_sorts initial (set initial.sorts 63 3)

-- ---- No fault

-- [02:2.4] What an empty place holds is no fault, and a sort or kind above 3 is an empty place: a policy with object x of sort 4, with an
-- appointment of kind 4 at place i and with a rule that is not in use at place j, both with numbers that may name nothing.
abbrev pub littered : Policy → ℕ → ℕ → ℕ → Policy
littered p x i j =
    ruled
    (appointed (with_sorts p (set p.sorts x 4)) i (record { kind = 4; holder = 9; a = 9; b = 9 }))
    j
    (record { used = false; users = 7; targets = 7; operations = 7 })

-- The founding so, at the last place of each table.
abbrev pub harmless : Policy
harmless = littered initial 63 31 63
