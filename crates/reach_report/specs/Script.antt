-- The script that the lines tell of: that of tools/reach_by_hand.py, its changes in their order, from the founding.
use Rattle.std.specs.Prelude.{List, [], ◌∷◌, ◌++◌, ℕ}
use Rattle.reach.specs.declared.Policy.{Policy}
use Rattle.reach.specs.Tables.{initial}
use Rattle.reach.specs.Privileges.{owner, manager, administrator}
use Rattle.reach.specs.Successors.{made, put, taken, appointed, dismissed, granted, withdrawn}

-- A change of a policy, by the successors of reach.
abbrev pub Change : Type 0
Change = Policy → Policy

abbrev pub MAKE : ℕ → ℕ → ℕ → Change
MAKE x sort g p = made p x sort g

abbrev pub PUT : ℕ → ℕ → Change
PUT x g p = put p x g

abbrev pub TAKE : ℕ → ℕ → Change
TAKE x g p = taken p x g

abbrev pub APPOINT : ℕ → ℕ → ℕ → ℕ → ℕ → Change
APPOINT i kind holder a b p = appointed p i (record { kind = kind; holder = holder; a = a; b = b })

abbrev pub DISMISS : ℕ → Change
DISMISS i p = dismissed p i

abbrev pub GRANT : ℕ → ℕ → ℕ → ℕ → Change
GRANT i u t operations p = granted p i u t operations

abbrev pub WITHDRAW : ℕ → Change
WITHDRAW i p = withdrawn p i

-- The policy after the changes, the first of the list first.
abbrev pub changed : List Change → Policy → Policy
changed [] p = p
changed (c ∷ cs) p = changed cs (c p)

-- ---- Sorts, and a number that is neither a sort nor a kind

abbrev pub group : ℕ
group = 1

abbrev pub user : ℕ
user = 2

abbrev pub target : ℕ
target = 3

abbrev pub unknown : ℕ
unknown = 7

-- ---- The script, in its parts

-- Groups, users and targets, each in one group.
abbrev pub objects : List Change
objects =
    MAKE 2 user 0 ∷
    MAKE 3 group 0 ∷
    MAKE 4 group 3 ∷
    MAKE 5 group 4 ∷
    MAKE 6 target 5 ∷
    MAKE 7 target 3 ∷
    MAKE 8 user 4 ∷
    MAKE 9 group 0 ∷
    []

-- A circle of three groups, a group in itself, and a target and a user in two groups.
abbrev pub circles : List Change
circles = PUT 3 5 ∷ PUT 9 9 ∷ PUT 6 9 ∷ PUT 8 9 ∷ []

-- Appointments of each kind, one that a target holds and one of an unknown kind.
abbrev pub appointments : List Change
appointments =
    APPOINT 1 manager 2 3 0 ∷
    APPOINT 2 administrator 8 9 4 ∷
    APPOINT 3 owner 8 9 0 ∷
    APPOINT 4 administrator 8 0 9 ∷
    APPOINT 5 manager 6 0 0 ∷
    APPOINT 6 unknown 2 0 0 ∷
    []

-- Rules of groups, one whose targets are an empty object and one of a user and a target.
abbrev pub rules : List Change
rules = GRANT 0 4 5 6 ∷ GRANT 1 9 9 255 ∷ GRANT 2 0 63 255 ∷ GRANT 3 5 3 4 ∷ GRANT 40 8 6 1 ∷ []

-- An object of an unknown sort, and what is taken away again.
abbrev pub empties : List Change
empties = TAKE 8 4 ∷ MAKE 10 unknown 0 ∷ MAKE 11 group 0 ∷ PUT 10 11 ∷ DISMISS 4 ∷ WITHDRAW 3 ∷ []

-- Memberships that do not count or are cleared, an appointment and a rule whose halves make nothing with another's, and an orphan.
abbrev pub strays : List Change
strays =
    PUT 7 6 ∷
    PUT 2 12 ∷
    PUT 12 3 ∷
    MAKE 12 group 9 ∷
    APPOINT 7 administrator 8 2 9 ∷
    GRANT 41 2 7 6 ∷
    GRANT 5 2 6 32 ∷
    WITHDRAW 5 ∷
    TAKE 11 0 ∷
    []

-- The first unknown sort, a rule at place 0, an appointment at the last place, a user made anew, and a target that nobody owns.
abbrev pub edges : List Change
edges =
    MAKE 10 4 0 ∷
    GRANT 0 9 9 2 ∷
    APPOINT 31 manager 2 9 3 ∷
    MAKE 1 user 12 ∷
    PUT 12 0 ∷
    TAKE 7 3 ∷
    []

abbrev pub script : List Change
script = objects ++ circles ++ appointments ++ rules ++ empties ++ strays ++ edges

-- The policy after the whole script.
abbrev pub scripted : Policy
scripted = changed script initial
