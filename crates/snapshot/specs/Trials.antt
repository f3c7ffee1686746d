-- Two policies and the bytes of their files, written out by hand: what the definitions of Card are tried on.
use Rattle.std.specs.Prelude.{true, false, List, [], ◌∷◌, set, replicate}
use Rattle.reach.specs.declared.Policy.{Policy}
use Rattle.reach.specs.Tables.{no_appointment, no_rule, initial}
use Rattle.reach.specs.Successors.{with_sorts, appointed, ruled}
use Rattle.text.specs.Text.{Bytes}
use Rattle.soundness.specs.Faults.{littered}

-- The founding on a card: group 0, user 1, user 1 in group 0, and at place 0 an owner held by 1 with A = 0.
abbrev pub founding_card : Bytes
founding_card =
    6 ∷ 0 ∷ 16 ∷ 0 ∷ 0 ∷ 1 ∷
    6 ∷ 0 ∷ 16 ∷ 0 ∷ 1 ∷ 2 ∷
    6 ∷ 0 ∷ 17 ∷ 0 ∷ 1 ∷ 0 ∷
    9 ∷ 0 ∷ 18 ∷ 0 ∷ 0 ∷ 1 ∷ 1 ∷ 0 ∷ 0 ∷
    []

-- Its four records.
abbrev pub founding_records : List Bytes
founding_records =
    (6 ∷ 0 ∷ 16 ∷ 0 ∷ 0 ∷ 1 ∷ [])
    ∷ (6 ∷ 0 ∷ 16 ∷ 0 ∷ 1 ∷ 2 ∷ [])
    ∷ (6 ∷ 0 ∷ 17 ∷ 0 ∷ 1 ∷ 0 ∷ [])
    ∷ (9 ∷ 0 ∷ 18 ∷ 0 ∷ 0 ∷ 1 ∷ 1 ∷ 0 ∷ 0 ∷ [])
    ∷ []

-- A policy with all four kinds of record, with two memberships of one object, and with groups 2 and 3 in each other: 1
-- and 4 are in 0, 2 is in 0 and 3, and 3 is in 0 and 2. Its empty places hold zeros.
unfoldable pub club_cleared : Policy
club_cleared =
    record {
      sorts = 1 ∷ 2 ∷ 1 ∷ 1 ∷ 3 ∷ replicate 59 0;
      memberships = 0 ∷ 1 ∷ 9 ∷ 5 ∷ 1 ∷ replicate 59 0;
      appointments =
          set
          (set (replicate 32 no_appointment) 0 (record { kind = 1; holder = 1; a = 0; b = 0 }))
          5
          (record { kind = 3; holder = 1; a = 2; b = 3 });
      rules = set (replicate 64 no_rule) 9 (record { used = true; users = 2; targets = 3; operations = 129 });
    }

-- The same with numbers in three empty places: object 5 is of sort 4, appointment 6 of kind 4, and rule 10 is not in use.
abbrev pub club : Policy
club = littered club_cleared 5 6 10

-- The file of both: nothing of what the empty places hold.
abbrev pub club_card : Bytes
club_card =
    6 ∷ 0 ∷ 16 ∷ 0 ∷ 0 ∷ 1 ∷
    6 ∷ 0 ∷ 16 ∷ 0 ∷ 1 ∷ 2 ∷
    6 ∷ 0 ∷ 16 ∷ 0 ∷ 2 ∷ 1 ∷
    6 ∷ 0 ∷ 16 ∷ 0 ∷ 3 ∷ 1 ∷
    6 ∷ 0 ∷ 16 ∷ 0 ∷ 4 ∷ 3 ∷
    6 ∷ 0 ∷ 17 ∷ 0 ∷ 1 ∷ 0 ∷
    6 ∷ 0 ∷ 17 ∷ 0 ∷ 2 ∷ 0 ∷
    6 ∷ 0 ∷ 17 ∷ 0 ∷ 2 ∷ 3 ∷
    6 ∷ 0 ∷ 17 ∷ 0 ∷ 3 ∷ 0 ∷
    6 ∷ 0 ∷ 17 ∷ 0 ∷ 3 ∷ 2 ∷
    6 ∷ 0 ∷ 17 ∷ 0 ∷ 4 ∷ 0 ∷
    9 ∷ 0 ∷ 18 ∷ 0 ∷ 0 ∷ 1 ∷ 1 ∷ 0 ∷ 0 ∷
    9 ∷ 0 ∷ 18 ∷ 0 ∷ 5 ∷ 3 ∷ 1 ∷ 2 ∷ 3 ∷
    8 ∷ 0 ∷ 19 ∷ 0 ∷ 9 ∷ 2 ∷ 3 ∷ 129 ∷
    []

-- The founding with an empty place that does not hold zeros: an object of sort 4, an appointment of kind 4, a rule that is not in use.
abbrev pub sort_left : Policy
sort_left = with_sorts initial (set initial.sorts 63 4)

abbrev pub appointment_left : Policy
appointment_left = appointed initial 31 (record { kind = 4; holder = 9; a = 9; b = 9 })

abbrev pub rule_left : Policy
rule_left = ruled initial 63 (record { used = false; users = 7; targets = 7; operations = 7 })
