-- Records at the greatest number of each table, and one that two rows of the refusal table refuse, from the founding on: each with the answer
-- that it is to get.
use Rattle.std.specs.Prelude.{List, [], ◌∷◌}
use Rattle.rules.specs.Sample.{MAKE, PUT, TAKE, APPOINT, DISMISS, GRANT, WITHDRAW, USE, ok, no}
use Rattle.rules.specs.Trials.{Trial}

-- [01:no.5] Limits from the side that is accepted: object 63 as a target, a rule at place 63, operation 7, an appointment at place 31.
abbrev pub last_target : List Trial
last_target =
    (MAKE 1 2 2 0, ok) ∷
    (MAKE 1 4 1 0, ok) ∷
    (MAKE 1 3 2 4, ok) ∷
    (MAKE 1 63 3 0, ok) ∷
    (APPOINT 1 1 2 2 0 0, ok) ∷
    (APPOINT 2 31 3 1 4 0, ok) ∷
    (GRANT 1 63 4 0 128, ok) ∷
    (USE 3 63 7, (0, 63)) ∷
    (USE 3 63 8, no 5) ∷
    (WITHDRAW 1 63, ok) ∷
    (USE 3 63 7, no 9) ∷
    (WITHDRAW 1 63, no 6) ∷
    (DISMISS 2 31, ok) ∷
    (DISMISS 2 31, no 6) ∷
    -- Its only membership is not taken away: nobody would own it.
    (TAKE 1 63 0, no 12) ∷
    (PUT 1 63 4, ok) ∷
    (TAKE 1 63 0, ok) ∷
    []

-- Object 63 as a group, in every field that names one; an owner, a manager and an administrator of it; all the operations.
abbrev pub last_group : List Trial
last_group =
    (MAKE 1 2 2 0, ok) ∷
    (MAKE 1 63 1 0, ok) ∷
    (MAKE 1 3 2 63, ok) ∷
    (MAKE 1 4 1 0, ok) ∷
    (PUT 1 2 63, ok) ∷
    (TAKE 1 2 63, ok) ∷
    (PUT 1 63 4, ok) ∷
    (TAKE 1 63 4, ok) ∷
    (APPOINT 1 1 1 2 63 0, ok) ∷
    (APPOINT 1 2 2 2 63 0, ok) ∷
    (APPOINT 2 3 3 1 63 63, ok) ∷
    (GRANT 1 62 63 63 255, ok) ∷
    []

-- Object 63 as a user: put into a group, holder, and sender.
abbrev pub last_user : List Trial
last_user =
    (MAKE 1 63 2 0, ok) ∷
    (MAKE 1 4 1 0, ok) ∷
    (PUT 1 63 4, ok) ∷
    (APPOINT 1 1 2 63 4 0, ok) ∷
    (MAKE 63 8 2 4, ok) ∷
    []

-- [01:no.13] Row 10 before row 11: user 2, putting himself into group 4, would gain a permission, and user 3, who manages 4, would come
-- to manage user 2, whom 2 does not own. With the rule withdrawn row 11 alone is left. Row 12 is of TAKE and DISMISS, and rows 10 and 11 are
-- of neither, so that no request meets it and one of them.
abbrev pub gain_first : List Trial
gain_first =
    (MAKE 1 2 2 0, ok) ∷
    (MAKE 1 3 2 0, ok) ∷
    (MAKE 1 4 1 0, ok) ∷
    (MAKE 1 5 3 0, ok) ∷
    (APPOINT 1 1 2 2 0 0, ok) ∷
    (APPOINT 2 2 3 1 4 0, ok) ∷
    (GRANT 1 1 4 0 8, ok) ∷
    (APPOINT 1 3 2 3 4 0, ok) ∷
    (PUT 2 2 4, no 10) ∷
    (WITHDRAW 1 1, ok) ∷
    (PUT 2 2 4, no 11) ∷
    []
