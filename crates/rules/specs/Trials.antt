-- Records that go through the traps, through who may withdraw, and through the rows of the refusal table, each with the answer that it is to
-- get. They come after the first fifteen records of the sample: the sixteenth withdraws the rule.
use Rattle.std.specs.Prelude.{List, [], ◌∷◌, ℕ}
use Rattle.rules.specs.Sample.{MAKE, PUT, TAKE, APPOINT, DISMISS, GRANT, WITHDRAW, USE, ok, no}

-- A record and its answer: code and cited.
abbrev pub Trial : Type 0
Trial = List ℕ × (ℕ × ℕ)

abbrev pub record_of : Trial → List ℕ
record_of t = t.0

abbrev pub answer_of : Trial → ℕ × ℕ
answer_of t = t.1

-- [01:traps.1] to [01:traps.5] The traps.
abbrev pub traps : List Trial
traps =
    -- An owner is no manager.
    (APPOINT 1 3 3 3 4 5, no 9) ∷
    -- A repeated permit is no gain, and a new one is.
    (GRANT 3 1 4 5 6, ok) ∷
    (GRANT 3 2 4 5 8, no 10) ∷
    -- A chain of two memberships.
    (MAKE 1 8 1 4, ok) ∷
    (MAKE 1 9 2 8, ok) ∷
    (USE 9 6 2, (0, 0)) ∷
    -- A of one appointment and B of another.
    (APPOINT 2 5 3 9 4 4, ok) ∷
    (APPOINT 2 6 3 9 5 5, ok) ∷
    (GRANT 9 3 4 5 1, no 9) ∷
    -- U of one rule and T of another.
    (MAKE 1 10 1 0, ok) ∷
    (MAKE 1 11 3 10, ok) ∷
    (MAKE 1 12 1 0, ok) ∷
    (APPOINT 2 7 3 3 12 10, ok) ∷
    (GRANT 3 4 12 10 6, ok) ∷
    (USE 9 11 2, no 9) ∷
    -- Authority on the sheet after.
    (APPOINT 1 8 2 7 5 0, ok) ∷
    (PUT 7 2 5, no 9) ∷
    -- A circle of two groups.
    (PUT 1 4 8, ok) ∷
    (USE 9 6 2, (0, 0)) ∷
    []

-- [02:1.2] "WITHDRAW is accepted from a member who administers (U, T) or who owns T." [02:1.4] "GRANT keeps its condition."
abbrev pub withdrawing : List Trial
withdrawing =
    -- A manager of T may not, nor who is permitted by the rule, nor an owner of a group inside T.
    (WITHDRAW 2 0, no 9) ∷
    (WITHDRAW 7 0, no 9) ∷
    (MAKE 1 8 1 5, ok) ∷
    (APPOINT 1 3 1 7 8 0, ok) ∷
    (WITHDRAW 7 0, no 9) ∷
    -- An owner of U may not, and grants nothing by it.
    (APPOINT 1 4 1 2 4 0, ok) ∷
    (WITHDRAW 2 0, no 9) ∷
    (GRANT 2 1 4 5 1, no 9) ∷
    -- An owner of T may, and grants nothing by it; nor does an owner of both.
    (APPOINT 1 5 1 7 5 0, ok) ∷
    (GRANT 7 1 4 5 1, no 9) ∷
    (WITHDRAW 7 0, ok) ∷
    (USE 7 6 2, no 9) ∷
    (GRANT 1 0 4 5 6, no 9) ∷
    -- An administrator who owns nothing may.
    (MAKE 1 9 2 0, ok) ∷
    (APPOINT 2 6 3 9 4 5, ok) ∷
    (GRANT 9 0 4 5 6, ok) ∷
    (USE 7 6 2, (0, 0)) ∷
    (WITHDRAW 9 0, ok) ∷
    (USE 7 6 2, no 9) ∷
    []

-- Rows 1 to 10 of the table of refusals, most of them tried where a later row would apply too, and the requests that undo, done.
abbrev pub rows : List Trial
rows =
    -- Torn: no bytes, three bytes, one too few, one too many.
    ([], no 1) ∷
    (7 ∷ 0 ∷ 8 ∷ [], no 1) ∷
    (8 ∷ 0 ∷ 8 ∷ 0 ∷ 7 ∷ 6 ∷ 2 ∷ [], no 1) ∷
    (6 ∷ 0 ∷ 8 ∷ 0 ∷ 7 ∷ 6 ∷ 2 ∷ [], no 1) ∷
    -- Unknown: kinds 0, 9 and 0x0101.
    (6 ∷ 0 ∷ 0 ∷ 0 ∷ 1 ∷ 0 ∷ [], no 2) ∷
    (6 ∷ 0 ∷ 9 ∷ 0 ∷ 1 ∷ 0 ∷ [], no 2) ∷
    (8 ∷ 0 ∷ 1 ∷ 1 ∷ 1 ∷ 8 ∷ 2 ∷ 0 ∷ [], no 2) ∷
    -- Misfit: a USE without its bytes, a MAKE with a byte too many.
    (4 ∷ 0 ∷ 8 ∷ 0 ∷ [], no 3) ∷
    (9 ∷ 0 ∷ 1 ∷ 0 ∷ 1 ∷ 8 ∷ 2 ∷ 0 ∷ 0 ∷ [], no 3) ∷
    -- Stranger: a number past the table, though its place is too; an empty object; a target.
    (MAKE 64 64 2 0, no 4) ∷
    (MAKE 8 8 2 0, no 4) ∷
    (USE 6 6 2, no 4) ∷
    -- Off the sheet: each number outside its table, and each value that is none; the places of MAKE and APPOINT are in `Sample.further`.
    (MAKE 1 8 0 0, no 5) ∷
    (MAKE 1 8 4 0, no 5) ∷
    (MAKE 1 8 2 64, no 5) ∷
    (PUT 1 64 9, no 5) ∷
    (PUT 1 3 64, no 5) ∷
    (TAKE 1 64 4, no 5) ∷
    (TAKE 1 3 64, no 5) ∷
    (APPOINT 1 3 0 3 4 0, no 5) ∷
    (APPOINT 1 3 4 3 4 0, no 5) ∷
    (APPOINT 1 3 2 3 4 5, no 5) ∷
    (APPOINT 2 3 3 3 4 64, no 5) ∷
    (APPOINT 1 3 2 64 4 0, no 5) ∷
    (APPOINT 1 3 2 3 64 0, no 5) ∷
    (DISMISS 1 32, no 5) ∷
    (GRANT 3 64 4 5 1, no 5) ∷
    (GRANT 3 1 64 5 1, no 5) ∷
    (GRANT 3 1 4 64 1, no 5) ∷
    (GRANT 3 1 4 5 0, no 5) ∷
    (WITHDRAW 3 64, no 5) ∷
    (USE 7 64 2, no 5) ∷
    (USE 7 6 8, no 5) ∷
    -- Absent: MAKE into its own empty place; each empty object; each empty place; before a wrong sort.
    (MAKE 1 8 1 8, no 6) ∷
    (PUT 1 8 4, no 6) ∷
    (PUT 1 3 8, no 6) ∷
    (TAKE 1 8 4, no 6) ∷
    (TAKE 1 3 8, no 6) ∷
    (APPOINT 1 3 2 8 4 0, no 6) ∷
    (APPOINT 1 3 2 3 8 0, no 6) ∷
    (APPOINT 2 3 3 3 4 8, no 6) ∷
    (DISMISS 1 3, no 6) ∷
    (GRANT 3 1 8 5 1, no 6) ∷
    (GRANT 3 1 6 8 1, no 6) ∷
    (WITHDRAW 3 1, no 6) ∷
    (USE 7 8 2, no 6) ∷
    -- Wrong sort: before a place in use.
    (MAKE 1 2 2 6, no 7) ∷
    (PUT 1 3 7, no 7) ∷
    (TAKE 1 3 7, no 7) ∷
    (APPOINT 1 1 2 4 4 0, no 7) ∷
    (APPOINT 2 3 3 3 4 6, no 7) ∷
    (GRANT 3 0 4 6 1, no 7) ∷
    (USE 7 5 2, no 7) ∷
    -- Already so: before the authority of user 7, who has none.
    (MAKE 7 2 2 0, no 8) ∷
    (PUT 7 3 4, no 8) ∷
    (TAKE 7 3 5, no 8) ∷
    (APPOINT 7 1 2 3 4 0, no 8) ∷
    (GRANT 7 0 4 5 1, no 8) ∷
    -- No authority: nobody gets it by the change itself.
    (MAKE 7 8 2 0, no 9) ∷
    (PUT 7 2 4, no 9) ∷
    (TAKE 7 3 4, no 9) ∷
    (APPOINT 2 3 2 3 4 0, no 9) ∷
    (APPOINT 7 3 1 7 5 0, no 9) ∷
    (DISMISS 1 2, no 9) ∷
    (GRANT 7 1 4 5 1, no 9) ∷
    (WITHDRAW 7 0, no 9) ∷
    (USE 2 6 2, no 9) ∷
    -- Own gain by PUT: the users of a rule.
    (PUT 1 1 4, no 10) ∷
    -- A TAKE, a WITHDRAW and two DISMISS that are done, and what they leave.
    (TAKE 2 3 4, ok) ∷
    (USE 3 6 2, no 9) ∷
    (WITHDRAW 3 0, ok) ∷
    (USE 7 6 2, no 9) ∷
    (DISMISS 2 2, ok) ∷
    (DISMISS 1 1, ok) ∷
    (DISMISS 1 1, no 6) ∷
    (GRANT 3 0 4 5 6, no 9) ∷
    []
