-- Document 01's sample, of the rules themselves: judged from the founding, the sixteen records give the sixteen lines; so do those after
-- them, and the records that walk through the traps, who may withdraw, the rows and the limits. By computation.
use mathlib.Core.Path.{◌≡◌, refl}
use mathlib.Core.List.{List, ◌++◌, map}
use Prim.Native.Nat.{ℕ}
use lib.ListN.{take}
use Rattle.reach.specs.declared.Policy.{Policy}
use Rattle.reach.specs.Words.{bit, has}
use Rattle.reach.specs.Tests.{some, lowest_or}
use Rattle.reach.specs.Tables.{counted, sort, stored, appointment, standing, rule, initial}
use Rattle.reach.specs.Reach.{in_use, direct, chain, under}
use Rattle.reach.specs.Privileges.{holds_by, holds, administers_by, administers, permits_by, askable, permitted, permitting, orphaned}
use Rattle.reach.specs.Successors.{with_bit, without_bit, made, put, taken, appointed, ruled}
use Rattle.rules.specs.Records.{length_of, request}
use Rattle.rules.specs.Authority.{may_appoint, may_withdraw, may}
use Rattle.rules.specs.Doing.{after}
use Rattle.rules.specs.Gains.{gives, hands_over}
use Rattle.rules.specs.Refusals.{torn, unknown, misfit, stranger, off_the_sheet, absent, wrong_sort, already_so, no_authority, own_gain}
use Rattle.rules.specs.Refusals.{hand_over, orphan}
use Rattle.rules.specs.Judging.{done, verdict_on, verdict, judge, answers}
use Rattle.rules.specs.Sample.{records, expected, further, further_expected}
use Rattle.rules.specs.Trials.{Trial, record_of, answer_of, traps, withdrawing, rows}
use Rattle.rules.specs.Edges.{last_target, last_group, last_user, gain_first}

-- The answers with every rule open: what is to compute opens this one.
unfoldable pub computed : Policy → List (List ℕ) → List (ℕ × ℕ)
unfolding bit has some lowest_or counted sort stored appointment standing rule in_use direct chain under holds_by holds
    administers_by administers permits_by askable permitted permitting orphaned with_bit without_bit made put taken appointed ruled
    initial length_of request may_appoint may_withdraw may after gives hands_over torn unknown misfit stranger off_the_sheet absent wrong_sort
    already_so no_authority own_gain hand_over orphan done verdict_on verdict judge answers
computed p bs = answers p bs

-- [01:runner.13] [01:runner.14] The sixteen lines of the sample.
pub sample : answers initial records ≡ expected
unfolding computed
sample = refl

-- [01:runner.15] The lines after them.
pub sample_further : answers initial (records ++ further) ≡ expected ++ further_expected
unfolding computed
sample_further = refl

-- After the first n records of the sample the trials are answered as they are to be.
abbrev AnsweredAfter : ℕ → List Trial → Type 0
AnsweredAfter n l = answers initial (take n records ++ map record_of l) ≡ take n expected ++ map answer_of l

-- The traps.
pub sample_traps : AnsweredAfter 15 traps
unfolding computed
sample_traps = refl

-- Who may withdraw, and grant.
pub sample_withdrawing : AnsweredAfter 15 withdrawing
unfolding computed
sample_withdrawing = refl

-- The rows of the table of refusals.
pub sample_rows : AnsweredAfter 15 rows
unfolding computed
sample_rows = refl

-- From the founding: the greatest number of each table, in each field that names one.
pub last_target_answered : AnsweredAfter 0 last_target
unfolding computed
last_target_answered = refl

pub last_group_answered : AnsweredAfter 0 last_group
unfolding computed
last_group_answered = refl

pub last_user_answered : AnsweredAfter 0 last_user
unfolding computed
last_user_answered = refl

-- Own gain before hand-over.
pub gain_first_answered : AnsweredAfter 0 gain_first
unfolding computed
gain_first_answered = refl
