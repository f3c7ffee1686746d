-- What the program makes of its records: document 01's are judged on the policy, and four kinds of its own are the
-- events of the line at the radio, each given with the policy as it then is.
use Rattle.std.specs.Prelude.{ℕ, eqb, length, Err}
use Rattle.frame.specs.Fields.{byte, little_endian, kind_field}
use Rattle.text.specs.Text.{Bytes}
use Rattle.reach.specs.Tests.{◌⇒◌∥◌}
use Rattle.reach.specs.Tables.{initial}
use Rattle.rules.specs.declared.Refusal.TheVariants.{Misfit}
use Rattle.rules.specs.Judging.{judge}
use Rattle.queue.specs.declared.Queue.{Queue}
use Rattle.queue.specs.Stored.{start, after_join, after_leave, after_tick}
use Rattle.queue_run.specs.declared.club.Club.{Club}
use Rattle.queue_run.specs.declared.club.Told.{Told}
use Rattle.queue_run.specs.declared.club.Outcome.TheVariants.{Event, Judged}

-- The founding policy; until a START the line is the empty one at gear 0 with N 0.
abbrev pub founding : Club
founding = record { policy = initial; queue = start 0 0 }

-- ---- What is told of a record, and what it leaves

-- An event: the line after it, on the same policy, and its number.
abbrev pub event_told : Club → Queue → ℕ → Told
event_told c q code = record { club = record { policy = c.policy; queue = q }; outcome = Event code }

-- An own kind with a wrong length: a misfit, 3, as for document 01's kinds, and nothing changes.
abbrev pub misfit_told : Club → Told
misfit_told c = record { club = c; outcome = Judged (Err Misfit) }

-- Any other record: the judge's verdict. The line stays as it is.
abbrev pub judged_told : Club → Bytes → Told
judged_told c b =
    record {
      club = record { policy = (judge c.policy b).policy; queue = c.queue };
      outcome = Judged (judge c.policy b).verdict;
    }

-- ---- The program's own kinds. The fields stand from byte 4 on.

-- START: gear, and N, little-endian. The line is set anew.
abbrev pub start_told : Club → Bytes → Told
start_told c b = event_told c (start (byte b 4) (little_endian (byte b 5) (byte b 6))) 0

-- JOIN: user.
abbrev pub join_told : Club → Bytes → Told
join_told c b =
    event_told c (after_join c.queue c.policy (byte b 4)).queue (after_join c.queue c.policy (byte b 4)).code

-- LEAVE: user. A leave has no refusal.
abbrev pub leave_told : Club → Bytes → Told
leave_told c b = event_told c (after_leave c.queue c.policy (byte b 4)) 0

-- TICK.
abbrev pub tick_told : Club → Told
tick_told c = event_told c (after_tick c.queue c.policy) 0

-- A record of an own kind that has n bytes.
abbrev pub sized : ℕ → Club → Bytes → Told → Told
sized n c b told = eqb (length b) n ⇒ told ∥ misfit_told c

-- By its kind: 32 START, 7 bytes; 33 JOIN, 5; 34 LEAVE, 5; 35 TICK, 4. The judge has every other kind.
unfoldable pub told_of : Club → Bytes → Told
told_of c b =
    eqb (kind_field b) 32 ⇒ sized 7 c b (start_told c b) ∥
    eqb (kind_field b) 33 ⇒ sized 5 c b (join_told c b) ∥
    eqb (kind_field b) 34 ⇒ sized 5 c b (leave_told c b) ∥
    eqb (kind_field b) 35 ⇒ sized 4 c b (tick_told c) ∥
    judged_told c b
