-- What the program prints: a line for each record, in their order, and one for a torn place.
use Rattle.std.specs.Prelude.{◌≡◌, ◌<◌, Bool, List, [], ◌∷◌, ◌++◌, ℕ, suc, eqb, ltb, length, take}
use Rattle.std.proofs.Common.{arith, sym, ◌∙◌}
use Rattle.std.proofs.lemmas.Bool.{lt-ltb}
use Rattle.std.proofs.lemmas.List.{length-append}
use Rattle.frame.specs.Reading.{records_from, torn_from}
use Rattle.text.specs.Text.{Bytes, decimal, line}
use Rattle.reach.specs.Tests.{◌⇒◌∥◌}
use Rattle.rules.specs.Judging.{code_of, cited_of}
use Rattle.queue.specs.declared.Queue.{Queue}
use Rattle.queue_run.specs.declared.club.Club.{Club}
use Rattle.queue_run.specs.declared.club.Told.{Told}
use Rattle.queue_run.specs.declared.club.Outcome.{Outcome}
use Rattle.queue_run.specs.declared.club.Outcome.TheVariants.{Event, Judged}
use Rattle.queue_run.specs.Program.{founding, told_of}

-- The waiters in their order, a space (32) before each.
unfoldable pub spaced : List ℕ → Bytes
spaced [] = []
spaced (w ∷ ws) = (32 ∷ []) ++ decimal w ++ spaced ws

-- "255 0", of a radio that is free.
abbrev pub free_text : Bytes
free_text = 50 ∷ 53 ∷ 53 ∷ 32 ∷ 48 ∷ []

-- Holder, ticks left and waiters. The mark alone is looked at: the records here come from a start by events, and of
-- those the mark is 1 exactly if the radio is held (`always_stored` of queue).
unfoldable pub queue_text : Queue → Bytes
queue_text q =
    eqb q.held 1 ⇒ decimal q.holder ++ (32 ∷ []) ++ decimal q.left ++ spaced (take q.count q.waiting) ∥ free_text

-- The line of an event: index, code, and the line at the radio after it.
unfoldable pub event_line : ℕ → ℕ → Queue → Bytes
event_line index code q = decimal index ++ (32 ∷ []) ++ decimal code ++ (32 ∷ []) ++ queue_text q ++ (10 ∷ [])

-- The line of a record: of an event, or index, code and cited rule as document 01 has it. q is the line at the radio after the record.
abbrev pub outcome_line : ℕ → Queue → Outcome → Bytes
outcome_line index q (Event code) = event_line index code q
outcome_line index q (Judged v) = line index (code_of v) (cited_of v)

unfoldable pub told_line : ℕ → Told → Bytes
told_line index t = outcome_line index t.club.queue t.outcome

-- The lines of a list of records, the first numbered i and taken in by the club c, each later one by the club that the
-- one before it left; and behind them, if there is one, that of a torn place: [01:runner.11] "its index, 1 and 255".
unfoldable pub lines_of : Club → ℕ → List Bytes → Bool → Bytes
lines_of c i [] torn = torn ⇒ line i 1 255 ∥ []
lines_of c i (b ∷ bs) torn = told_line i (told_of c b) ++ lines_of (told_of c b).club (suc i) bs torn

-- The lines of what stands in the input from a position on.
abbrev pub lines_from : Club → ℕ → Bytes → ℕ → Bytes
lines_from c i input at = lines_of c i (records_from input at) (torn_from input at)

-- "too long" and a line feed.
abbrev pub too_long : Bytes
too_long = 116 ∷ 111 ∷ 111 ∷ 32 ∷ 108 ∷ 111 ∷ 110 ∷ 103 ∷ 10 ∷ []

-- [01:runner.9] "The program reads standard input, at most 65,536 bytes; with more it prints the one line `too long`."
unfoldable pub output : Bytes → Bytes
output input = ltb 65536 (length input) ⇒ too_long ∥ lines_from founding 0 input 0

-- An input past the limit is too long, and so is every longer one that begins so: what is cut off is never missed.
pub output_past : (input : Bytes) → 65536 < length input → output input ≡ too_long
unfolding output
output_past input h = rw (lt-ltb 65536 (length input) h)

pub output_longer : (front rest : Bytes) → 65536 < length front → output (front ++ rest) ≡ output front
output_longer front rest h =
    output_past (front ++ rest) (omega (arith, length-append front rest, h)) ∙ sym (output_past front h)
