-- 655,360 bytes are enough for what an input of 65,536 bytes prints. Its records take 4 bytes or more, so it has at most
-- 16,384 lines; a line takes at most 40: five digits of an index below 100,000, two of a code, two of a holder, three of
-- the ticks left, three bytes for each of eight waiters, three spaces, a line feed.
use mathlib.Core.Path.{◌≡◌, refl}
use mathlib.Core.Bool.{Bool, true, false, cond}
use mathlib.Core.List.{List, [], ◌∷◌}
use mathlib.Core.Logic.{◌⊎◌, inl, inr}
use Prim.Native.Nat.{ℕ, suc, ◌+◌, ◌*◌, ◌≤◌, ◌<◌, zero-le}
use native.Mathlib.Omega.{arith}
use lib.Dec.{eqb, ltb}
use lib.ListN.{length, take, length-append, length-take}
use borrow.Author.Tests.{eq-eqb, ltb-false}
use Rattle.frame.specs.Fields.{kind_field}
use Rattle.frame.specs.Reading.{records_from, torn_from}
use Rattle.frame.proofs.Records.{records_few}
use Rattle.reach.specs.Tests.{◌⇒◌∥◌}
use Rattle.rules.specs.Judging.{code_of, cited_of, judge}
use Rattle.rules.proofs.Bounded.{code_bounded, cited_bounded}
use Rattle.text.specs.Text.{Bytes, Printed}
use Rattle.text.proofs.Decimals.{decimal_length}
use Rattle.text.proofs.Lengths.{line_length}
use Rattle.text.proofs.Writing.{printed_all}
use Rattle.queue.specs.declared.Queue.{Queue}
use Rattle.queue.specs.Stored.{fit}
use Rattle.queue.proofs.Fitting.{fit_first}
use Rattle.queue.proofs.Saying.{SoundRecord}
use Rattle.queue.proofs.Storing.{Stores, start_stores, join_stores, leave_stores, tick_stores, stores_said}
use Rattle.queue.proofs.Numbers.{turn_few, join_code_few}
use Rattle.queue_run.specs.declared.club.Club.{Club}
use Rattle.queue_run.specs.declared.club.Told.{Told}
use Rattle.queue_run.specs.declared.club.Outcome.{Outcome}
use Rattle.queue_run.specs.declared.club.Outcome.TheVariants.{Event, Judged}
use Rattle.queue_run.specs.Program.{founding, told_of, misfit_told, judged_told, sized}
use Rattle.queue_run.specs.Program.{start_told, join_told, leave_told, tick_told}
use Rattle.queue_run.specs.Output.{spaced, queue_text, event_line, outcome_line, told_line, lines_of, lines_from, too_long, output}

-- ---- What a line is told by

-- The line at the radio is stored as events leave it, and the numbers are those of an answer.
abbrev Few : Outcome → Type 0
Few (Event code) = code ≤ 16
Few (Judged v) = (code_of v ≤ 16) × (cited_of v ≤ 255)

record Plain (t : Told) : Type 0 where
  stores : Stores t.club.queue
  numbers : Few t.outcome

either : (b : Bool) {t s : Told} → Plain t → Plain s → Plain (b ⇒ t ∥ s)
either true h i = h
either false h i = i

told_plain : (c : Club) (b : Bytes) → Stores c.queue → Plain (told_of c b)
unfolding told_of
told_plain c b s =
    either (eqb (kind_field b) 32)
    (own 7 (start_told c b) (record { stores = start_stores _ _; numbers = zero-le }))
    (either (eqb (kind_field b) 33)
    (own 5 (join_told c b) (record { stores = join_stores _ _ _ s; numbers = join_code_few _ _ _ }))
    (either (eqb (kind_field b) 34)
    (own 5 (leave_told c b) (record { stores = leave_stores _ _ _ s; numbers = zero-le }))
    (either (eqb (kind_field b) 35)
    (own 4 (tick_told c) (record { stores = tick_stores _ _ s; numbers = zero-le }))
    judged)))
  where
    own : (n : ℕ) (t : Told) → Plain t → Plain (sized n c b t)
    own n t h =
        either (eqb (length b) n) {t = t} {s = misfit_told c} h
        (record { stores = s; numbers = (omega arith, omega arith) })

    judged : Plain (judged_told c b)
    judged =
        record {
          stores = s;
          numbers = (omega (arith, code_bounded (judge c.policy b).verdict), cited_bounded c.policy b);
        }

-- ---- How long a line is

spaced_length : (ws : List ℕ) → fit ws ≡ true → length (spaced ws) ≤ 3 * length ws
unfolding spaced
spaced_length [] e = zero-le
spaced_length (w ∷ ws) e =
    let first = fit_first w ws e in
    let others = spaced_length ws first.2 in
    simp length-append (omega (arith, decimal_length 1 w (omega (arith, first.0))))

queue_length : (q : Queue) → Stores q → length (queue_text q) ≤ 30
unfolding queue_text
queue_length q s = go (stores_said q s)
  where
    go : SoundRecord q ⊎ (q.held ≡ 0) → length (queue_text q) ≤ 30
    go (inl r) =
        let users = fit_first q.holder (take q.count q.waiting) r.users in
        let few : length (take q.count q.waiting) ≤ 8 = simp length-take (omega (arith, r.few)) in
        let holder = decimal_length 1 q.holder (omega (arith, users.0)) in
        let left = decimal_length 2 q.left (omega (arith, r.within, turn_few q.turn)) in
        let waiters = spaced_length (take q.count q.waiting) users.2 in
        rw (eq-eqb q.held 1 r.marked) (simp length-append (omega arith))
    go (inr e) = rw e (omega arith)

told_length : (i : ℕ) (t : Told) → i < 100000 → Plain t → length (told_line i t) ≤ 40
unfolding told_line event_line
told_length i t h p = go t.outcome p.numbers
  where
    go : (o : Outcome) → Few o → length (outcome_line i t.club.queue o) ≤ 40
    go (Event n) few =
        let index = decimal_length 4 i (omega arith) in
        let code = decimal_length 1 n (omega (arith, few)) in
        let line = queue_length t.club.queue p.stores in
        simp length-append (omega arith)
    go (Judged v) few =
        omega (arith, line_length 4 i (code_of v) (cited_of v) (omega arith) (omega (arith, few.0)) (omega (arith, few.1)))

-- ---- The lines of an input

lines_length : (c : Club) (i : ℕ) (bs : List Bytes) (torn : Bool) → Stores c.queue → i + (length bs + cond torn 1 0) ≤ 100000
    → length (lines_of c i bs torn) ≤ 40 * (length bs + cond torn 1 0)
unfolding lines_of
lines_length c i [] true s h = omega (arith, line_length 4 i 1 255 (omega arith) (omega arith) (omega arith))
lines_length c i [] false s h = zero-le
lines_length c i (b ∷ bs) torn s h =
    let plain = told_plain c b s in
    let first = told_length i (told_of c b) (omega arith) plain in
    let others = lines_length (told_of c b).club (suc i) bs torn plain.stores (omega arith) in
    simp length-append (omega arith)

lines_fit : (input : Bytes) → length input ≤ 65536 → length (lines_from founding 0 input 0) ≤ 655360
lines_fit input h = go (torn_from input 0) (records_few input 0 zero-le)
  where
    records : List Bytes
    records = records_from input 0

    go : (torn : Bool) → 0 + 4 * length records + cond torn 1 0 ≤ length input
        → length (lines_of founding 0 records torn) ≤ 655360
    go true few = omega (arith, lines_length founding 0 records true (start_stores 0 0) (omega arith))
    go false few = omega (arith, lines_length founding 0 records false (start_stores 0 0) (omega arith))

-- What the program prints fits into its buffer, whatever its input.
output_fits : (input : Bytes) → length (output input) ≤ 655360
unfolding output
output_fits input = go (ltb 65536 (length input)) refl
  where
    go : (long : Bool) → ltb 65536 (length input) ≡ long → length (long ⇒ too_long ∥ lines_from founding 0 input 0) ≤ 655360
    go true e = omega arith
    go false e = lines_fit input (ltb-false 65536 (length input) e)

-- So what is printed into a buffer of that size, or a larger one, is all of the text, and nothing is cut off.
pub printed_whole : (input buffer : Bytes) {buffer' : Bytes} {n : ℕ} → 655360 ≤ length buffer
    → Printed buffer (output input) buffer' n
    → take n buffer' ≡ output input
printed_whole input buffer h p = printed_all p (omega (arith, output_fits input))

pub printed_count : (input buffer : Bytes) {buffer' : Bytes} {n : ℕ} → 655360 ≤ length buffer
    → Printed buffer (output input) buffer' n
    → n ≡ length (output input)
printed_count input buffer h p = omega (arith, p.count, output_fits input)
