-- [02:4.9] "The waiting line is one record that stays in its place while events alter it." What a record says, whatever
-- value it has; which record stores a line; and the record after each event.
use Rattle.std.specs.Prelude.{Bool, true, not, ◌&&◌, List, [], ◌∷◌, ◌++◌, ℕ, ◌-◌, eqb, leb, ltb, length, take, replicate}
use Rattle.reach.specs.declared.Policy.{Policy}
use Rattle.reach.specs.Tests.{◌⇒◌∥◌}
use Rattle.access.specs.Using.{use_code}
use Rattle.queue.specs.declared.Queue.{Queue}
use Rattle.queue.specs.Line.{Line, free, held, counted, may_transmit, is_in, there, is_free, joined_by, left_by, ticked, join_code}

-- ---- What a record says

-- None of these is above 63, and none is there twice.
unfoldable pub fit : List ℕ → Bool
fit [] = true
fit (w ∷ ws) = ltb w 64 && not (is_in w ws) && fit ws

-- Those who wait. Places past the count are not looked at.
abbrev pub waiters : Queue → List ℕ
waiters q = take q.count q.waiting

-- The mark is 1, held, and nothing is wrong: [02:4.10] "A record with more than 8 waiters, a member twice (the holder
-- counted), a holder or waiter above 63, .. or a held radio whose ticks left aren't 1 to N counts as an empty line with
-- the radio free." So does one with "waiters while the radio is free": a free line has none.
unfoldable pub is_held : Queue → Bool
is_held q =
    eqb q.held 1 && leb q.count 8 && leb 1 q.left && leb q.left (counted q.turn) && fit (q.holder ∷ waiters q)

unfoldable pub line_of : Queue → Line
line_of q = is_held q ⇒ held q.holder q.left (waiters q) ∥ free

-- ---- Which record stores a line

-- What a line leaves unsaid is 0 (D46).
abbrev pub stored_as : ℕ → ℕ → Line → Queue
stored_as x n free =
    record { gear = x; turn = n; held = 0; holder = 0; left = 0; count = 0; waiting = replicate 8 0 }
stored_as x n (held h t ws) =
    record { gear = x; turn = n; held = 1; holder = h; left = t; count = length ws; waiting = ws ++ replicate (8 - length ws) 0 }

-- [02:4.2] "The gear and N are set at the start": N as it was given, and the line is empty.
abbrev pub start : ℕ → ℕ → Queue
start x n = stored_as x n free

-- Another line at the same gear, with the same N.
abbrev pub queue_of : Queue → Line → Queue
queue_of q l = stored_as q.gear q.turn l

-- ---- The record after each event. [02:4.4] "Each event is given with the club's sheet as it then is": p.

abbrev pub may_at : Queue → Policy → ℕ → Bool
may_at q p u = may_transmit p q.gear u

-- [02:4.13] The number of a join, 0 for an accepted one. The USE refusals are those of a USE of operation 2 on the
-- gear, by u.
unfoldable pub code_at : Queue → Policy → ℕ → ℕ
code_at q p u = join_code (use_code p u q.gear 2) u (line_of q)

-- A record after a join, and the join's number.
pub record Joined : Type 0 where
  pub queue : Queue
  pub code : ℕ

-- [02:4.12] "Leaving by one who is not there, a tick while the radio is free, and a refused join leave the record as it
-- was."
unfoldable pub after_join : Queue → Policy → ℕ → Joined
after_join q p u =
    record {
      queue = eqb (code_at q p u) 0 ⇒ queue_of q (joined_by (may_at q p) (counted q.turn) u (line_of q)) ∥ q;
      code = code_at q p u;
    }

unfoldable pub after_leave : Queue → Policy → ℕ → Queue
after_leave q p u = there u (line_of q) ⇒ queue_of q (left_by (may_at q p) (counted q.turn) u (line_of q)) ∥ q

unfoldable pub after_tick : Queue → Policy → Queue
after_tick q p = is_free (line_of q) ⇒ q ∥ queue_of q (ticked (may_at q p) (counted q.turn) (line_of q))
