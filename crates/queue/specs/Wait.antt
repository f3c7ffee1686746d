-- Nobody waits for ever: the claim about every list of events.
use Rattle.std.specs.Prelude.{◌≡◌, false, List, [], ◌∷◌, ◌++◌, ℕ, ◌+◌, ◌*◌, ◌≤◌, length}
use Rattle.reach.specs.declared.Policy.{Policy}
use Rattle.queue.specs.declared.Queue.{Queue}
use Rattle.queue.specs.Line.{held, counted, there}
use Rattle.queue.specs.Stored.{line_of, start, may_at, after_join, after_leave, after_tick}

-- ---- Lists of events

-- [02:4.5] "The events are join, leave and a one-second tick."
pub data Event : Type 0 where
  join : ℕ → Event
  leave : ℕ → Event
  tick : Event

-- [02:4.4] "Each event is given with the club's sheet as it then is."
pub record Given : Type 0 where
  pub policy : Policy
  pub event : Event

-- The record after an event.
unfoldable pub stepped : Queue → Policy → Event → Queue
stepped q p (join u) = (after_join q p u).queue
stepped q p (leave u) = after_leave q p u
stepped q p tick = after_tick q p

-- The record after a list of events.
unfoldable pub run : Queue → List Given → Queue
run q [] = q
run q (f ∷ fs) = run (stepped q f.policy f.event) fs

abbrev pub tick_of : Event → ℕ
tick_of (join u) = 0
tick_of (leave u) = 0
tick_of tick = 1

-- How many ticks a list has.
unfoldable pub ticks : List Given → ℕ
ticks [] = 0
ticks (f ∷ fs) = tick_of f.event + ticks fs

-- ---- Who waits and who holds

-- [02:4.11] u is "a waiter with k other waiters ahead of him, the holder not counted".
pub record Waits (q : Queue) (u k : ℕ) : Type 0 where
  pub holder : ℕ
  pub left : ℕ
  pub ahead : List ℕ
  pub behind : List ℕ
  pub line : line_of q ≡ held holder left (ahead ++ u ∷ behind)
  pub many : length ahead ≡ k

pub record Holds (q : Queue) (u : ℕ) : Type 0 where
  pub left : ℕ
  pub waiting : List ℕ
  pub line : line_of q ≡ held u left waiting

-- [02:4.11] What an event did to u, who waited: he "holds the radio, has left, or has been struck". Struck is only one
-- who did not leave and was not permitted on the policy of this very event.
pub data Ended (q : Queue) (p : Policy) (e : Event) (u : ℕ) : Type 0 where
  holds : Holds (stepped q p e) u → Ended q p e u
  leaves : e ≡ leave u → there u (line_of (stepped q p e)) ≡ false → Ended q p e u
  struck : (e ≡ leave u → ⊥) → may_at q p u ≡ false → there u (line_of (stepped q p e)) ≡ false → Ended q p e u

-- ---- The claim

-- At one event of the list, after at most m ticks, its own counted, the waiting of u ended; just before it he waited.
pub record Within (q : Queue) (fs : List Given) (u m : ℕ) : Type 0 where
  pub before : List Given
  pub at : Given
  pub after : List Given
  pub split : fs ≡ before ++ at ∷ after
  pub soon : ticks (before ++ at ∷ []) ≤ m
  pub ahead : ℕ
  pub waited : Waits (run q before) u ahead
  pub ended : Ended (run q before) at.policy at.event u

-- [02:4.11] "For every list of events .., the sheets changing at will between them, a waiter with k other waiters ahead
-- of him, the holder not counted, holds the radio, has left, or has been struck within (k + 1) times N ticks, N as so
-- counted": after any events es from the record q, within any further events fs that have so many ticks.
abbrev pub WaitBoundFrom : Queue → Type 0
WaitBoundFrom q =
    (es fs : List Given) (u k : ℕ) → Waits (run q es) u k → (k + 1) * counted q.turn ≤ ticks fs
    → Within (run q es) fs u ((k + 1) * counted q.turn)

-- [02:4.11] ".. from an empty line". `Queue::start` promises it of the line that it makes.
abbrev pub WaitBound : Type 0
WaitBound = (x n : ℕ) → WaitBoundFrom (start x n)

-- The same from any record.
abbrev pub WaitBoundAny : Type 0
WaitBoundAny = (q : Queue) → WaitBoundFrom q
