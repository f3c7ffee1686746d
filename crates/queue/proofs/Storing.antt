-- From a start the record is the one that stores the line: each event leaves the record as it was, or stores the line
-- that the record after it says.
use mathlib.Core.Path.{◌≡◌, refl, sym, ap, ◌∙◌}
use mathlib.Core.Bool.{Bool, true, false}
use mathlib.Core.Logic.{◌⊎◌, inl, inr}
use mathlib.Core.List.{List, [], ◌∷◌}
use Prim.Native.Nat.{ℕ}
use lib.Dec.{eqb}
use Rattle.reach.specs.declared.Policy.{Policy}
use Rattle.reach.specs.Tests.{◌⇒◌∥◌}
use Rattle.queue.specs.declared.Queue.{Queue}
use Rattle.queue.specs.Line.{Line, free, held, counted, there, is_free, joined_by, left_by, ticked}
use Rattle.queue.specs.Stored.{waiters, is_held, line_of, stored_as, queue_of, start}
use Rattle.queue.specs.Stored.{may_at, code_at, after_join, after_leave, after_tick}
use Rattle.queue.specs.Wait.{Event, join, leave, tick, Given, stepped, run}
use Rattle.queue.specs.Claims.{AlwaysStored}
use Rattle.queue.proofs.Saying.{SoundRecord, sound_record, line_of_after}

module _ (x n : ℕ) where
  stored_gear : (l : Line) → (stored_as x n l).gear ≡ x
  stored_gear free = refl
  stored_gear (held h t ws) = refl

  stored_turn : (l : Line) → (stored_as x n l).turn ≡ n
  stored_turn free = refl
  stored_turn (held h t ws) = refl

  module _ (q : Queue) (s : q ≡ stored_as x n (line_of q)) where
    -- Another line at the gear and with the N of q.
    same : (l : Line) → queue_of q l ≡ stored_as x n l
    same l =
        let g : q.gear ≡ x = ap (λ (q : Queue). q.gear) s ∙ stored_gear (line_of q) in
        let t : q.turn ≡ n = ap (λ (q : Queue). q.turn) s ∙ stored_turn (line_of q) in
        λ i. stored_as (g i) (t i) l

    -- An event with an effect stores the line, and one without leaves the record.
    with_effect : (b : Bool) (l : Line) → line_of (b ⇒ queue_of q l ∥ q) ≡ (b ⇒ l ∥ line_of q)
        → (b ⇒ queue_of q l ∥ q) ≡ stored_as x n (line_of (b ⇒ queue_of q l ∥ q))
    with_effect true l e = same l ∙ ap (stored_as x n) (sym e)
    with_effect false l e = s

    without_effect : (b : Bool) (l : Line) → line_of (b ⇒ q ∥ queue_of q l) ≡ (b ⇒ line_of q ∥ l)
        → (b ⇒ q ∥ queue_of q l) ≡ stored_as x n (line_of (b ⇒ q ∥ queue_of q l))
    without_effect true l e = s
    without_effect false l e = same l ∙ ap (stored_as x n) (sym e)

    stored_after : (p : Policy) (e : Event) → stepped q p e ≡ stored_as x n (line_of (stepped q p e))
    unfolding stepped after_join after_leave after_tick code_at
    stored_after p (join u) =
        with_effect (eqb (code_at q p u) 0) (joined_by (may_at q p) (counted q.turn) u (line_of q)) (line_of_after q p (join u))
    stored_after p (leave u) =
        with_effect (there u (line_of q)) (left_by (may_at q p) (counted q.turn) u (line_of q)) (line_of_after q p (leave u))
    stored_after p tick =
        without_effect (is_free (line_of q)) (ticked (may_at q p) (counted q.turn) (line_of q)) (line_of_after q p tick)

  stored_run : (es : List Given) (q : Queue) → q ≡ stored_as x n (line_of q) → run q es ≡ stored_as x n (line_of (run q es))
  unfolding run
  stored_run [] q s = s
  stored_run (f ∷ es) q s = stored_run es (stepped q f.policy f.event) (stored_after q s f.policy f.event)

pub always_stored : AlwaysStored
unfolding line_of is_held
always_stored x n es = stored_run x n es (start x n) refl

-- ---- Such a record, from event to event

-- The record stores the line that it says.
pub record Stores (q : Queue) : Type 0 where
  pub gear : ℕ
  pub turn : ℕ
  pub same : q ≡ stored_as gear turn (line_of q)

pub start_stores : (x n : ℕ) → Stores (start x n)
unfolding line_of is_held
start_stores x n = record { gear = x; turn = n; same = refl }

event_stores : (q : Queue) (p : Policy) (e : Event) → Stores q → Stores (stepped q p e)
event_stores q p e s = record { gear = s.gear; turn = s.turn; same = stored_after s.gear s.turn q s.same p e }

pub join_stores : (q : Queue) (p : Policy) (u : ℕ) → Stores q → Stores (after_join q p u).queue
unfolding stepped
join_stores q p u = event_stores q p (join u)

pub leave_stores : (q : Queue) (p : Policy) (u : ℕ) → Stores q → Stores (after_leave q p u)
unfolding stepped
leave_stores q p u = event_stores q p (leave u)

pub tick_stores : (q : Queue) (p : Policy) → Stores q → Stores (after_tick q p)
unfolding stepped
tick_stores q p = event_stores q p tick

-- It says a held radio, and then its numbers are those of a sound line; or it is marked as free.
pub stores_said : (q : Queue) → Stores q → SoundRecord q ⊎ (q.held ≡ 0)
unfolding line_of
stores_said q s = go (is_held q) refl s.same
  where
    go : (b : Bool) → is_held q ≡ b
        → q ≡ stored_as s.gear s.turn (b ⇒ held q.holder q.left (waiters q) ∥ free)
        → SoundRecord q ⊎ (q.held ≡ 0)
    go true e f = inl (sound_record q e)
    go false e f = inr (ap (λ (r : Queue). r.held) f)
