-- What no event changes: gear and N, since each record after an event is the record before or stores a line at the same
-- two; and the whole record, where an event has no effect.
use mathlib.Core.Path.{◌≡◌, refl}
use mathlib.Core.Bool.{Bool, true, false}
use Prim.Native.Nat.{ℕ}
use lib.Dec.{eqb}
use borrow.Author.Tests.{ne_eqb}
use Rattle.reach.specs.declared.Policy.{Policy}
use Rattle.reach.specs.Tests.{◌⇒◌∥◌}
use Rattle.queue.specs.declared.Queue.{Queue}
use Rattle.queue.specs.Line.{Line, free, held, counted, there, is_free, joined_by, left_by, ticked}
use Rattle.queue.specs.Stored.{line_of, queue_of, may_at, code_at, after_join, after_leave, after_tick}
use Rattle.queue.specs.Wait.{Event, join, leave, tick, stepped}
use Rattle.queue.specs.Claims.{SetAtTheStart, NoEffect}

-- ---- Gear and N

stored_gear : (q : Queue) (l : Line) → (queue_of q l).gear ≡ q.gear
stored_gear q free = refl
stored_gear q (held h t ws) = refl

stored_turn : (q : Queue) (l : Line) → (queue_of q l).turn ≡ q.turn
stored_turn q free = refl
stored_turn q (held h t ws) = refl

-- Of a record after an event, with a field that lines do not say.
either : (f : Queue → ℕ) (q : Queue) → ((l : Line) → f (queue_of q l) ≡ f q) → (b : Bool) (l : Line)
    → f (b ⇒ queue_of q l ∥ q) ≡ f q
either f q e true l = e l
either f q e false l = refl

other : (f : Queue → ℕ) (q : Queue) → ((l : Line) → f (queue_of q l) ≡ f q) → (b : Bool) (l : Line)
    → f (b ⇒ q ∥ queue_of q l) ≡ f q
other f q e true l = refl
other f q e false l = e l

kept : (f : Queue → ℕ) (q : Queue) → ((l : Line) → f (queue_of q l) ≡ f q) → (p : Policy) (e : Event)
    → f (stepped q p e) ≡ f q
unfolding stepped after_join after_leave after_tick
kept f q e p (join u) = either f q e (eqb (code_at q p u) 0) (joined_by (may_at q p) (counted q.turn) u (line_of q))
kept f q e p (leave u) = either f q e (there u (line_of q)) (left_by (may_at q p) (counted q.turn) u (line_of q))
kept f q e p tick = other f q e (is_free (line_of q)) (ticked (may_at q p) (counted q.turn) (line_of q))

pub set_at_the_start : (q : Queue) (p : Policy) (e : Event) → SetAtTheStart q p e
set_at_the_start q p e =
    record { gear = kept (λ q. q.gear) q (stored_gear q) p e; turn = kept (λ q. q.turn) q (stored_turn q) p e }

-- ---- No effect

pub no_effect : (q : Queue) (p : Policy) → NoEffect q p
unfolding after_join after_leave after_tick
no_effect q p =
    record { leaving = λ u e. rw e; ticking = λ e. rw e; refused = λ u n. rw (ne_eqb (code_at q p u) 0 n) }
