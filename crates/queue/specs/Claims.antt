-- What else holds of every record and every event, each as a claim (proved in proofs/Saying, Keeping, Storing and
-- Claimed).
use Rattle.std.specs.Prelude.{◌≡◌, true, false, List, [], ◌∷◌, ℕ, ◌-◌, ◌≤◌, ◌<◌, length}
use Rattle.reach.specs.declared.Policy.{Policy}
use Rattle.queue.specs.declared.Queue.{Queue}
use Rattle.queue.specs.Line.{Line, free, held, counted, there, called}
use Rattle.queue.specs.Stored.{fit, line_of, stored_as, start, may_at, after_join, after_leave, after_tick}
use Rattle.queue.specs.Wait.{Event, leave, Given, stepped, run, ticks}

-- At most 8 wait; 1 to n ticks are left; holder and waiters are numbers up to 63, and none of them is there twice.
pub record SoundHeld (n h t : ℕ) (ws : List ℕ) : Type 0 where
  pub few : length ws ≤ 8
  pub some : 1 ≤ t
  pub within : t ≤ n
  pub users : fit (h ∷ ws) ≡ true

abbrev pub SoundLine : ℕ → Line → Type 0
SoundLine n free = Unit {0}
SoundLine n (held h t ws) = SoundHeld n h t ws

-- What a record says is a sound line, whatever value it has.
abbrev pub AlwaysSound : Type 0
AlwaysSound = (q : Queue) → SoundLine (counted q.turn) (line_of q)

-- What events leave from a start is the record that stores the line: the mark is 1 exactly if the radio is held, and
-- what the line leaves unsaid is 0 (D46).
abbrev pub AlwaysStored : Type 0
AlwaysStored = (x n : ℕ) (es : List Given) → run (start x n) es ≡ stored_as x n (line_of (run (start x n) es))

-- [02:4.2] "The gear and N are set at the start", and no event changes them.
pub record SetAtTheStart (q : Queue) (p : Policy) (e : Event) : Type 0 where
  pub gear : (stepped q p e).gear ≡ q.gear
  pub turn : (stepped q p e).turn ≡ q.turn

-- [02:4.12] "Leaving by one who is not there, a tick while the radio is free, and a refused join leave the record as it
-- was."
pub record NoEffect (q : Queue) (p : Policy) : Type 0 where
  pub leaving : (u : ℕ) → there u (line_of q) ≡ false → after_leave q p u ≡ q
  pub ticking : line_of q ≡ free → after_tick q p ≡ q
  pub refused : (u : ℕ) → ((after_join q p u).code ≡ 0 → ⊥) → (after_join q p u).queue ≡ q

-- Who joins while the radio is free, and is not refused, holds it for a whole turn, and nobody else is in the line.
abbrev pub JoinerHolds : Type 0
JoinerHolds =
    (q : Queue) (p : Policy) (u : ℕ) → line_of q ≡ free → (after_join q p u).code ≡ 0
    → line_of (after_join q p u).queue ≡ held u (counted q.turn) []

-- u leaves at no event of the list.
pub data Stays (u : ℕ) : List Given → Type 0 where
  none : Stays u []
  more : {f : Given} {fs : List Given} → (f.event ≡ leave u → ⊥) → Stays u fs → Stays u (f ∷ fs)

-- u holds the radio, and so many ticks are left of his turn.
pub record HoldsFor (q : Queue) (u t : ℕ) : Type 0 where
  pub waiting : List ℕ
  pub line : line_of q ≡ held u t waiting

-- [02:4.8] "A holder keeps his turn though his permit ends", and [02:4.3] it ends no earlier than with its last tick:
-- whatever the policies of the events permit, a holder who does not leave holds the radio until the ticks left have
-- gone by.
abbrev pub HolderKeeps : Type 0
HolderKeeps =
    (q : Queue) (fs : List Given) (u t : ℕ) → HoldsFor q u t → Stays u fs → ticks fs < t → HoldsFor (run q fs) u (t - ticks fs)

-- [02:4.3] "A turn ends at the N-th tick after it began", and no later: the tick that leaves none ends the turn, and a
-- call follows.
abbrev pub TurnEnds : Type 0
TurnEnds =
    (q : Queue) (p : Policy) (u : ℕ) (ws : List ℕ) → line_of q ≡ held u 1 ws
    → line_of (after_tick q p) ≡ called (may_at q p) (counted q.turn) ws
