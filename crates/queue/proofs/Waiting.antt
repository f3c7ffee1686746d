-- Nobody waits for ever. The ticks left of the holder's turn, and a whole turn for each who waits ahead: this sum falls
-- with every tick and grows with no event. While he waits it is at least 1, and at the beginning it is at most (k + 1)
-- N.
use mathlib.Core.Path.{◌≡◌, refl, sym, ap, ◌∙◌, subst}
use mathlib.Core.Bool.{Bool, true, false, ◌||◌, true≢false}
use mathlib.Core.List.{List, [], ◌∷◌, ◌++◌, append_assoc}
use Prim.Native.Nat.{ℕ, suc, ◌+◌, ◌-◌, ◌*◌, ◌<◌, ◌≤◌}
use native.Mathlib.Nat.{mul-le-mul_right, suc-mul}
use native.Mathlib.Numerals.{add-one}
use native.Mathlib.Omega.{arith}
use lib.Dec.{eqb}
use lib.ListN.{length}
use borrow.Author.Tests.{ne_eqb, eqb-true, eqb-false}
use Rattle.reach.specs.declared.Policy.{Policy}
use Rattle.reach.specs.Tests.{◌⇒◌∥◌}
use Rattle.queue.specs.declared.Queue.{Queue}
use Rattle.queue.specs.Line.{Line, held, counted, is_in, without, there, called, join_code}
use Rattle.queue.specs.Stored.{line_of, start, may_at}
use Rattle.queue.specs.Wait.{Event, join, leave, tick, Given, stepped, run, tick_of, ticks, Waits}
use Rattle.queue.specs.Wait.{Ended, holds, leaves, struck, Within, WaitBound, WaitBoundAny}
use Rattle.queue.specs.Claims.{SoundHeld, SoundLine}
use Rattle.queue.proofs.Placing.{without_length}
use Rattle.queue.proofs.Fitting.{fit_first, not_without}
use Rattle.queue.proofs.Saying.{line_sound, line_after, refusal_at, line_of_after}
use Rattle.queue.proofs.Keeping.{set_at_the_start}
use Rattle.queue.proofs.Calling.{AtCall, gets, nearer, falls, at_call, not_called, later_not, waits_in, without_other}

-- ---- Turns

turns_fewer : (a b n : ℕ) → a ≤ b → a * n ≤ b * n
turns_fewer a b n h = mul-le-mul_right n h

turns_less : (a b n : ℕ) → a < b → n + a * n ≤ b * n
turns_less a b n h = let m : suc a * n ≤ b * n = mul-le-mul_right n h in omega (arith, suc-mul a n)

-- ---- One event

-- Who leaves, counted from 1; 0 for no leave.
leaver : Event → ℕ
leaver (join v) = 0
leaver (leave v) = suc v
leaver tick = 0

tick_stays : {u : ℕ} → tick ≡ leave u → ⊥
unfolding leaver
tick_stays e = omega (arith, ap leaver e)

other_stays : {u v : ℕ} → (u ≡ v → ⊥) → leave v ≡ leave u → ⊥
unfolding leaver
other_stays n e = n (omega (arith, ap leaver e))

-- After the event the waiting of u has ended; or he waits on, and ticks left and turns ahead come to at most m, the
-- event's tick counted.
data Next (q : Queue) (p : Policy) (e : Event) (u m : ℕ) : Type 0 where
  done : Ended q p e u → Next q p e u m
  on : (k : ℕ) (w : Waits (stepped q p e) u k) → tick_of e + (w.left + k * counted q.turn) ≤ m → Next q p e u m

module _ (q : Queue) (p : Policy) (u k h t : ℕ) (ahead behind : List ℕ) (line : line_of q ≡ held h t (ahead ++ u ∷ behind))
    (many : length ahead ≡ k) where
  abbrev n : ℕ
  n = counted q.turn

  abbrev ws : List ℕ
  ws = ahead ++ u ∷ behind

  sound : SoundHeld n h t ws
  sound = subst (λ (l : Line). SoundLine n l) line (line_sound q)

  after : (e : Event) → line_of (stepped q p e) ≡ line_after (refusal_at q p) (may_at q p) n e (held h t ws)
  after e = line_of_after q p e ∙ ap (λ (l : Line). line_after (refusal_at q p) (may_at q p) n e l) line

  not_holder : eqb h u ≡ false
  not_holder =
      ne_eqb h u (λ e. true≢false
      (sym (waits_in u ahead behind) ∙ sym (ap (λ (x : ℕ). is_in x ws) e) ∙ (fit_first h ws sound.users).1))

  by_call : (e : Event) → (e ≡ leave u → ⊥) → tick_of e ≤ t → line_of (stepped q p e) ≡ called (may_at q p) n ws → Next q p e u (t + k * n)
  by_call e stays small c = go (at_call (may_at q p) n u behind ahead)
    where
      go : AtCall (may_at q p) n u ahead behind → Next q p e u (t + k * n)
      go (gets f) = done (holds (record { left = n; waiting = behind; line = c ∙ f }))
      go (nearer w less f g) =
          let few : n + length less * n ≤ k * n = turns_less (length less) k n (omega arith) in
          on (length less) (record { holder = w; left = n; ahead = less; behind = behind; line = c ∙ f; many = refl })
          (omega arith)
      go (falls f g) =
          let gone = later_not u ahead behind (fit_first h ws sound.users).2 in
          done (struck stays f (ap (there u) (c ∙ g) ∙ not_called (may_at q p) n u behind gone))

  next_tick : Next q p tick u (t + k * n)
  next_tick = go (eqb t 1) refl (after tick)
    where
      go : (b : Bool) → eqb t 1 ≡ b → line_of (stepped q p tick) ≡ (b ⇒ called (may_at q p) n ws ∥ held h (t - 1) ws)
          → Next q p tick u (t + k * n)
      go true e c = let one : t ≡ 1 = eqb-true t 1 e in by_call tick tick_stays (omega arith) c
      go false e c =
          let some : 1 ≤ t = sound.some in
          on k (record { holder = h; left = t - 1; ahead = ahead; behind = behind; line = c; many = many }) (omega arith)

  next_join : (v : ℕ) → Next q p (join v) u (t + k * n)
  next_join v = go (eqb (join_code (refusal_at q p v) v (held h t ws)) 0) (after (join v))
    where
      go : (b : Bool) → line_of (stepped q p (join v)) ≡ (b ⇒ held h t (ws ++ v ∷ []) ∥ held h t ws)
          → Next q p (join v) u (t + k * n)
      go true c =
          on k
          (record {
            holder = h;
            left = t;
            ahead = ahead;
            behind = behind ++ v ∷ [];
            line = c ∙ ap (held h t) (append_assoc ahead (u ∷ behind) (v ∷ []));
            many = many;
          })
          (omega arith)
      go false c = on k (record { holder = h; left = t; ahead = ahead; behind = behind; line = c; many = many })
          (omega arith)

  next_leave : (v : ℕ) → Next q p (leave v) u (t + k * n)
  next_leave v = go (eqb u v) refl (eqb h v) refl (is_in v ws) (after (leave v))
    where
      gone : u ≡ v → there u (line_of (stepped q p (leave v))) ≡ false
      gone e =
          let c : line_of (stepped q p (leave u)) ≡ held h t (without u ws) =
          after (leave u) ∙ rw (not_holder, waits_in u ahead behind) in
          rw (← e, c, not_holder) (not_without u ws)

      go : (a : Bool) → eqb u v ≡ a → (b : Bool) → eqb h v ≡ b → (d : Bool)
          → line_of (stepped q p (leave v))
          ≡ (b || d ⇒ b ⇒ called (may_at q p) n ws ∥ held h t (without v ws) ∥ held h t ws)
          → Next q p (leave v) u (t + k * n)
      go true f b g d c = let e : u ≡ v = eqb-true u v f in done (leaves (ap leave (sym e)) (gone e))
      go false f true g d c = by_call (leave v) (other_stays (eqb-false u v f)) (omega arith) c
      go false f false g true c =
          let few : length (without v ahead) * n ≤ k * n =
          turns_fewer (length (without v ahead)) k n (omega (arith, without_length v ahead)) in
          on (length (without v ahead))
          (record {
            holder = h;
            left = t;
            ahead = without v ahead;
            behind = without v behind;
            line = c ∙ ap (held h t) (without_other v u ahead behind (eqb-false u v f));
            many = refl;
          })
          (omega arith)
      go false f false g false c =
          on k (record { holder = h; left = t; ahead = ahead; behind = behind; line = c; many = many }) (omega arith)

next : (q : Queue) (p : Policy) (e : Event) (u k : ℕ) (w : Waits q u k) → Next q p e u (w.left + k * counted q.turn)
next q p (join v) u k w = next_join q p u k w.holder w.left w.ahead w.behind w.line w.many v
next q p (leave v) u k w = next_leave q p u k w.holder w.left w.ahead w.behind w.line w.many v
next q p tick u k w = next_tick q p u k w.holder w.left w.ahead w.behind w.line w.many

-- ---- A list of events

some_left : (q : Queue) (u k : ℕ) (w : Waits q u k) → (1 ≤ w.left) × (w.left ≤ counted q.turn)
some_left q u k w =
    let s : SoundHeld (counted q.turn) w.holder w.left (w.ahead ++ u ∷ w.behind) =
    subst (λ (l : Line). SoundLine (counted q.turn) l) w.line (line_sound q) in
    (s.some, s.within)

tick_one : (e : Event) → tick_of e ≤ 1
tick_one (join u) = omega arith
tick_one (leave u) = omega arith
tick_one tick = omega arith

wait : (fs : List Given) (q : Queue) (u k m : ℕ) (w : Waits q u k) → w.left + k * counted q.turn ≤ m → m ≤ ticks fs
    → Within q fs u m
unfolding ticks run
wait [] q u k m w a b = let s : 1 ≤ w.left = (some_left q u k w).0 in absurd (omega arith)
wait (f ∷ fs) q u k m w a b =
    go (next q f.policy f.event u k w) (λ j v r x y. wait fs (stepped q f.policy f.event) u j r v x y)
  where
    later : (r : ℕ) → tick_of f.event + r ≤ m → Within (stepped q f.policy f.event) fs u r → Within q (f ∷ fs) u m
    later r h i =
        record {
          before = f ∷ i.before;
          at = i.at;
          after = i.after;
          split = ap (λ (gs : List Given). f ∷ gs) i.split;
          soon = let s : ticks (i.before ++ i.at ∷ []) ≤ r = i.soon in omega arith;
          ahead = i.ahead;
          waited = i.waited;
          ended = i.ended;
        }

    go : Next q f.policy f.event u (w.left + k * counted q.turn)
        → ((j : ℕ) (v : Waits (stepped q f.policy f.event) u j) (r : ℕ)
        → v.left + j * counted (stepped q f.policy f.event).turn ≤ r → r ≤ ticks fs
        → Within (stepped q f.policy f.event) fs u r)
        → Within q (f ∷ fs) u m
    go (done x) again =
        let s : 1 ≤ w.left = (some_left q u k w).0 in
        record {
          before = [];
          at = f;
          after = fs;
          split = refl;
          soon = omega (arith, tick_one f.event);
          ahead = k;
          waited = w;
          ended = x;
        }
    go (on j v x) again =
        let same : counted (stepped q f.policy f.event).turn ≡ counted q.turn =
        ap counted (set_at_the_start q f.policy f.event).turn in
        later (m - tick_of f.event) (omega (arith, tick_one f.event, (some_left q u k w).0))
        (again j v (m - tick_of f.event) (rw same (omega arith)) (omega arith))

turn_kept : (q : Queue) (es : List Given) → (run q es).turn ≡ q.turn
unfolding run
turn_kept q [] = refl
turn_kept q (f ∷ es) = turn_kept (stepped q f.policy f.event) es ∙ (set_at_the_start q f.policy f.event).turn

-- The claim from any record, and from an empty line.
pub wait_bound_any : WaitBoundAny
wait_bound_any q es fs u k w h =
    let now = run q es in
    let same : counted now.turn ≡ counted q.turn = ap counted (turn_kept q es) in
    let s : w.left ≤ counted now.turn = (some_left now u k w).1 in
    let all : (k + 1) * counted q.turn ≡ k * counted q.turn + counted q.turn = rw add-one (suc-mul k (counted q.turn)) in
    wait fs now u k ((k + 1) * counted q.turn) w (rw same (omega (arith, s, same, all))) h

pub wait_bound : WaitBound
wait_bound x n = wait_bound_any (start x n)
