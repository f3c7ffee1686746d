-- The record after an event says the line after it: each event keeps a line sound, and the record that stores a sound
-- line says that line.
use mathlib.Core.Path.{◌≡◌, refl}
use mathlib.Core.Bool.{Bool, true, false, not, ◌&&◌}
use mathlib.Core.List.{List, [], ◌∷◌, ◌++◌}
use Prim.Native.Nat.{ℕ, ◌-◌, ◌<◌, ◌≤◌}
use native.Mathlib.Omega.{arith}
use lib.Dec.{ltb, leb, eqb}
use lib.ListN.{length, replicate, length-append, length-take}
use lib.Seq.{take-append_seam}
use borrow.Author.Tests.{le-leb, leb-true, eqb-true, eqb-false}
use Rattle.reach.specs.declared.Policy.{Policy}
use Rattle.reach.specs.Tests.{◌⇒◌∥◌}
use Rattle.reach.proofs.Testing.{decides_eqb}
use Rattle.reach.proofs.Deciding.{user_below}
use Rattle.access.specs.Using.{use_code}
use Rattle.access.proofs.UseTable.{use_decides}
use Rattle.queue.specs.declared.Queue.{Queue}
use Rattle.queue.specs.Line.{Line, free, held, counted, is_in, without, there, full, is_free, called, joined_by, left_by}
use Rattle.queue.specs.Line.{ticked, join_code}
use Rattle.queue.specs.Stored.{fit, waiters, is_held, line_of, queue_of, may_at, code_at, after_join, after_leave, after_tick}
use Rattle.queue.specs.Wait.{Event, join, leave, tick, stepped}
use Rattle.queue.specs.Claims.{SoundLine, AlwaysSound}
use Rattle.queue.proofs.Placing.{without_length}
use Rattle.queue.proofs.Fitting.{and_parts, or_parts, fit_first, fit_made, fit_none, in_end, fit_end, in_without}
use Rattle.queue.proofs.Fitting.{fit_without}

-- ---- What a record says is sound

-- What a record has that says a held radio.
pub record SoundRecord (q : Queue) : Type 0 where
  pub marked : q.held ≡ 1
  pub few : q.count ≤ 8
  pub some : 1 ≤ q.left
  pub within : q.left ≤ counted q.turn
  pub users : fit (q.holder ∷ waiters q) ≡ true

pub sound_record : (q : Queue) → is_held q ≡ true → SoundRecord q
unfolding is_held
sound_record q e =
    let a : _ = and_parts (eqb q.held 1 && leb q.count 8 && leb 1 q.left && leb q.left (counted q.turn))
    (fit (q.holder ∷ waiters q)) e in
    let b : _ = and_parts (eqb q.held 1 && leb q.count 8 && leb 1 q.left) (leb q.left (counted q.turn))
    a.0 in
    let c : _ = and_parts (eqb q.held 1 && leb q.count 8) (leb 1 q.left) b.0 in
    let d : _ = and_parts (eqb q.held 1) (leb q.count 8) c.0 in
    record {
      marked = eqb-true _ _ d.0;
      few = leb-true _ _ d.1;
      some = leb-true _ _ c.1;
      within = leb-true _ _ b.1;
      users = a.1;
    }

pub turn_some : (n : ℕ) → 1 ≤ counted n
unfolding counted
turn_some n = go (eqb n 0) refl (ltb 600 n)
  where
    go : (a : Bool) → eqb n 0 ≡ a → (b : Bool) → 1 ≤ (a ⇒ 1 ∥ b ⇒ 600 ∥ n)
    go true e b = omega arith
    go false e true = omega arith
    go false e false = let f : n ≡ 0 → ⊥ = eqb-false n 0 e in omega arith

pub line_sound : AlwaysSound
unfolding line_of
line_sound q = go (is_held q) refl
  where
    go : (b : Bool) → is_held q ≡ b → SoundLine (counted q.turn) (b ⇒ held q.holder q.left (waiters q) ∥ free)
    go false e = tt
    go true e =
        let s : SoundRecord q = sound_record q e in
        record { few = simp length-take (omega arith); some = s.some; within = s.within; users = s.users }

-- The record that stores a sound line says that line.
pub line_again : (q : Queue) (l : Line) → SoundLine (counted q.turn) l → line_of (queue_of q l) ≡ l
unfolding line_of is_held
line_again q free s = refl
line_again q (held h t ws) s =
    simp (
      le-leb _ _ s.few,
      le-leb _ _ s.some,
      le-leb _ _ s.within,
      take-append_seam ws (replicate (8 - length ws) 0),
      s.users,
    )

-- ---- Each event keeps a line sound

module _ (may : ℕ → Bool) (n : ℕ) (one : 1 ≤ n) where
  pub called_sound : (ws : List ℕ) → length ws ≤ 8 → fit ws ≡ true → SoundLine n (called may n ws)
  unfolding called
  called_sound [] a b = tt
  called_sound (w ∷ ws) a b = go (may w) (called_sound ws (omega arith) (fit_first w ws b).2)
    where
      go : (t : Bool) → SoundLine n (called may n ws) → SoundLine n (t ⇒ held w n ws ∥ called may n ws)
      go true s = record { few = omega arith; some = one; within = omega arith; users = b }
      go false s = s

  pub joined_sound : (u : ℕ) (l : Line) → u < 64 → SoundLine n l → there u l ≡ false → full l ≡ false
      → SoundLine n (joined_by may n u l)
  unfolding is_in
  joined_sound u free a s t f = called_sound (u ∷ []) (omega arith) (fit_made u [] a refl fit_none)
  joined_sound u (held h t ws) a s o f =
      let ne : length ws ≡ 8 → ⊥ = eqb-false (length ws) 8 f in
      let few : length ws ≤ 8 = s.few in
      let p : _ = fit_first h ws s.users in
      let q : _ = or_parts (eqb h u) (is_in u ws) o in
      record {
        few = simp length-append (omega arith);
        some = s.some;
        within = s.within;
        users = fit_made h (ws ++ u ∷ []) p.0 (in_end h u ws q.0 p.1) (fit_end u ws a q.1 p.2);
      }

  pub left_sound : (u : ℕ) (l : Line) → SoundLine n l → SoundLine n (left_by may n u l)
  left_sound u free s = tt
  left_sound u (held h t ws) s = go (eqb h u)
    where
      p : (h < 64) × (is_in h ws ≡ false) × (fit ws ≡ true)
      p = fit_first h ws s.users

      go : (b : Bool) → SoundLine n (b ⇒ called may n ws ∥ held h t (without u ws))
      go true = called_sound ws s.few p.2
      go false =
          let few : length ws ≤ 8 = s.few in
          record {
            few = omega (arith, without_length u ws);
            some = s.some;
            within = s.within;
            users = fit_made h (without u ws) p.0 (in_without h u ws p.1) (fit_without u ws p.2);
          }

  pub ticked_sound : (l : Line) → SoundLine n l → SoundLine n (ticked may n l)
  ticked_sound free s = tt
  ticked_sound (held h t ws) s = go (eqb t 1) refl
    where
      go : (b : Bool) → eqb t 1 ≡ b → SoundLine n (b ⇒ called may n ws ∥ held h (t - 1) ws)
      go true e = called_sound ws s.few (fit_first h ws s.users).2
      go false e =
          let ne : t ≡ 1 → ⊥ = eqb-false t 1 e in
          let some : 1 ≤ t = s.some in
          let within : t ≤ n = s.within in
          record { few = s.few; some = omega arith; within = omega arith; users = s.users }

-- ---- The line after an event

-- An event on a line; `refusal` gives the number of each one's USE refusal.
abbrev pub line_after : (ℕ → ℕ) → (ℕ → Bool) → ℕ → Event → Line → Line
line_after refusal may n (join u) l = eqb (join_code (refusal u) u l) 0 ⇒ joined_by may n u l ∥ l
line_after refusal may n (leave u) l = there u l ⇒ left_by may n u l ∥ l
line_after refusal may n tick l = is_free l ⇒ l ∥ ticked may n l

abbrev pub refusal_at : Queue → Policy → ℕ → ℕ
refusal_at q p u = use_code p u q.gear 2

-- Who is not refused has a number of the table.
accepted_number : (p : Policy) (x u : ℕ) → use_code p u x 2 ≡ 0 → u < 64
accepted_number p x u e = user_below p u ((use_decides p u x 2).sound ((decides_eqb _ 0).complete e)).user

-- What an accepted join has passed.
pub accepted_join : (c u : ℕ) (l : Line) → join_code c u l ≡ 0 → (c ≡ 0) × (there u l ≡ false) × (full l ≡ false)
accepted_join c u l e = go (eqb c 0) refl (there u l) (full l) e
  where
    go : (a : Bool) → eqb c 0 ≡ a → (b d : Bool) → (not a ⇒ c ∥ b ⇒ 15 ∥ d ⇒ 16 ∥ 0) ≡ 0
        → (c ≡ 0) × (b ≡ false) × (d ≡ false)
    go true f true d z = absurd (omega arith)
    go true f false true z = absurd (omega arith)
    go true f false false z = (eqb-true c 0 f, refl, refl)
    go false f b d z = absurd (eqb-false c 0 f z)

pub line_of_after : (q : Queue) (p : Policy) (e : Event)
    → line_of (stepped q p e) ≡ line_after (refusal_at q p) (may_at q p) (counted q.turn) e (line_of q)
unfolding stepped after_join after_leave after_tick code_at
line_of_after q p (join u) = go (eqb (join_code (refusal_at q p u) u (line_of q)) 0) refl
  where
    after : Line
    after = joined_by (may_at q p) (counted q.turn) u (line_of q)

    go : (b : Bool) → eqb (join_code (refusal_at q p u) u (line_of q)) 0 ≡ b
        → line_of (b ⇒ queue_of q after ∥ q) ≡ (b ⇒ after ∥ line_of q)
    go true e =
        let z : _ = accepted_join (refusal_at q p u) u (line_of q) (eqb-true _ _ e) in
        line_again q after
        (joined_sound (may_at q p) (counted q.turn) (turn_some q.turn) u (line_of q)
        (accepted_number p q.gear u z.0) (line_sound q) z.1 z.2)
    go false e = refl
line_of_after q p (leave u) = go (there u (line_of q))
  where
    after : Line
    after = left_by (may_at q p) (counted q.turn) u (line_of q)

    go : (b : Bool) → line_of (b ⇒ queue_of q after ∥ q) ≡ (b ⇒ after ∥ line_of q)
    go true =
        line_again q after (left_sound (may_at q p) (counted q.turn) (turn_some q.turn) u (line_of q) (line_sound q))
    go false = refl
line_of_after q p tick = go (is_free (line_of q))
  where
    after : Line
    after = ticked (may_at q p) (counted q.turn) (line_of q)

    go : (b : Bool) → line_of (b ⇒ q ∥ queue_of q after) ≡ (b ⇒ line_of q ∥ after)
    go true = refl
    go false =
        line_again q after (ticked_sound (may_at q p) (counted q.turn) (turn_some q.turn) (line_of q) (line_sound q))
