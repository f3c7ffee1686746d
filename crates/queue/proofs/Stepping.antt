-- What each event comes to on each way through it: the facts that were tested on the way pick one row of the
-- definition.
use Rattle.std.specs.Prelude.{Option, Result, Ok, Err, is_ok, IsErrAnd}
use mathlib.Core.Path.{◌≡◌, refl, sym, ap, ◌∙◌}
use mathlib.Core.Bool.{Bool, true, false}
use mathlib.Core.List.{[]}
use Prim.Native.Nat.{ℕ, max, min, ◌-◌, ◌<◌, ◌≤◌}
use native.Mathlib.Omega.{arith}
use lib.Dec.{eqb, ltb}
use Rattle.reach.specs.Tests.{◌⇒◌∥◌}
use lib.ListN.{length}
use lib.Seq.{length-take-le}
use borrow.Author.Tests.{eq-eqb, ne_eqb, eqb-true, eqb-false, ltb-true, ltb-false}
use Rattle.reach.specs.declared.Policy.{Policy}
use Rattle.rules.specs.declared.Refusal.{Refusal}
use Rattle.rules.specs.Judging.{Verdict, number_of, code_of}
use Rattle.rules.proofs.Numbered.{numbered_above}
use Rattle.access.specs.Using.{use_verdict, use_code}
use Rattle.access.proofs.UseTable.{use_permitted}
use Rattle.queue.specs.declared.Queue.{Queue}
use Rattle.queue.specs.declared.Refused.{Refused}
use Rattle.queue.specs.declared.Refused.TheVariants.{Use}
use Rattle.queue.specs.Line.{free, held, counted, may_transmit, is_in, without, called}
use Rattle.queue.specs.Stored.{is_held, line_of, waiters, queue_of, may_at, code_at, after_join, after_leave, after_tick}
use Rattle.queue.specs.Rows.{followed, joined_as, joined_of}
use Rattle.queue.proofs.Placing.{stored_more}

-- ---- N as it counts

-- N, brought between 1 and 600.
pub counted_between : (n : ℕ) → max 1 (min n 600) ≡ counted n
unfolding counted
counted_between n = go (eqb n 0) (ltb 600 n) refl refl
  where
    go : (a b : Bool) → eqb n 0 ≡ a → ltb 600 n ≡ b → max 1 (min n 600) ≡ (a ⇒ 1 ∥ b ⇒ 600 ∥ n)
    go true b e f = let none : n ≡ 0 = eqb-true n 0 e in omega arith
    go false true e f = let many : 600 < n = ltb-true 600 n f in omega arith
    go false false e f =
        let some : n ≡ 0 → ⊥ = eqb-false n 0 e in
        let few : n ≤ 600 = ltb-false 600 n f in
        omega (arith, some)

-- ---- What a record says

pub says_free : (q : Queue) → is_held q ≡ false → line_of q ≡ free
unfolding line_of
says_free q e = rw e

pub says_held : (q : Queue) → is_held q ≡ true → line_of q ≡ held q.holder q.left (waiters q)
unfolding line_of
says_held q e = rw e

pub waiters_count : (q : Queue) → length q.waiting ≡ 8 → q.count ≤ 8 → length (waiters q) ≡ q.count
waiters_count q long few = length-take-le _ _ (omega arith)

-- ---- What the judge says

-- Who is not refused is permitted.
pub asked_permits : (p : Policy) (u x : ℕ) {v : Verdict} → v ≡ use_verdict p u x 2 → is_ok v ≡ may_transmit p x u
unfolding may_transmit use_code
asked_permits p u x {v} asked = go v ∙ ap (λ (w : Verdict). eqb (code_of w) 0) asked ∙ use_permitted p u x 2
  where
    go : (v : Verdict) → is_ok v ≡ eqb (code_of v) 0
    go (Ok by) = refl
    go (Err r) = sym (ne_eqb (number_of r) 0 (λ e. omega (arith, e, numbered_above r)))

-- ---- A join

module _ (q : Queue) (p : Policy) (u : ℕ) where
  pub join_refused : (r : Refusal) (a : Result Queue Refused) → Err r ≡ use_verdict p u q.gear 2 → IsErrAnd a (λ e. e ≡ Use r)
      → joined_of q a ≡ after_join q p u
  unfolding after_join code_at use_code
  join_refused r (Ok after) asked e = absurd e
  join_refused r (Err f) asked e = simp (e, ← asked, ne_eqb (number_of r) 0 (λ e. omega (arith, e, numbered_above r)))

  -- What he joins is as follows, where the judge does not refuse.
  module _ (by : Option ℕ) (asked : Ok by ≡ use_verdict p u q.gear 2) where
    -- He is the only one in the line, and permitted.
    pub join_free : is_held q ≡ false → joined_as (queue_of q (held u (counted q.turn) [])) 0 ≡ after_join q p u
    unfolding after_join code_at use_code called
    join_free f = simp (says_free q f, ← asked_permits p u q.gear asked, ← asked)

    module _ (e : is_held q ≡ true) where
      pub join_holder : q.holder ≡ u → joined_as q 15 ≡ after_join q p u
      unfolding after_join code_at use_code
      join_holder h = simp (says_held q e, ← asked, eq-eqb _ _ h)

      module _ (other : q.holder ≡ u → ⊥) where
        pub join_waiter : is_in u (waiters q) ≡ true → joined_as q 15 ≡ after_join q p u
        unfolding after_join code_at use_code
        join_waiter w = simp (says_held q e, ← asked, ne_eqb _ _ other, w)

        module _ (new : is_in u (waiters q) ≡ false) where
          pub join_full : length (waiters q) ≡ 8 → joined_as q 16 ≡ after_join q p u
          unfolding after_join code_at use_code
          join_full l = simp (says_held q e, ← asked, ne_eqb _ _ other, new, eq-eqb _ _ l)

          pub join_last : length (waiters q) < 8
              → joined_as (followed (queue_of q (held q.holder q.left (waiters q))) u) 0 ≡ after_join q p u
          unfolding after_join code_at use_code
          join_last l =
              let room : length (waiters q) ≡ 8 → ⊥ = λ f. omega (arith, f) in
              simp (says_held q e, ← asked, ne_eqb _ _ other, new, ne_eqb _ _ room)
              (ap (λ (r : Queue). joined_as r 0) (stored_more q q.holder q.left (waiters q) u l))

-- ---- A leave

module _ (q : Queue) (p : Policy) (u : ℕ) where
  pub leave_free : is_held q ≡ false → after_leave q p u ≡ q
  unfolding after_leave
  leave_free f = rw (says_free q f)

  module _ (e : is_held q ≡ true) where
    pub leave_holder : q.holder ≡ u → after_leave q p u ≡ queue_of q (called (may_at q p) (counted q.turn) (waiters q))
    unfolding after_leave
    leave_holder h = simp (says_held q e, eq-eqb _ _ h)

    module _ (other : q.holder ≡ u → ⊥) where
      pub leave_absent : is_in u (waiters q) ≡ false → after_leave q p u ≡ q
      unfolding after_leave
      leave_absent n = simp (says_held q e, ne_eqb _ _ other, n)

      pub leave_waiter : is_in u (waiters q) ≡ true
          → after_leave q p u ≡ queue_of q (held q.holder q.left (without u (waiters q)))
      unfolding after_leave
      leave_waiter n = simp (says_held q e, ne_eqb _ _ other, n)

-- ---- A tick

module _ (q : Queue) (p : Policy) where
  pub tick_free : is_held q ≡ false → after_tick q p ≡ q
  unfolding after_tick
  tick_free f = rw (says_free q f)

  module _ (e : is_held q ≡ true) where
    pub tick_last : q.left ≡ 1 → after_tick q p ≡ queue_of q (called (may_at q p) (counted q.turn) (waiters q))
    unfolding after_tick
    tick_last h = simp (says_held q e, eq-eqb _ _ h)

    pub tick_more : (q.left ≡ 1 → ⊥) → after_tick q p ≡ queue_of q (held q.holder (q.left - 1) (waiters q))
    unfolding after_tick
    tick_more h = simp (says_held q e, ne_eqb _ _ h)
