-- Who holds the radio: he who joins while it is free; and he keeps it until he leaves or the ticks left have gone by,
-- since nothing else asks about him.
use mathlib.Core.Path.{◌≡◌, refl, sym, ap, ◌∙◌, subst}
use mathlib.Core.Bool.{Bool, true, false, ◌||◌}
use mathlib.Core.List.{List, [], ◌∷◌, ◌++◌}
use Prim.Native.Nat.{ℕ, ◌+◌, ◌-◌, ◌<◌}
use native.Mathlib.Omega.{arith}
use lib.Dec.{eqb}
use borrow.Author.Tests.{eq-eqb, ne_eqb, eqb-true}
use Rattle.reach.specs.declared.Policy.{Policy}
use Rattle.reach.specs.Tests.{◌⇒◌∥◌}
use Rattle.access.proofs.UseTable.{use_permitted}
use Rattle.queue.specs.declared.Queue.{Queue}
use Rattle.queue.specs.Line.{Line, free, held, counted, may_transmit, is_in, without, called, join_code}
use Rattle.queue.specs.Stored.{line_of, may_at, code_at, after_join}
use Rattle.queue.specs.Wait.{Event, join, leave, tick, stepped, run, tick_of, ticks}
use Rattle.queue.specs.Claims.{JoinerHolds, none, more, HoldsFor, HolderKeeps, TurnEnds}
use Rattle.queue.proofs.Saying.{line_after, refusal_at, line_of_after, accepted_join}

-- The line after an event on a line that is known.
line_from : (q : Queue) (p : Policy) (e : Event) (l : Line) → line_of q ≡ l
    → line_of (stepped q p e) ≡ line_after (refusal_at q p) (may_at q p) (counted q.turn) e l
line_from q p e l f =
    line_of_after q p e ∙ ap (λ (l : Line). line_after (refusal_at q p) (may_at q p) (counted q.turn) e l) f

pub joiner_holds : JoinerHolds
unfolding stepped after_join code_at called may_transmit
joiner_holds q p u f e =
    let zero = (accepted_join (refusal_at q p u) u (line_of q) e).0 in
    line_from q p (join u) free f ∙ simp (← use_permitted p u q.gear 2, eq-eqb _ _ zero)

pub turn_ends : TurnEnds
unfolding stepped
turn_ends q p u ws f = line_from q p tick (held u 1 ws) f

-- ---- A holder keeps his turn

-- With no tick none less is left.
no_less : (q : Queue) (u t : ℕ) → HoldsFor q u t → HoldsFor q u (t - 0)
no_less q u t h = let same : t - 0 ≡ t = omega arith in subst (λ (s : ℕ). HoldsFor q u s) (sym same) h

-- One event: the ticks left fall by its tick, unless it is the last or he leaves.
module _ (q : Queue) (p : Policy) (u t : ℕ) (ws : List ℕ) (line : line_of q ≡ held u t ws) where
  keeps : (e : Event) → (e ≡ leave u → ⊥) → tick_of e < t → HoldsFor (stepped q p e) u (t - tick_of e)
  keeps (join v) stay small =
      no_less _ u t (go (eqb (join_code (refusal_at q p v) v (held u t ws)) 0) (line_from q p (join v) (held u t ws) line))
    where
      go : (b : Bool) → line_of (stepped q p (join v)) ≡ (b ⇒ held u t (ws ++ v ∷ []) ∥ held u t ws)
          → HoldsFor (stepped q p (join v)) u t
      go true c = record { waiting = ws ++ v ∷ []; line = c }
      go false c = record { waiting = ws; line = c }
  keeps (leave v) stay small =
      no_less _ u t (go (eqb u v) refl (is_in v ws) (line_from q p (leave v) (held u t ws) line))
    where
      go : (b : Bool) → eqb u v ≡ b → (d : Bool)
          → line_of (stepped q p (leave v))
          ≡ (b || d ⇒ b ⇒ called (may_at q p) (counted q.turn) ws ∥ held u t (without v ws) ∥ held u t ws)
          → HoldsFor (stepped q p (leave v)) u t
      go true f d c = absurd (stay (ap leave (sym (eqb-true u v f))))
      go false f true c = record { waiting = without v ws; line = c }
      go false f false c = record { waiting = ws; line = c }
  keeps tick stay small =
      let more : t ≡ 1 → ⊥ = λ e. omega (arith, e, small) in
      record { waiting = ws; line = line_from q p tick (held u t ws) line ∙ rw (ne_eqb t 1 more) }

minus_both : (a b t : ℕ) → t - a - b ≡ t - (a + b)
minus_both a b t = omega arith

pub holder_keeps : HolderKeeps
unfolding run ticks
holder_keeps q [] u t h none l = no_less q u t h
holder_keeps q (f ∷ fs) u t h (more stay rest) l =
    let k : HoldsFor (stepped q f.policy f.event) u (t - tick_of f.event) =
    keeps q f.policy u t h.waiting h.line f.event stay (omega arith) in
    let all : HoldsFor (run (stepped q f.policy f.event) fs) u (t - tick_of f.event - ticks fs) =
    holder_keeps (stepped q f.policy f.event) fs u (t - tick_of f.event) k rest (omega arith) in
    rw (← minus_both (tick_of f.event) (ticks fs) t) all
