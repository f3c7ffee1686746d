-- Each return is one row of `after_tick`.
use mathlib.Core.Path.{sym, ap, ◌∙◌}
use Prim.Native.Nat.{◌-◌}
use native.Mathlib.Omega.{arith}
use Rattle.std.proofs.Common.{ℕ, List}
use Rattle.queue.specs.Line.{held}
use Rattle.queue.specs.Stored.{queue_of}
use Rattle.queue.proofs.Saying.{sound_record}
use Rattle.queue.proofs.Stepping.{tick_free, tick_last, tick_more}
use Rattle.queue.proofs.Queue.ticked.Goals as goal

pub returns-then-not-is_held : goal.returns-then-not-is_held
returns-then-not-is_held c =
    let asked = c.is_held in
    sym (tick_free _ _ (sym asked.ensures ∙ c.if-not-is_held.true))

pub returns-then-self-eq1 : goal.returns-then-self-eq1
returns-then-self-eq1 c =
    let asked = c.is_held in
    c.call.ensures
    ∙ sym (tick_last _ _ (sym asked.ensures ∙ c.if-not-is_held.false)
    (omega (arith, c.if-self-eq1.true)))

pub overflow_sub-self : goal.overflow_sub-self
overflow_sub-self c =
    let asked = c.is_held in
    (sound_record _ (sym asked.ensures ∙ c.if-not-is_held.false)).some

pub returns : goal.returns
returns c =
    let asked = c.is_held in
    let q = c.args.self in
    c.given.ensures ∙ ap (λ (ws : List ℕ). queue_of q (held q.holder (q.left - 1) ws)) c.waiters.ensures.value
    ∙ sym (tick_more _ _ (sym asked.ensures ∙ c.if-not-is_held.false)
    (λ e. omega (arith, c.if-self-eq1.false, e)))
