-- Each return is one row of `after_leave`.
use mathlib.Core.Path.{sym, ap, ◌∙◌}
use Rattle.std.proofs.Common.{ℕ, List, take}
use lib.ListN.{get_or}
use lib.Seq.{take_all}
use Rattle.queue.specs.declared.Queue.{Queue}
use Rattle.queue.specs.Line.{held, without}
use Rattle.queue.specs.Stored.{queue_of}
use Rattle.queue.specs.Rows.{followed}
use Rattle.queue.proofs.Placing.{in_waiters, stored_more, kept_other, kept_self, kept_few}
use Rattle.queue.proofs.Stepping.{leave_free, leave_holder, leave_absent, leave_waiter}
use Rattle.queue.proofs.Queue.left_by.Goals.{then-w-u, else-w-u}
use Rattle.queue.proofs.Queue.left_by.Goals as goal

pub returns-then-not-is_held : goal.returns-then-not-is_held
returns-then-not-is_held c =
    let asked = c.is_held in
    sym (leave_free _ _ _ (sym asked.ensures ∙ c.if-not-is_held.true))

pub returns-then-self-u : goal.returns-then-self-u
returns-then-self-u c =
    let asked = c.is_held in
    c.call.ensures
    ∙ sym (leave_holder _ _ _ (sym asked.ensures ∙ c.if-not-is_held.false) c.if-self-u.true)

pub returns-then-not-contains : goal.returns-then-not-contains
returns-then-not-contains c =
    let asked = c.is_held in
    sym (leave_absent _ _ _ (sym asked.ensures ∙ c.if-not-is_held.false) c.if-self-u.false
    (sym (in_waiters c.args.self c.args.u c.contains.ensures.value c.waiters-waiters.ensures.value) ∙ c.if-not-contains.true))

pub loop-w-init : goal.loop-w-init
unfolding without
loop-w-init c = c.given-after.ensures

pub followed-after-requires : goal.followed-after-requires
followed-after-requires c =
    rw c.loop-w.invariant (kept_few c.args.u c.waiters-waiters.result.now c.loop-w.w-index c.loop-w-test.true c.waiters-waiters.ensures.few)

pub loop-w-preserved : goal.loop-w-preserved
loop-w-preserved c =
    let q = c.args.self in
    let ws = c.waiters-waiters.result.now in
    let i = c.loop-w.w-index in
    let u = c.args.u in
    elim c.if-w-u.branch [
      | then-w-u w ↦
          w.after-is ∙ w.followed-after.ensures ∙ ap (λ (a : Queue). followed a (get_or ws i 0)) c.loop-w.invariant
          ∙ stored_more q q.holder q.left (without u (take i ws)) (get_or ws i 0) (kept_few u ws i c.loop-w-test.true c.waiters-waiters.ensures.few)
          ∙ sym (ap (λ (l : List ℕ). queue_of q (held q.holder q.left l)) (kept_other u ws i c.loop-w-test.true (λ e. w.if-w-u.true e)))
      | else-w-u w ↦
          w.after-is ∙ c.loop-w.invariant
          ∙ sym (ap (λ (l : List ℕ). queue_of q (held q.holder q.left l)) (kept_self u ws i c.loop-w-test.true w.if-w-u.false))
    ]

pub returns : goal.returns
returns c =
    let asked = c.is_held in
    let q = c.args.self in
    let ws = c.waiters-waiters.result.now in
    c.loop-w.invariant
    ∙ ap (λ (l : List ℕ). queue_of q (held q.holder q.left (without c.args.u l))) (take_all c.loop-w.w-index ws c.loop-w-test.false ∙ c.waiters-waiters.ensures.value)
    ∙ sym (leave_waiter _ _ _ (sym asked.ensures ∙ c.if-not-is_held.false) c.if-self-u.false
    (sym (in_waiters q c.args.u c.contains.ensures.value c.waiters-waiters.ensures.value) ∙ c.if-not-contains.false))
