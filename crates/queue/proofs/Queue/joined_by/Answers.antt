-- Each return is one row of `after_join`.
use mathlib.Core.Path.{sym, ap, ◌∙◌}
use native.Mathlib.Omega.{arith}
use Rattle.queue.specs.declared.Queue.{Queue}
use Rattle.queue.specs.Rows.{joined_as}
use Rattle.queue.proofs.Placing.{in_waiters}
use Rattle.queue.proofs.Stepping.{join_refused, join_free, join_holder, join_waiter, join_full, join_last}
use Rattle.queue.proofs.Queue.joined_by.Goals.{then-self-u-via-then-self-u, then-self-u-via-else-self-u+then-contains}
use Rattle.queue.proofs.Queue.joined_by.Goals as goal

pub returns-in_err-asked : goal.returns-in_err-asked
returns-in_err-asked c = join_refused _ _ _ _ c.from_residual.result c.in_err-asked.ensures c.from_residual.ensures.1

pub returns-then-not-is_held : goal.returns-then-not-is_held
returns-then-not-is_held c =
    ap (λ (q : Queue). joined_as q 0) (c.given.ensures ∙ rw c.counted.ensures)
    ∙ join_free _ _ _ _ c.in_ok-asked.ensures (sym c.is_held.ensures ∙ c.if-not-is_held.true)

pub returns-then-self-u : goal.returns-then-self-u
returns-then-self-u c =
    let q = c.args.self in
    let held = sym c.is_held.ensures ∙ c.if-not-is_held.false in
    elim c.then-self-u.branch [
      | then-self-u-via-then-self-u w ↦ join_holder _ _ _ _ c.in_ok-asked.ensures held w.if-self-u.true
      | then-self-u-via-else-self-u+then-contains w ↦
          join_waiter _ _ _ _ c.in_ok-asked.ensures held w.if-self-u.false
          (sym (in_waiters q c.args.u w.contains.ensures.value c.waiters-waiters.ensures.value) ∙ w.if-contains.true)
    ]

pub returns-then-waiters-eq8 : goal.returns-then-waiters-eq8
returns-then-waiters-eq8 c =
    let q = c.args.self in
    let held = sym c.is_held.ensures ∙ c.if-not-is_held.false in
    join_full _ _ _ _ c.in_ok-asked.ensures held c.if-self-u.false
    (sym (in_waiters q c.args.u c.contains.ensures.value c.waiters-waiters.ensures.value) ∙ c.if-contains.false)
    (rw (← c.waiters-waiters.ensures.value) (omega (arith, c.if-waiters-eq8.true)))

pub returns : goal.returns
returns c =
    let q = c.args.self in
    let held = sym c.is_held.ensures ∙ c.if-not-is_held.false in
    ap (λ (r : Queue). joined_as r 0) (c.followed.ensures ∙ rw (c.given-2.ensures, c.waiters-waiters.ensures.value))
    ∙ join_last _ _ _ _ c.in_ok-asked.ensures held c.if-self-u.false
    (sym (in_waiters q c.args.u c.contains.ensures.value c.waiters-waiters.ensures.value) ∙ c.if-contains.false)
    (rw (← c.waiters-waiters.ensures.value) (omega (arith, c.waiters-waiters.ensures.few, c.if-waiters-eq8.false)))
