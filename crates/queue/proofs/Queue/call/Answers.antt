use Rattle.std.proofs.Common.{ℕ, ◌∙◌, sym, ap, arith}
use Rattle.queue.specs.Line.{held, counted, called}
use Rattle.queue.specs.Stored.{may_at, queue_of}
use Rattle.queue.proofs.Placing.{called_here, called_past, called_nothing}
use Rattle.queue.proofs.Queue.call.Goals as goal

pub loop-w-init : goal.loop-w-init
loop-w-init c = let q = c.args.self in (
  c.waiters-rest.ensures.few,
  ap (called (may_at q c.args.p) (counted q.turn)) c.waiters-rest.ensures.value,
)

pub given-requires : goal.given-requires
given-requires c = omega (arith, c.in-Some.ensures.cases.1, c.loop-w.invariant.0)

pub returns-then-may_transmit : goal.returns-then-may_transmit
returns-then-may_transmit c =
    let q = c.args.self in
    let some = c.in-Some in
    c.given.ensures ∙ ap (λ (n : ℕ). queue_of q (held some.w.now n some.behind.now)) c.counted.ensures
    ∙ ap (queue_of q) (sym (called_here some.w.now some.behind.now (may_at q c.args.p) (counted q.turn)
    (sym c.may_transmit.ensures ∙ c.if-may_transmit.true))
    ∙ sym (ap (called (may_at q c.args.p) (counted q.turn)) some.ensures.cases.0) ∙ c.loop-w.invariant.1)

pub loop-w-preserved : goal.loop-w-preserved
loop-w-preserved c =
    let q = c.args.self in
    let some = c.in-Some in (
      omega (arith, some.ensures.cases.1, c.loop-w.invariant.0),
      sym (called_past some.w.now some.behind.now (may_at q c.args.p) (counted q.turn)
          (sym c.may_transmit.ensures ∙ c.if-may_transmit.false))
          ∙ sym (ap (called (may_at q c.args.p) (counted q.turn)) some.ensures.cases.0) ∙ c.loop-w.invariant.1,
    )

pub returns : goal.returns
returns c =
    let q = c.args.self in
    c.freed.ensures ∙ ap (queue_of q) (sym (called_nothing (may_at q c.args.p) (counted q.turn) _ c.in_default.ensures.cases) ∙ c.loop-w.invariant.1)
