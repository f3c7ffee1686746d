use Rattle.std.proofs.Common.{rules, arith, sym, ap, ◌∙◌, le_refl, take_all, length-drop, length-take, drop, ℕ, Some}
use Rattle.snapshot.proofs.Stepping.{number_small, loading_end, loading_none, loading_unfit, loading_fallen, record_inside, loading_next}
use Rattle.snapshot.proofs.Stepping.{front_of_ok, front_of_err, err_given}
use Rattle.snapshot.proofs.reading.load.Goals.{then-not-valid-via-then-not-valid, then-not-valid-via-else-not-valid+then-k-n}
use Rattle.snapshot.proofs.reading.load.Goals as goal

pub returns-in_err-e : goal.returns-in_err-e
returns-in_err-e c =
    let none = front_of_err c.loop-rest.rest.now c.front.ensures c.ok_or.ensures.value c.in_err-e.was in
    (rw none.1 at (err_given _ c.from_residual.ensures.1)) ∙ loading_none c.loop-rest.invariant (search rules) none.0

pub returns-then-not-valid : goal.returns-then-not-valid
returns-then-not-valid c =
    let here = front_of_ok c.loop-rest.rest.now c.front.ensures c.ok_or.ensures.value c.in_ok-e.was in
    let go = c.loop-rest.invariant in
    elim c.then-not-valid.branch [
      | then-not-valid-via-then-not-valid w ↦ loading_unfit go (search rules) here (sym c.valid.ensures ∙ w.if-not-valid.true)
      | then-not-valid-via-else-not-valid+then-k-n w ↦ loading_fallen go (search rules) here (omega (arith, c.number-k.ensures, w.if-k-n.true))
    ]

pub overflow_add-n : goal.overflow_add-n
overflow_add-n c =
    let low = number_small (Some c.in_ok-e.e) (sym c.valid.ensures ∙ c.if-not-valid.false) in
    omega (arith, low, c.number-k.ensures)

pub slice_bounds-rest-count : goal.slice_bounds-rest-count
slice_bounds-rest-count c =
    let here = front_of_ok c.loop-rest.rest.now c.front.ensures c.ok_or.ensures.value c.in_ok-e.was in
    let inside = record_inside c.loop-rest.invariant (search rules) here (sym c.valid.ensures ∙ c.if-not-valid.false) in
    omega (arith, inside.0, c.size.ensures)

pub slice_bounds-rest-start : goal.slice_bounds-rest-start
slice_bounds-rest-start c =
    let here = front_of_ok c.loop-rest.rest.now c.front.ensures c.ok_or.ensures.value c.in_ok-e.was in
    let inside = record_inside c.loop-rest.invariant (search rules) here (sym c.valid.ensures ∙ c.if-not-valid.false) in
    omega (arith, inside.0, c.size.ensures)

pub loop-rest-smaller : goal.loop-rest-smaller
loop-rest-smaller c =
    let here = front_of_ok c.loop-rest.rest.now c.front.ensures c.ok_or.ensures.value c.in_ok-e.was in
    let inside = record_inside c.loop-rest.invariant (search rules) here (sym c.valid.ensures ∙ c.if-not-valid.false) in
    omega (arith, inside, c.size.ensures, length-take {A = ℕ}, length-drop {A = ℕ})

pub loop-rest-preserved : goal.loop-rest-preserved
loop-rest-preserved c =
    let here = front_of_ok c.loop-rest.rest.now c.front.ensures c.ok_or.ensures.value c.in_ok-e.was in
    let rest = c.loop-rest.rest.now in
    loading_next c.loop-rest.invariant (search rules) here _ _ _ (sym c.valid.ensures ∙ c.if-not-valid.false)
    (omega (arith, c.number-k.ensures, c.if-k-n.false)) (omega (arith, c.number-k.ensures))
    (take_all _ (drop c.size.result rest) (simp length-drop (le_refl _)) ∙ ap (λ (n : ℕ). drop n rest) c.size.ensures)
    c.store.ensures

pub returns : goal.returns
returns c = loading_end c.loop-rest.invariant (search rules)
