use Rattle.std.proofs.Common.{◌≡◌, ◌∷◌, ◌∙◌, sym, ap, arith}
use Rattle.queue.specs.Stored.{fit}
use Rattle.queue.proofs.Placing.{any_in, fit_nothing, fit_large, fit_twice, fit_past}
use Rattle.queue.proofs.rows.fits.Goals.{then-w-ge64-via-then-w-ge64, then-w-ge64-via-else-w-ge64+then-contains}
use Rattle.queue.proofs.rows.fits.Goals as goal

pub returns-then-w-ge64 : goal.returns-then-w-ge64
returns-then-w-ge64 c =
    let some = c.in-Some in
    let e = some.ensures.cases.0 in
    sym (sym c.loop-w.invariant ∙ ap fit e ∙ elim c.then-w-ge64.branch as (λ _. fit (some.w.now ∷ some.behind.now) ≡ _) [
      | then-w-ge64-via-then-w-ge64 w ↦ fit_large _ _ (omega (arith, w.if-w-ge64.true))
      | then-w-ge64-via-else-w-ge64+then-contains w ↦ fit_twice _ _ (sym (any_in _ _) ∙ sym w.contains.ensures.value ∙ w.if-contains.true)
    ])

pub loop-w-preserved : goal.loop-w-preserved
loop-w-preserved c =
    let some = c.in-Some in
    sym (fit_past some.w.now some.behind.now (omega (arith, c.if-w-ge64.false)) (sym (any_in _ _) ∙ sym c.contains.ensures.value ∙ c.if-contains.false))
    ∙ sym (ap fit some.ensures.cases.0) ∙ c.loop-w.invariant

pub returns : goal.returns
returns c = sym (sym c.loop-w.invariant ∙ fit_nothing _ c.in_default.ensures.cases)
