-- What is no target is passed over, and of a target what the words tell is whether the pair is fresh.
use mathlib.Core.Path.{sym, ap, ◌∙◌}
use mathlib.Core.List.{List}
use mathlib.Core.Logic.{⊎_elim}
use native.Mathlib.Omega.{arith}
use Prim.Native.Nat.{ℕ, ◌<◌}
use borrow.Author.Tests.{eqb-true, eqb-false}
use Rattle.reach.specs.Tables.{sort_in}
use Rattle.reach.proofs.WordSets.{below_next}
use Rattle.gains.specs.Searching.{Fresh}
use Rattle.gains.proofs.Looking.{at_fresh, fresh_move}
use Rattle.std.proofs.Common.{rules}
use Rattle.gains.proofs.searching.first_fresh.Goals.{then-is_target+else-loop-operation-test, else-is_target}
use Rattle.gains.proofs.searching.first_fresh.Goals as goal

pub loop-operation-init : goal.loop-operation-init
loop-operation-init c = (c.search.invariant.0, λ j l. absurd (omega (arith, l)))

pub search-preserved : goal.search-preserved
search-preserved c =
    let sort = ap (λ (l : List ℕ). sort_in l c.search.target) c.objects-objects.ensures.sorts in
    let none : (j : ℕ) → j < 8 → Fresh _ _ _ _ _ _ c.search.target j → ⊥ =
    elim c.if-is_target.branch [
      | then-is_target+else-loop-operation-test w ↦ λ j m n. w.loop-operation.invariant.1 j (omega (arith, m, w.loop-operation-test.false)) n
      | else-is_target w ↦ λ j m n. eqb-false _ _ (sym c.is_target.ensures ∙ w.if-is_target.false) (omega (arith, sort, n.target))
    ] in (
      elim c.if-is_target.branch [
        | then-is_target+else-loop-operation-test w ↦ w.found-is ∙ w.loop-operation.invariant.0
        | else-is_target w ↦ w.found-is ∙ c.search.invariant.0
      ],
      λ z l. ⊎_elim
          (λ e j m n. none j m (fresh_move e n))
          (λ h. c.search.invariant.1 z h)
          (below_next z c.search.target l),
    )

pub returns-then-fresh : goal.returns-then-fresh
returns-then-fresh c =
    let sort = ap (λ (l : List ℕ). sort_in l c.search.target) c.objects-objects.ensures.sorts in (
      search rules,
      at_fresh
          (rw (c.objects-objects.ensures.sorts, c.objects-objects.ensures.memberships) at c.above-before.ensures)
          c.with_put-after.ensures
          (omega (arith, sort, eqb-true _ _ (sym c.is_target.ensures ∙ c.if-is_target.true)))
          (c.fresh.ensures.sound c.if-fresh.true),
      λ z j l m n. c.search.invariant.1 z l j m n,
      c.loop-operation.invariant.1,
    )
