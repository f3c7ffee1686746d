use Rattle.reach.proofs.WordSets.{decides_has, set_bits, set_below, below_next}
use Rattle.reach.proofs.Testing.{decides_at, refuted}
use mathlib.Core.Path.{subst, sym, ◌∙◌}
use Rattle.gains.specs.Searching.{FirstNew, New}
use native.Mathlib.Omega.{arith}
use Prim.Native.Nat.{ℕ, ◌<◌}
use lib.ListN.{get_or}
use mir.Syntax.{w64}
use mir.Val.{Fits}
use borrow.Author.Count.{below_more}
use mathlib.Core.Logic.{⊎_elim}
use Rattle.gains.proofs.News.{new_set}
use Rattle.std.proofs.Common.{rules}
use Rattle.gains.proofs.searching.gained.Goals.{then-has+else-loop-k-test, else-has}
use Rattle.gains.proofs.searching.gained.Goals as goal

pub loop-k-preserved : goal.loop-k-preserved
loop-k-preserved c =
    let a = c.args in
    let k = c.loop-k.k in
    let h : Fits w64 (get_or a.had k 0) = search rules in
    let g : Fits w64 (get_or a.got k 0) = search rules in (
      c.loop-k.invariant.0,
      below_more _ _ c.loop-k.invariant.1
          (refuted (decides_at c.has-in-loop-k.ensures (decides_has (new_set _ _ h.fits g.fits) _)) c.if-has-2.false),
    )

pub search-preserved : goal.search-preserved
search-preserved c =
    let a = c.args in
    let fresh = decides_at c.has.ensures (decides_has c.new_targets-fresh.ensures c.search.target) in
    let none : (j : ℕ) → j < 8 → New (get_or a.had j 0) (get_or a.got j 0) c.search.target → ⊥ =
    elim c.if-has.branch [
      | then-has+else-loop-k-test w ↦ λ j m n. w.loop-k.invariant.1 j (omega (arith, m, w.loop-k-test.false)) n
      | else-has w ↦ λ j m n. refuted fresh w.if-has.false (record { place = j; low = m; at = n })
    ] in (
      elim c.if-has.branch [
        | then-has+else-loop-k-test w ↦ w.found-is ∙ w.loop-k.invariant.0
        | else-has w ↦ w.found-is ∙ c.search.invariant.0
      ],
      λ y l. ⊎_elim
          (λ e j m n. none j m (subst (New _ _) e n))
          (λ h. c.search.invariant.1 y h)
          (below_next y c.search.target l),
    )

pub returns-after-search : goal.returns-after-search
returns-after-search c =
    let a = c.args in
    subst
    (FirstNew a.had a.got)
    (sym c.search.invariant.0)
    (λ y j m n.
    let g : Fits w64 (get_or a.got j 0) = search rules in
    c.search.invariant.1 y (omega (arith, set_below (set_bits _ g.fits) y n.now, c.search-test.false)) j m n)

pub returns-then-has-2 : goal.returns-then-has-2
returns-then-has-2 c =
    let a = c.args in
    let k = c.loop-k.k in
    let h : Fits w64 (get_or a.had k 0) = search rules in
    let g : Fits w64 (get_or a.got k 0) = search rules in (
      search rules,
      (decides_at c.has-in-loop-k.ensures (decides_has (new_set _ _ h.fits g.fits) _)).sound c.if-has-2.true,
      λ y j l m n. c.search.invariant.1 y l j m n,
      c.loop-k.invariant.1,
    )
