use mathlib.Core.Path.{◌≡◌, refl, ap, ◌∙◌}
use mathlib.Core.Logic.{inl}
use mathlib.Core.List.{◌∷◌}
use Prim.Native.Nat.{◌<◌, ◌^◌}
use native.Mathlib.Omega.{arith}
use lib.ListN.{length}
use Rattle.std.proofs.Common.{rules}
use Rattle.frame.specs.Reading.{item, left, items_from}
use Rattle.frame.proofs.Giving.{steps_items, steps_few}
use Rattle.list.proofs.Reporting.{reporting_start, reporting_record, reporting_torn, reporting_end}
use Rattle.list.proofs.program.report_from.Goals as goal
use Rattle.list.proofs.program.report_from.Goals.{in-Ok, in-Err}

-- The reader gives no more than there are bytes, so each item has an index.
pub loop-index-init : goal.loop-index-init
loop-index-init c =
    let into = c.into_iter-index-iterator.ensures.into_iter_gives in
    let numbered = c.enumerate-index-items.ensures in
    let from : left c.into_iter-index-iterator.result.iter ≡ items_from c.args.input.now 0 =
    ap (λ s. left s.iter) into ∙ ap left numbered.source ∙ ap left c.new.ensures in
    let zero : c.into_iter-index-iterator.result.count ≡ 0 = ap (λ s. s.count) into ∙ numbered.count in
    let short : length c.args.input.now < 2 ^ 64 = search rules in
    record {
      can = (tt, tt, inl (rw (zero, from) (omega (arith, short, steps_items c.args.input.now, steps_few c.args.input.now))));
      ends = tt;
      reporting = reporting_start _ _ _ from zero c.new-page.ensures.place;
      same = refl;
    }

-- The next line is that of what the reader gave, a record or a torn place,
-- and has the number of its turn.
pub loop-index-preserved : goal.loop-index-preserved
loop-index-preserved c =
    let steps = c.in-Some.ensures.steps in
    let here = c.loop-index.invariant.reporting in
    let wrote = rw steps.1 at c.line.ensures.wrote in
    record {
      can = c.in-Some.ensures.goes.keeps;
      ends = tt;
      reporting = elim c.match-record.branch [
        | in-Ok w ↦
            reporting_record _ _ _ here steps.2 (steps.0.first ∙ ap (λ r. item r ∷ left c.next.new.self.iter) w.in-Ok.is)
            (w.code-is ∙ w.answered.ensures.numbers) (w.policy-is ∙ w.answered.ensures.policy) wrote
        | in-Err w ↦
            rw w.policy-is
            (reporting_torn _ _ _ here steps.2 (steps.0.first ∙ ap (λ r. item r ∷ left c.next.new.self.iter) w.in-Err.is)
            (rw w.code-is at wrote))
      ];
      same = c.line.ensures.same ∙ c.loop-index.invariant.same;
    }

pub returns : goal.returns
returns c =
    let all = reporting_end _ _ _ c.loop-index.invariant.reporting c.in-None.ensures.steps.0.first.0 in
    search (rules, rw c.new-page.ensures.bytes at all)
