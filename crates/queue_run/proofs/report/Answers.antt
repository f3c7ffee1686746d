-- `report` prints the lines of the records: each record, and a torn place, adds its line.
use mathlib.Core.Path.{◌≡◌, refl, ap, ◌∙◌}
use mathlib.Core.Logic.{inl}
use mathlib.Core.List.{◌∷◌}
use Prim.Native.Nat.{◌<◌, ◌^◌}
use native.Mathlib.Omega.{arith}
use lib.ListN.{length}
use Rattle.std.proofs.Common.{rules}
use Rattle.frame.specs.Reading.{item, left, items_from}
use Rattle.frame.proofs.Giving.{steps_items, steps_few}
use Rattle.queue_run.proofs.Reporting.{reporting_start, reporting_record, reporting_torn, reporting_end}
use Rattle.queue_run.proofs.report.Goals as goal

-- The reader gives no more than there are bytes, so each item has an index.
pub loop-index-init : goal.loop-index-init
loop-index-init c =
    let into = c.into_iter-index-iterator.ensures.into_iter_gives in
    let numbered = c.enumerate-index-items.ensures in
    let from : left c.into_iter-index-iterator.result.iter ≡ items_from c.args.input.now 0 =
    ap (λ s. left s.iter) into ∙ ap left numbered.source ∙ ap left c.new.ensures in
    let zero : c.into_iter-index-iterator.result.count ≡ 0 = ap (λ s. s.count) into ∙ numbered.count in
    let short : length c.args.input.now < 2 ^ 64 = search rules in
    record {
      can = (tt, tt, inl (rw (zero, from) (omega (arith, short, steps_items c.args.input.now, steps_few c.args.input.now))));
      ends = tt;
      reporting = reporting_start _ _ c.founded-club.ensures from zero c.new-page.ensures.place;
      same = refl;
    }

pub loop-index-preserved-in-Ok : goal.loop-index-preserved-in-Ok
loop-index-preserved-in-Ok c =
    let steps = c.in-Some.ensures.steps in
    record {
      can = c.in-Some.ensures.goes.keeps;
      ends = tt;
      reporting =
          reporting_record _ _ c.loop-index.invariant.reporting steps.2
          (steps.0.first ∙ ap (λ r. item r ∷ left c.next.new.self.iter) c.in-Ok.is) c.taken_in-told.ensures
          (rw steps.1 at c.put_told.ensures.wrote);
      same = c.put_told.ensures.same ∙ c.loop-index.invariant.same;
    }

pub loop-index-preserved : goal.loop-index-preserved
loop-index-preserved c =
    let steps = c.in-Some.ensures.steps in
    record {
      can = c.in-Some.ensures.goes.keeps;
      ends = tt;
      reporting =
          reporting_torn _ _ c.loop-index.invariant.reporting steps.2
          (steps.0.first ∙ ap (λ r. item r ∷ left c.next.new.self.iter) c.in-Err.is)
          (rw steps.1 at c.line.ensures.wrote);
      same = c.line.ensures.same ∙ c.loop-index.invariant.same;
    }

pub returns : goal.returns
returns c =
    let all = reporting_end _ _ c.loop-index.invariant.reporting c.in-None.ensures.steps.0.first.0 in
    search (rules, rw c.new-page.ensures.bytes at all)
