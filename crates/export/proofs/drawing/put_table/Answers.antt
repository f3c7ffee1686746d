use Rattle.std.proofs.Common.{◌≡◌, ◌+◌, ◌*◌, ◌-◌, ◌≤◌, ◌∙◌, sym, ap, arith, length, rules, ℕ}
use Rattle.std.proofs.lemmas.List.Edits.{sets}
use Rattle.std.proofs.lemmas.Grind.{common_steps}
use Rattle.export.proofs.Storing.{sets_mid, place_within, drawing_start, drawing_step, drawing_end}
use Rattle.export.proofs.drawing.put_table.Goals as goal

pub loop-i-init : goal.loop-i-init
loop-i-init g c = drawing_start _ _ _ _ _

pub loop-i-preserved : goal.loop-i-preserved
loop-i-preserved g c =
    let here = c.args.start + g.row.W * c.loop-i.i in
    let long : length c.drawn.result ≡ g.row.W = search rules in
    let room : here + g.row.W ≤ length c.loop-i.out =
    omega (arith, place_within g.row.W c.loop-i.i g.row.N c.loop-i-test.true, c.requires, c.told-out, c.loop-i.invariant.length_kept) in
    let same : g.row.W ≡ here + g.row.W - here = omega arith in
    drawing_step _ _ _ _ _ c.loop-i.invariant (omega (arith, c.loop-i-test.true, c.told-table)) c.index-table-i.result
    (sym (ap length c.drawn.ensures) ∙ long)
    (sets_mid c.loop-i.out c.copy_from_slice.new.self here _ (ap length c.copy_from_slice.ensures.after ∙ long ∙ same) (omega (arith, room)) ∙ ap (sets c.loop-i.out here) (c.copy_from_slice.ensures.after ∙ c.drawn.ensures))

pub returns : goal.returns
returns g c = drawing_end _ _ _ _ _ c.loop-i.invariant (omega (arith, c.loop-i-test.false, c.told-table))
