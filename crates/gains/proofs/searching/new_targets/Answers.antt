use Rattle.std.proofs.Common.{get_or, Fits, w64, rules}
use Rattle.reach.proofs.Unions.{union_none, union_add}
use Rattle.gains.proofs.News.{new_set}
use Rattle.gains.proofs.searching.new_targets.Goals as goal

pub loop-k-init : goal.loop-k-init
loop-k-init c = union_none _

pub loop-k-preserved : goal.loop-k-preserved
loop-k-preserved c =
    let h : Fits w64 (get_or c.args.had c.loop-k.k 0) = search rules in
    let g : Fits w64 (get_or c.args.got c.loop-k.k 0) = search rules in
    union_add _ c.loop-k.invariant (new_set _ _ h.fits g.fits)
