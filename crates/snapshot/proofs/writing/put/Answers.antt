-- With room for all of it, all of the record is copied.
use lib.Seq.{take_all}
use Rattle.std.proofs.Common.{◌≡◌, ◌+◌, ◌-◌, length, take, arith, refl, rules}
use Rattle.text.proofs.Writing.{wrote_part}
use Rattle.snapshot.proofs.writing.put.Goals as goal

pub returns-then-page-at : goal.returns-then-page-at
returns-then-page-at g c =
    let n = c.args.page.now.at in
    let long : length c.args.bytes ≡ g.row.N = search rules in
    let count : (n + g.row.N) - n ≡ g.row.N = omega arith in
    let whole : take g.row.N c.args.bytes ≡ c.args.bytes = take_all g.row.N c.args.bytes (omega (arith, long)) in
    record {
      wrote = rw (count, c.copy_from_slice.ensures.after) (rw whole at (wrote_part c.args.page.now.out.now c.args.bytes n g.row.N c.if-at-page.true (omega (arith, long, c.if-page-at.true))));
      same = refl;
    }
