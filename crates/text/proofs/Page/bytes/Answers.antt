-- As much of the text is copied as there is room for.
use Rattle.std.proofs.Common.{◌≡◌, ◌+◌, ◌-◌, arith, refl}
use Rattle.text.proofs.Writing.{wrote_part}
use Rattle.text.proofs.Page.bytes.Goals as goal

pub returns-then-self : goal.returns-then-self
returns-then-self c =
    let n = c.args.self.now.at in
    let count : (n + c.min-count.result) - n ≡ c.min-count.result = omega arith in
    record {
      wrote = rw (count, c.copy_from_slice.ensures.after) (wrote_part _ _ _ _ c.if-self.true (omega (arith, c.min-count.ensures)));
      same = refl;
    }
