-- `all` answers of every row what `row_fits` decides of one.
use Rattle.std.proofs.Common.{rules, refl}
use Rattle.std.proofs.lemmas.Iterator.{cases_from_all, YieldsList-from_slice, YieldsList-from_zip, YieldsList-from_range}
use Rattle.soundness.specs.Masked.{RowIn}
use Rattle.soundness.proofs.Tying.{decides_numbered, holds, fails}
use Rattle.soundness.proofs.memberships_fit.Goals as goal

pub returns : goal.returns
returns c =
    let m = c.args.m in
    decides_numbered (λ x row. RowIn m row x) 64 c.args.memberships.now 0 _ (search rules)
    (cases_from_all c.all.new.self _ _ (λ p. RowIn m p.1 p.0) (λ p. RowIn m p.1 p.0 → ⊥) c.all.ensures.ran
    (YieldsList-from_zip (YieldsList-from_range 0 _ 64 c.zip.ensures.first refl) (YieldsList-from_slice c.args.memberships.now (cc)))
    (λ x q k. search (rules, holds))
    (λ x q k. search (rules, fails)))
