-- Where x is among what was above, what `over` has comes to it.
use mathlib.Core.Logic.{inl, inr, ⊎_elim}
use Rattle.reach.proofs.Testing.{decides_at, refuted}
use Rattle.reach.proofs.WordSets.{set_as, set_or, set_bits, has_decides}
use Rattle.std.proofs.Common.{rules}
use Rattle.gains.proofs.searching.with_put.Goals as goal

pub returns-then-has : goal.returns-then-has
returns-then-has c =
    let a = c.args in
    let here = (decides_at c.has.ensures (has_decides _ _)).sound c.if-has.true in
    set_as
    (set_or (set_bits a.before (search rules)) (set_bits a.over (search rules)))
    (λ t w. ⊎_elim (λ b. inl b) (λ b. inr (here, b)) w)
    (λ t w. ⊎_elim (λ b. inl b) (λ b. inr b.1) w)

pub returns-else-has : goal.returns-else-has
returns-else-has c =
    let a = c.args in
    let none = refuted (decides_at c.has.ensures (has_decides _ _)) c.if-has.false in
    set_as
    (set_bits a.before (search rules))
    (λ t b. inl b)
    (λ t w. ⊎_elim (λ b. b) (λ b. absurd (none b.0)) w)
