use mathlib.Core.Path.{◌≡◌, refl, sym, ap, ◌∙◌}
use mathlib.Core.List.{List, map}
use native.Mathlib.Omega.{arith}
use Prim.Native.Nat.{ℕ, ◌*◌, ◌%◌, ◌^◌, ◌<◌}
use lib.ListN.{length, get_or, set}
use mir.Syntax.{w64}
use mir.Val.{Fits}
use Rattle.reach.specs.Successors.{without_bit, with_sorts, with_members, made}
use Rattle.reach.proofs.Lists.{map_to_next, map_to_all, map_agree}
use Rattle.reach.proofs.OneBit.{and_is_without, row_of_one}
use Rattle.std.proofs.Common.{rules}
use Rattle.reach.proofs.Policy.made.Invariants.{masked}
use Rattle.reach.proofs.Policy.made.Goals as goal

pub loop-row-init : goal.loop-row-init
loop-row-init c = refl

pub loop-row-preserved : goal.loop-row-preserved
loop-row-preserved c =
    ap (λ (l : List ℕ). set l c.loop-row.row-index (masked c.args.x (get_or l c.loop-row.row-index 0))) c.loop-row.invariant
    ∙ map_to_next (masked c.args.x) c.loop-row.row-index c.args.self.memberships

pub returns-after-loop-row : goal.returns-after-loop-row
unfolding made
returns-after-loop-row c =
    let a = c.args in
    let long : length a.self.memberships ≡ 64 = search rules in
    let x : a.x < 64 = search rules in
    let g : a.g < 64 = search rules in
    let rows : c.loop-row.row-items ≡ map (without_bit a.x) a.self.memberships =
    c.loop-row.invariant
    ∙ map_to_all (masked a.x) c.loop-row.row-index a.self.memberships (omega (arith, long, c.loop-row-test.false))
    ∙ map_agree (masked a.x) (without_bit a.x) a.self.memberships
    (λ i. let fits : Fits w64 (get_or a.self.memberships i 0) = search rules in and_is_without a.x _ x fits.fits) in
    rw
    c.if-x-g.true
    (ap
    (λ (l : List ℕ). with_sorts (with_members a.self l) (set a.self.sorts a.x a.sort))
    (ap (λ (l : List ℕ). set l a.x ((1 * 2 ^ a.g) % 2 ^ 64)) rows ∙ sym (row_of_one _ a.x a.g g)))

pub returns-else-x-g : goal.returns-else-x-g
unfolding made
returns-else-x-g c = rw c.if-x-g.false
