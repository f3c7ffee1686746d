-- Unless he is a user and the place is on the table it gives nothing; nor unless he is among its users; nor if the rules that cover him have
-- its operations over what its T is under; and else the search tells.
use mathlib.Core.Bool.{false}
use Prim.Native.Nat.{◌<◌}
use native.Mathlib.Omega.{arith}
use Rattle.reach.specs.Tables.{Sized, view}
use Rattle.reach.specs.Reach.{User}
use Rattle.reach.proofs.Lists.{length_mapped}
use Rattle.reach.proofs.Testing.{decides_at, decides_and, decides_ltb, decides_none, refuted}
use Rattle.reach.proofs.WordSets.{decides_has}
use Rattle.gains.proofs.Lending.{above_by, user_lent}
use Rattle.gains.proofs.Outright.{grant_own_gain, grant_gains_none}
use Rattle.gains.proofs.Searched.{granted_users, grant_found}
use Rattle.gains.proofs.Covering.{none_lacks_ruled}
use Rattle.std.proofs.Common.{rules}
use Rattle.gains.proofs.own.grant_gains.Goals.{After-objects-objects, Else-not-place-is_user}
use Rattle.gains.proofs.own.grant_gains.Goals as goal

-- The tables have their sizes, and past the first test the place is on the table and the sender a user.
sized : (c : After-objects-objects) → Sized c.args.p
sized c = search (rules, length_mapped)

told : (c : Else-not-place-is_user) → (c.args.place < 64) × User (view c.args.p) c.args.u
told c = (decides_and _ _ (decides_ltb _ 64) (user_lent c.args.p _ c.objects-objects.ensures.sorts c.is_user.ensures)).sound c.if-not-place-is_user.false

pub returns-then-not-place-is_user : goal.returns-then-not-place-is_user
returns-then-not-place-is_user c =
    let w = goal.at.returns-then-not-place-is_user c in
    let sizes = sized w.After-objects-objects in
    grant_gains_none _ sizes _ _ _ _ _
    (refuted (decides_and _ _ (decides_ltb _ 64) (user_lent c.args.p _ c.objects-objects.ensures.sorts c.is_user.ensures)) c.if-not-place-is_user.true)

pub returns-then-not-has : goal.returns-then-not-has
returns-then-not-has c =
    let w = goal.at.returns-then-not-has c in
    let sizes = sized w.After-objects-objects in
    let known = told w.Else-not-place-is_user in
    let t = c.objects-objects.ensures in
    let over = above_by c.args.p t.sorts t.memberships c.above-over.ensures in
    grant_own_gain _ sizes _ _ _ _ _ false known.0 known.1
    (decides_none (λ l. refuted (decides_at c.has.ensures (decides_has over _)) c.if-not-has.true l.among))

pub returns-then-rule-operations_over-eq0 : goal.returns-then-rule-operations_over-eq0
returns-then-rule-operations_over-eq0 c =
    let w = goal.at.returns-then-rule-operations_over-eq0 c in
    let sizes = sized w.After-objects-objects in
    let known = told w.Else-not-place-is_user in
    let t = c.objects-objects.ensures in
    let over = above_by c.args.p t.sorts t.memberships c.above-over.ensures in
    grant_own_gain _ sizes _ _ _ _ _ false known.0 known.1
    (decides_none
    (none_lacks_ruled _ known.1 over (above_by c.args.p t.sorts t.memberships c.above-above.ensures) c.operations_over.ensures (omega arith)
    (omega arith)
    (search rules)
    c.if-rule-operations_over-eq0.true))

pub returns : goal.returns
returns c =
    let w = goal.at.returns c in
    let sizes = sized w.After-objects-objects in
    let known = told w.Else-not-place-is_user in
    let t = c.objects-objects.ensures in
    let over = above_by c.args.p t.sorts t.memberships c.above-over.ensures in
    let among = (decides_at c.has.ensures (decides_has over _)).sound c.if-not-has.false in
    grant_own_gain _ sizes _ _ _ _ _ _ known.0 known.1
    (decides_at c.is_some.ensures
    (grant_found _ known.1 over
    (granted_users c.args.p.rules c.granted-had.ensures (omega arith))
    among
    c.just.ensures
    c.spread-got.ensures
    c.first_fresh.result
    c.first_fresh.ensures))
