-- Into what is no group a PUT gives and hands over nothing, and neither where the object is under the group already. Else its sender gains in one
-- of four ways; and where he does not, those who hold the group and not the object tell, unless he owns the object.
use mathlib.Core.Path.{◌≡◌, refl}
use mathlib.Core.Bool.{true, false}
use mathlib.Core.Logic.{inl, inr, ⊎_elim}
use Prim.Native.Nat.{ℕ, ◌-◌, ◌^◌}
use native.Mathlib.Omega.{arith}
use lib.Bits.{and_comm}
use Rattle.reach.specs.declared.Policy.{Policy}
use Rattle.reach.specs.declared.Placing.{Placing}
use Rattle.reach.specs.Tables.{Sized, view}
use Rattle.reach.specs.Reach.{Group, Under}
use Rattle.reach.proofs.Lists.{length_mapped}
use Rattle.reach.proofs.Testing.{decides_at, decides_none, refuted}
use Rattle.reach.proofs.WordSets.{decides_has}
use Rattle.rules.specs.declared.Request.TheVariants.{Put}
use Rattle.rules.specs.Refusals.{own_gain}
use Rattle.gains.specs.Lacking.{LacksPut, held_owner, held_manager, pair, permit}
use Rattle.gains.specs.Lending.{Placed}
use Rattle.gains.proofs.Outright.{put_gains_none, put_own_gain, put_hands_none, put_hand_over}
use Rattle.gains.proofs.PutGives.{none_lacks_put}
use Rattle.gains.proofs.PutAgain.{put_again_gains, put_again_hands}
use Rattle.gains.proofs.Searched.{has_of}
use Rattle.gains.proofs.PutOver.{over_decides}
use Rattle.gains.proofs.Covering.{lacks_permit_opens}
use Rattle.gains.proofs.Lending.{above_by, group_lent, held_none, held_had}
use Rattle.gains.proofs.Looking.{decides_found, grows_lacks, lacks_grows}
use Rattle.gains.proofs.Verdicts.{given_own, given_over}
use Rattle.std.proofs.Common.{rules}
use Rattle.gains.proofs.putting.put_gives.Goals.{After-is_group, Else-not-is_group, Joined-rules_open}
use Rattle.gains.proofs.putting.put_gives.Goals.{then-rules_open+else-is_some, else-rules_open}
use Rattle.gains.proofs.putting.put_gives.Goals as goal

-- What is known of the PUT gives: the sender gains exactly if he lacks something.
module _ {p : Policy} {u x g : ℕ} {asked : Placing} where
  gains : Sized p → Group (view p) g → Placed p u x g asked → LacksPut (view p) u x g → true ≡ own_gain p u (Put x g)
  gains z group e l = put_own_gain _ z _ _ _ e.used group true e.user (decides_found l)

  gains_not : Sized p → Group (view p) g → Placed p u x g asked → (LacksPut (view p) u x g → ⊥) → false ≡ own_gain p u (Put x g)
  gains_not z group e n = put_own_gain _ z _ _ _ e.used group false e.user (decides_none n)

-- The tables of the policy have their sizes, and past the first test g is a group.
sized : (c : After-is_group) → Sized c.args.p
sized c = search (rules, length_mapped)

group : (c : Else-not-is_group) → Group (view c.args.p) c.args.g
group c = (group_lent c.args.p c.args.g c.objects-objects.ensures.sorts c.is_group.ensures).sound c.if-not-is_group.false

-- Past the four ways to gain there is none: he does not hold the group and not the object, no pair comes, and no permission is found.
none : (c : Joined-rules_open) → let a = c.args in Placed a.p a.u a.x a.g a.asked → LacksPut (view a.p) a.u a.x a.g → ⊥
none c e =
    let a = c.args in
    let grows = refuted c.posts_grow.ensures c.if-posts_grow.false in
    let t = c.objects-objects.ensures in
    let over = above_by a.p t.sorts t.memberships c.above-over.ensures in
    none_lacks_put
    (λ l. grows (inl (lacks_grows _ e.asked.posts.owner e.asked.first e.asked.second l)))
    (λ l. grows (inr (lacks_grows _ e.asked.posts.manager e.asked.first e.asked.second l)))
    (refuted (c.pairs_come.ensures _ _ e) c.if-pairs_come.false)
    (λ l.
    elim c.if-rules_open.branch [
      | then-rules_open+else-is_some w ↦
          refuted
          (decides_at w.is_some.ensures (w.put_permission.ensures _ _ e.user over e.asked.second))
          w.if-is_some.false
          l
      | else-rules_open w ↦
          refuted
          c.rules_open.ensures
          w.if-rules_open.false
          (lacks_permit_opens _ e.user over e.asked.first e.asked.second
          (has_of _ _ c.has-2.ensures (omega arith) (omega arith))
          c.only_if-more.ensures
          (omega (arith, and_comm a.asked.second (2 ^ 64 - 1 - a.asked.first)))
          l)
    ])

-- Into what is no group it gives and hands over nothing.
pub returns-then-not-is_group : goal.returns-then-not-is_group
returns-then-not-is_group c =
    let z = sized (goal.at.returns-then-not-is_group c).After-is_group in
    let n = refuted (group_lent c.args.p c.args.g c.objects-objects.ensures.sorts c.is_group.ensures) c.if-not-is_group.true in
    λ _. given_over _ _ _ (put_gains_none _ z _ _ _ (λ w. n w.1.1)) (put_hands_none _ z _ _ _ (λ w. n w.1)) refl

-- The object is under the group already.
pub returns-then-has : goal.returns-then-has
returns-then-has c =
    let w = goal.at.returns-then-has c in
    let z = sized w.After-is_group in
    let t = group w.Else-not-is_group in
    let a = c.args in
    let here = has_of a.asked.first a.g c.has.ensures (omega arith) (omega arith) in
    λ e.
    let under : Under (view a.p) a.x a.g = (decides_at here (decides_has e.asked.first _)).sound c.if-has.true in
    given_over _ _ _
    (gains_not z t e (put_again_gains under e.user))
    (put_hand_over _ z _ _ _ e.used t false (decides_none (put_again_hands under)))
    refl

pub returns-then-posts_grow : goal.returns-then-posts_grow
returns-then-posts_grow c =
    let w = goal.at.returns-then-posts_grow c in
    λ e. given_own _ _ _
    (gains (sized w.After-is_group) (group w.Else-not-is_group) e
    (⊎_elim
    (λ w. held_owner (grows_lacks _ e.asked.posts.owner e.asked.first e.asked.second w))
    (λ w. held_manager (grows_lacks _ e.asked.posts.manager e.asked.first e.asked.second w))
    (c.posts_grow.ensures.sound c.if-posts_grow.true)))

pub returns-then-pairs_come : goal.returns-then-pairs_come
returns-then-pairs_come c =
    let w = goal.at.returns-then-pairs_come c in
    λ e. given_own _ _ _
    (gains (sized w.After-is_group) (group w.Else-not-is_group) e
    (pair ((c.pairs_come.ensures _ _ e).sound c.if-pairs_come.true)))

pub returns-then-is_some : goal.returns-then-is_some
returns-then-is_some c =
    let w = goal.at.returns-then-is_some c in
    let t = c.objects-objects.ensures in
    let over = above_by c.args.p t.sorts t.memberships c.above-over.ensures in
    λ e. given_own _ _ _
    (gains (sized w.After-is_group) (group w.Else-not-is_group) e
    (permit
    ((decides_at c.is_some.ensures (c.put_permission.ensures _ _ e.user over e.asked.second)
    ).sound
    c.if-is_some.true)))

pub returns-then-posts-object-ne0 : goal.returns-then-posts-object-ne0
returns-then-posts-object-ne0 c =
    let w = goal.at.returns-then-posts-object-ne0 c in
    let z = sized w.After-is_group in
    let t = group w.Else-not-is_group in
    let same = and_comm c.args.asked.posts.owner c.args.asked.first in
    λ e. given_over _ _ _
    (gains_not z t e (none w.Joined-rules_open e))
    (put_hand_over _ z _ _ _ e.used t false
    (decides_none (λ l. l.not_own (held_had _ e.asked.posts.owner e.asked.first (λ n. c.if-posts-object-ne0.true (omega (arith, n, same)))))))
    refl

pub returns : goal.returns
returns c =
    let w = goal.at.returns c in
    let z = sized w.After-is_group in
    let t = group w.Else-not-is_group in
    let same = and_comm c.args.asked.posts.owner c.args.asked.first in
    λ e. given_over _ _ _
    (gains_not z t e (none w.Joined-rules_open e))
    (put_hand_over _ z _ _ _ e.used t _
    (over_decides _
    (held_none _ e.asked.posts.owner e.asked.first (omega (arith, c.if-posts-object-ne0.false, same)))
    (c.hands_over.ensures _ _ e.asked.first e.asked.second)))
    c.if_so.ensures
