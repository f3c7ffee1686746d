-- Unless he appoints himself, is a user, and the place is on the table and A in use, it gives nothing; and else what he lacks by its kind.
use mathlib.Core.Path.{◌≡◌, refl, sym, ap, ◌∙◌}
use mathlib.Core.Bool.{Bool, false, ◌&&◌}
use mathlib.Core.List.{List}
use mathlib.Core.Logic.{inl, inr}
use Prim.Native.Nat.{ℕ, ◌<◌, ◌≤◌}
use native.Mathlib.Decide.{dec_lt}
use native.Mathlib.Omega.{arith}
use lib.Bits.{and_comm}
use lib.Dec.{eqb, ltb}
use Rattle.reach.specs.declared.Policy.{Policy}
use Rattle.reach.specs.Tests.{Decides}
use Rattle.reach.specs.Tables.{counted, post_number, sort_in, Sized, view}
use Rattle.reach.specs.Reach.{InUse, User}
use Rattle.reach.specs.Asking.{PostsOf}
use Rattle.reach.proofs.Lists.{length_mapped}
use Rattle.reach.proofs.Sorts.{counted_known, counted_unknown}
use Rattle.reach.proofs.Testing.{decides_and, decides_eqb, decides_ltb, decides_none, refuted}
use Rattle.reach.proofs.Meeting.{posts_of_user}
use Rattle.gains.proofs.Appointed.{lacks_held, lacks_pair, lacks_none}
use Rattle.gains.proofs.Searched.{decides_equal}
use Rattle.gains.proofs.Lending.{above_by, user_lent, used_lent, held_lacked}
use Rattle.gains.proofs.Outright.{appoint_own_gain, appoint_gains_past}
use Rattle.std.proofs.Common.{rules, Option, Some, None}
use Rattle.reach.specs.declared.Post.{Post}
use Rattle.reach.specs.declared.Post.TheVariants.{Owner, Manager, Administrator}
use Rattle.gains.proofs.own.appoint_gains.Goals.{After-objects-objects, Else-not-w-u, Else-not-is_user-in_use}
use Rattle.gains.proofs.own.appoint_gains.Goals as goal

-- The kind is the number of the post that it counts as; where it counts as none it is none of the three.
numbered : (v : Post) → (0 < post_number (Some v)) × (post_number (Some v) ≤ 3)
numbered Owner = (omega arith, omega arith)
numbered Manager = (omega arith, omega arith)
numbered Administrator = (omega arith, omega arith)

post_is : {o : Option Post} {w : Post} (v : Post) (n : ℕ) → post_number o ≡ counted n → o ≡ Some w → w ≡ v → n ≡ post_number (Some v)
post_is {w = w} v n e is f =
    let q : post_number (Some v) ≡ counted n = sym (ap post_number (is ∙ ap (λ (x : Post). Some x) f)) ∙ e in
    elim (dec_lt 3 n) [
      | yes l ↦ absurd (omega (arith, q, counted_unknown n l, (numbered v).0))
      | no l ↦ sym (q ∙ counted_known n (omega arith))
    ]

no_post : {o : Option Post} (v : Post) (n : ℕ) → post_number o ≡ counted n → o ≡ None → n ≡ post_number (Some v) → ⊥
no_post v n e is k =
    let q : 0 ≡ counted n = sym (ap post_number is) ∙ e in
    let b = numbered v in
    omega (arith, q, k, b.0, counted_known n (omega (arith, k, b.1)))

-- The tables have their sizes; who appoints himself, at a place of the table; and he is a user and its A in use.
sized : (c : After-objects-objects) → Sized c.args.p
sized c = search (rules, length_mapped)

own : (c : Else-not-w-u) → (c.args.w.holder ≡ c.args.u) × (c.args.place < 32)
own c = (decides_and _ _ (decides_eqb c.args.w.holder c.args.u) (decides_ltb c.args.place 32)).sound c.if-not-w-u.false

named : (p : Policy) (u x : ℕ) {l : List ℕ} {a b : Bool} → l ≡ p.sorts → a ≡ eqb (sort_in l u) 2 → b ≡ ltb 0 (sort_in l x)
    → Decides (a && b) (User (view p) u × InUse (view p) x)
named p u x e q r = decides_and _ _ (user_lent p u e q) (used_lent p x e r)

told : (c : Else-not-is_user-in_use) → User (view c.args.p) c.args.u × InUse (view c.args.p) c.args.w.a
told c =
    (named c.args.p c.args.u c.args.w.a c.objects-objects.ensures.sorts c.is_user.ensures c.in_use.ensures).sound c.if-not-is_user-in_use.false

pub returns-then-not-w-u : goal.returns-then-not-w-u
returns-then-not-w-u c =
    let sized : Sized c.args.p = search (rules, length_mapped) in
    let a = c.args in
    let n = refuted (decides_and _ _ (decides_eqb a.w.holder a.u) (decides_ltb a.place 32)) c.if-not-w-u.true in
    elim (dec_lt a.place 32) [
      | no l ↦ appoint_gains_past _ sized _ _ _ (omega (arith, l))
      | yes l ↦ appoint_own_gain _ sized _ _ _ false l (decides_none (λ w. n (w.own, l)))
    ]

pub returns-then-not-is_user-in_use : goal.returns-then-not-is_user-in_use
returns-then-not-is_user-in_use c =
    let w = goal.at.returns-then-not-is_user-in_use c in
    let sizes = sized w.After-objects-objects in
    let mine = own w.Else-not-w-u in
    let a = c.args in
    let n =
    refuted (named a.p a.u a.w.a c.objects-objects.ensures.sorts c.is_user.ensures c.in_use.ensures) c.if-not-is_user-in_use.true in
    appoint_own_gain _ sizes _ _ _ false mine.1 (decides_none (λ w. n (w.user, w.in_a)))

pub returns-in-Some-Owner : goal.returns-in-Some-Owner
returns-in-Some-Owner c =
    let w = goal.at.returns-in-Some-Owner c in
    let sizes = sized w.After-objects-objects in
    let mine = own w.Else-not-w-u in
    let known = told w.Else-not-is_user-in_use in
    let t = c.objects-objects.ensures in
    let above = above_by c.args.p t.sorts t.memberships c.above-above.ensures in
    let posts : PostsOf (view c.args.p) c.args.u c.posts_of-posts.result = posts_of_user _ known.0 c.posts_of-posts.ensures in
    appoint_own_gain _ sizes _ _ _ _ mine.1
    (lacks_held _ _ _ mine.0 known.0 known.1 1 (post_is Owner _ c.of.ensures c.in-Some-Owner.is c.in-Some-Owner.field-0-is) (inl refl)
    (decides_equal (held_lacked _ posts.owner above) (rw (and_comm c.posts_of-posts.result.owner c.above-above.result))))

pub returns-in-Some-Manager : goal.returns-in-Some-Manager
returns-in-Some-Manager c =
    let w = goal.at.returns-in-Some-Manager c in
    let sizes = sized w.After-objects-objects in
    let mine = own w.Else-not-w-u in
    let known = told w.Else-not-is_user-in_use in
    let t = c.objects-objects.ensures in
    let above = above_by c.args.p t.sorts t.memberships c.above-above.ensures in
    let posts : PostsOf (view c.args.p) c.args.u c.posts_of-posts.result = posts_of_user _ known.0 c.posts_of-posts.ensures in
    appoint_own_gain _ sizes _ _ _ _ mine.1
    (lacks_held _ _ _ mine.0 known.0 known.1 2 (post_is Manager _ c.of.ensures c.in-Some-Manager.is c.in-Some-Manager.field-0-is) (inr refl)
    (decides_equal (held_lacked _ posts.manager above) (rw (and_comm c.posts_of-posts.result.manager c.above-above.result))))

pub returns-in-Some-Administrator : goal.returns-in-Some-Administrator
returns-in-Some-Administrator c =
    let w = goal.at.returns-in-Some-Administrator c in
    let sizes = sized w.After-objects-objects in
    let mine = own w.Else-not-w-u in
    let known = told w.Else-not-is_user-in_use in
    let t = c.objects-objects.ensures in
    let above = above_by c.args.p t.sorts t.memberships c.above-above.ensures in
    appoint_own_gain _ sizes _ _ _ _ mine.1
    (lacks_pair _ _ _ mine.0 known.0 known.1 (post_is Administrator _ c.of.ensures c.in-Some-Administrator.is c.in-Some-Administrator.field-0-is)
    (c.lacks_first.ensures _ known.0 above))

pub returns-in-None : goal.returns-in-None
returns-in-None c =
    let w = goal.at.returns-in-None c in
    let sizes = sized w.After-objects-objects in
    let mine = own w.Else-not-w-u in
    let none = λ (v : Post) (e : c.args.w.kind ≡ post_number (Some v)). no_post v _ c.of.ensures c.in-None.is e in
    appoint_own_gain _ sizes _ _ _ false mine.1
    (decides_none (lacks_none _ _ _ (none Owner) (none Manager) (none Administrator)))
