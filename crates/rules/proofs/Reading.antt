-- What is read of the policy after a request whose fields fit is what the second wording says, and the tables keep their sizes. By the
-- laws of reach on each successor.
use mathlib.Core.Path.{◌≡◌, refl}
use Prim.Native.Nat.{ℕ, ◌<◌}
use native.Mathlib.Omega.{arith}
use Rattle.reach.specs.declared.Policy.{Policy}
use Rattle.reach.specs.Tables.{Sized, view}
use Rattle.reach.specs.Reach.{Group}
use Rattle.reach.proofs.Chains.{in_use_below}
use Rattle.reach.proofs.AsRead.{view_of_made, view_of_put, view_of_taken, view_of_appointed, view_of_dismissed, view_of_granted, view_of_withdrawn}
use Rattle.reach.proofs.Sizes.{sized_made, sized_put, sized_taken, sized_appointed, sized_ruled}
use Rattle.rules.specs.declared.Request.{Request}
use Rattle.rules.specs.declared.Request.TheVariants.{Make, Put, Take, Appoint, Dismiss, Grant, Withdraw, Use}
use Rattle.rules.specs.Doing.{after}
use Rattle.rules.specs.Allowing.{Fits, view_after}

group_on : (p : Policy) (g : ℕ) → Group (view p) g → g < 64
group_on p g e = in_use_below p g (omega (arith, e))

pub view_of_after : (p : Policy) → Sized p → (q : Request) → Fits (view p) q → view (after p q) ≡ view_after (view p) q
unfolding after
view_of_after p z (Make i s g) f = view_of_made p z i s g f.0 (group_on p g f.2)
view_of_after p z (Put x g) f = view_of_put p z x g (in_use_below p x f.0) (group_on p g f.1)
view_of_after p z (Take x g) f = view_of_taken p z x g (in_use_below p x f.0) (group_on p g f.1)
view_of_after p z (Appoint i k h a b) f = view_of_appointed p z i _ f.0
view_of_after p z (Dismiss i) f = view_of_dismissed p z i f.0
view_of_after p z (Grant i u t o) f = view_of_granted p z i u t o f.0
view_of_after p z (Withdraw i) f = view_of_withdrawn p z i f.0
view_of_after p z (Use x k) f = refl

pub sized_after : (p : Policy) → Sized p → (q : Request) → Sized (after p q)
unfolding after
sized_after p z (Make i s g) = sized_made p z i s g
sized_after p z (Put x g) = sized_put p z x g
sized_after p z (Take x g) = sized_taken p z x g
sized_after p z (Appoint i k h a b) = sized_appointed p z i _
sized_after p z (Dismiss i) = sized_appointed p z i _
sized_after p z (Grant i u t o) = sized_ruled p z i _
sized_after p z (Withdraw i) = sized_ruled p z i _
sized_after p z (Use x k) = z
