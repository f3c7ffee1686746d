-- What is told of the checks by the kind of a request alone: of a USE check 9 is asked by the rules, of a PUT checks 10 and 11 with it.
use Rattle.std.specs.Prelude.{Bool, true, false, ℕ, eqb}
use Rattle.rules.specs.declared.Request.{Request}
use Rattle.rules.specs.declared.Request.TheVariants.{Make, Put, Take, Appoint, Dismiss, Grant, Withdraw, Use}

abbrev pub is_put : Request → Bool
is_put (Make i s g) = false
is_put (Put x g) = true
is_put (Take x g) = false
is_put (Appoint i k h a b) = false
is_put (Dismiss i) = false
is_put (Grant i u t o) = false
is_put (Withdraw i) = false
is_put (Use x k) = false

abbrev pub is_use : Request → Bool
is_use (Make i s g) = false
is_use (Put x g) = false
is_use (Take x g) = false
is_use (Appoint i k h a b) = false
is_use (Dismiss i) = false
is_use (Grant i u t o) = false
is_use (Withdraw i) = false
is_use (Use x k) = true

-- It can give its sender u a holding (check 10), and is no PUT, which is asked this with check 9. Who appoints another gains nothing.
abbrev pub can_gain : ℕ → Request → Bool
can_gain u (Make i s g) = false
can_gain u (Put x g) = false
can_gain u (Take x g) = false
can_gain u (Appoint i k h a b) = eqb h u
can_gain u (Dismiss i) = false
can_gain u (Grant i v t o) = true
can_gain u (Withdraw i) = false
can_gain u (Use x k) = false

-- It can leave an object without an owner (check 12).
abbrev pub can_orphan : Request → Bool
can_orphan (Make i s g) = false
can_orphan (Put x g) = false
can_orphan (Take x g) = true
can_orphan (Appoint i k h a b) = false
can_orphan (Dismiss i) = true
can_orphan (Grant i u t o) = false
can_orphan (Withdraw i) = false
can_orphan (Use x k) = false
