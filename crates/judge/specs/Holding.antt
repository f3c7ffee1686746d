-- Checks 8 and 9 as they are looked at: by what stands at the place that a request names, and what its sender holds over two objects. Those
-- of a PUT and of a USE are asked elsewhere.
use Rattle.std.specs.Prelude.{Bool, false, not, ◌&&◌, ◌||◌, ℕ, eqb, None, Ok, Err}
use Rattle.reach.specs.declared.Policy.{Policy}
use Rattle.reach.specs.declared.Over.{Over}
use Rattle.reach.specs.declared.Held.{Held}
use Rattle.reach.specs.Tests.{◌⇒◌∥◌}
use Rattle.reach.specs.Tables.{appointment, standing, rule}
use Rattle.reach.specs.Reach.{in_use}
use Rattle.reach.specs.Privileges.{administrator}
use Rattle.reach.specs.Asking.{held_of}
use Rattle.rules.specs.declared.Request.{Request}
use Rattle.rules.specs.declared.Request.TheVariants.{Make, Put, Take, Appoint, Dismiss, Grant, Withdraw, Use}
use Rattle.rules.specs.declared.Refusal.TheVariants.{AlreadySo, NoAuthority}
use Rattle.rules.specs.Judging.{Verdict}

-- The two objects that a request is about; 255 is the number of none. DISMISS and WITHDRAW go by the numbers that the place holds.
abbrev pub first_of : Policy → Request → ℕ
first_of p (Make i s g) = g
first_of p (Put x g) = x
first_of p (Take x g) = x
first_of p (Appoint i k h a b) = a
first_of p (Dismiss i) = (appointment p i).a
first_of p (Grant i u t o) = u
first_of p (Withdraw i) = (rule p i).users
first_of p (Use x k) = 255

abbrev pub side_of : ℕ → ℕ → ℕ
side_of kind b = eqb kind administrator ⇒ b ∥ 255

abbrev pub second_of : Policy → Request → ℕ
second_of p (Make i s g) = 255
second_of p (Put x g) = g
second_of p (Take x g) = g
second_of p (Appoint i k h a b) = side_of k b
second_of p (Dismiss i) = side_of (appointment p i).kind (appointment p i).b
second_of p (Grant i u t o) = t
second_of p (Withdraw i) = (rule p i).targets
second_of p (Use x k) = 255

-- Owns or manages.
abbrev pub governs : Over → Bool
governs o = o.owned || o.managed

-- An appointment of that kind may be made and undone.
abbrev pub appoints : Held → ℕ → Bool
appoints h kind = eqb kind administrator ⇒ h.first.managed && h.second.managed ∥ h.first.owned

-- Check 8 of every kind but PUT.
abbrev pub so_already : Policy → Held → Request → Bool
so_already p h (Make i s g) = in_use p i
so_already p h (Put x g) = false
so_already p h (Take x g) = not h.direct
so_already p h (Appoint i k o a b) = standing (appointment p i)
so_already p h (Dismiss i) = false
so_already p h (Grant i u t o) = (rule p i).used
so_already p h (Withdraw i) = false
so_already p h (Use x k) = false

-- Check 9 of every kind but PUT and USE.
abbrev pub unentitled : Policy → Held → Request → Bool
unentitled p h (Make i s g) = not (governs h.first)
unentitled p h (Put x g) = false
unentitled p h (Take x g) = not (governs h.first && governs h.second)
unentitled p h (Appoint i k o a b) = not (appoints h k)
unentitled p h (Dismiss i) = not (appoints h (appointment p i).kind)
unentitled p h (Grant i u t o) = not h.pair
unentitled p h (Withdraw i) = not (h.pair || h.second.owned)
unentitled p h (Use x k) = false

-- What the two checks come to, by what is held over the two objects: what passes them is done, and no rule is cited.
unfoldable pub looked_at : Policy → ℕ → Request → Verdict
looked_at p u q =
    let h = held_of p u (first_of p q) (second_of p q) in so_already p h q ⇒ Err AlreadySo ∥ unentitled p h q ⇒ Err NoAuthority ∥ Ok None
