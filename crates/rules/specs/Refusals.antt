-- When the board says no: the twelve conditions, in the order and the words of document 01's table. [01:no.15] "In checks 5 to 7 the
-- numbers, named objects and group fields are the record's own; numbers stored on the sheet aren't checked there, and B of kinds 1 and 2
-- is only compared with 0."
use Rattle.std.specs.Prelude.{Bool, false, not, ◌&&◌, ◌||◌, List, ℕ, eqb, leb, ltb, length}
use Rattle.frame.specs.Fields.{length_field, kind_field}
use Rattle.reach.specs.declared.Policy.{Policy}
use Rattle.reach.specs.Tests.{◌⇒◌∥◌}
use Rattle.reach.specs.Tables.{appointment, standing, rule}
use Rattle.reach.specs.Reach.{in_use, is_group, is_user, is_target, direct}
use Rattle.reach.specs.Privileges.{administrator, orphaned}
use Rattle.rules.specs.declared.Request.{Request}
use Rattle.rules.specs.declared.Request.TheVariants.{Make, Put, Take, Appoint, Dismiss, Grant, Withdraw, Use}
use Rattle.rules.specs.Records.{length_of}
use Rattle.rules.specs.Authority.{may}
use Rattle.rules.specs.Doing.{after}
use Rattle.rules.specs.Gains.{gives, hands_over}

-- [01:no.1] torn: "fewer than 4 bytes, or their number differs from the length field"
unfoldable pub torn : List ℕ → Bool
torn b = ltb (length b) 4 || not (eqb (length b) (length_field b))

-- [01:no.2] unknown: "kind not 1 to 8"
unfoldable pub unknown : List ℕ → Bool
unknown b = not (leb 1 (kind_field b) && leb (kind_field b) 8)

-- [01:no.3] misfit: "length isn't the kind's"
unfoldable pub misfit : List ℕ → Bool
misfit b = not (eqb (length b) (length_of (kind_field b)))

-- [01:no.4] stranger: "sender above 63, or not a member"
unfoldable pub stranger : Policy → ℕ → Bool
stranger p u = ltb 63 u || not (is_user p u)

-- [01:no.5] off the sheet: "a number outside its table; MAKE sort or APPOINT kind not 1 to 3; B not 0 for kinds 1, 2; operation set 0;
-- operation above 7"
abbrev pub one_to_three : ℕ → Bool
one_to_three k = leb 1 k && leb k 3

unfoldable pub off_the_sheet : Request → Bool
off_the_sheet (Make i s g) = ltb 63 i || not (one_to_three s) || ltb 63 g
off_the_sheet (Put x g) = ltb 63 x || ltb 63 g
off_the_sheet (Take x g) = ltb 63 x || ltb 63 g
off_the_sheet (Appoint i k h a b) =
    ltb 31 i || not (one_to_three k) || ltb 63 h || ltb 63 a || (eqb k administrator ⇒ ltb 63 b ∥ not (eqb b 0))
off_the_sheet (Dismiss i) = ltb 31 i
off_the_sheet (Grant i u t o) = ltb 63 i || ltb 63 u || ltb 63 t || eqb o 0
off_the_sheet (Withdraw i) = ltb 63 i
off_the_sheet (Use x k) = ltb 63 x || ltb 7 k

-- [01:no.6] absent: "a named object is empty (the place to fill excepted), or DISMISS or WITHDRAW names an empty place"
abbrev pub empty : Policy → ℕ → Bool
empty p x = not (in_use p x)

unfoldable pub absent : Policy → Request → Bool
absent p (Make i s g) = empty p g
absent p (Put x g) = empty p x || empty p g
absent p (Take x g) = empty p x || empty p g
absent p (Appoint i k h a b) = empty p h || empty p a || eqb k administrator && empty p b
absent p (Dismiss i) = not (standing (appointment p i))
absent p (Grant i u t o) = empty p u || empty p t
absent p (Withdraw i) = not (rule p i).used
absent p (Use x k) = empty p x

-- [01:no.7] wrong sort: "a group field that isn't a group (B only for kind 3), a holder that isn't a member, USE on what isn't gear"
unfoldable pub wrong_sort : Policy → Request → Bool
wrong_sort p (Make i s g) = not (is_group p g)
wrong_sort p (Put x g) = not (is_group p g)
wrong_sort p (Take x g) = not (is_group p g)
wrong_sort p (Appoint i k h a b) = not (is_group p a) || eqb k administrator && not (is_group p b) || not (is_user p h)
wrong_sort p (Dismiss i) = false
wrong_sort p (Grant i u t o) = not (is_group p u) || not (is_group p t)
wrong_sort p (Withdraw i) = false
wrong_sort p (Use x k) = not (is_target p x)

-- [01:no.8] already so: "place to fill in use; PUT of a membership that is there; TAKE of one that isn't"
unfoldable pub already_so : Policy → Request → Bool
already_so p (Make i s g) = in_use p i
already_so p (Put x g) = direct p x g
already_so p (Take x g) = not (direct p x g)
already_so p (Appoint i k h a b) = standing (appointment p i)
already_so p (Dismiss i) = false
already_so p (Grant i u t o) = (rule p i).used
already_so p (Withdraw i) = false
already_so p (Use x k) = false

-- [01:no.9] no authority: "the section above"
unfoldable pub no_authority : Policy → ℕ → Request → Bool
no_authority p u q = not (may p u q)

-- [01:no.10] own gain: "PUT, APPOINT or GRANT would give its sender a holding"
unfoldable pub own_gain : Policy → ℕ → Request → Bool
own_gain p u (Put x g) = gives p (after p (Put x g)) u
own_gain p u (Appoint i k h a b) = gives p (after p (Appoint i k h a b)) u
own_gain p u (Grant i v t o) = gives p (after p (Grant i v t o)) u
own_gain p u (Make i s g) = false
own_gain p u (Take x g) = false
own_gain p u (Dismiss i) = false
own_gain p u (Withdraw i) = false
own_gain p u (Use x k) = false

-- [01:no.11] hand-over: "PUT would give some member ownership or management of an object that the sender doesn't own on the sheet
-- before it"
unfoldable pub hand_over : Policy → ℕ → Request → Bool
hand_over p u (Put x g) = hands_over p (after p (Put x g)) u
hand_over p u (Make i s g) = false
hand_over p u (Take x g) = false
hand_over p u (Appoint i k h a b) = false
hand_over p u (Dismiss i) = false
hand_over p u (Grant i v t o) = false
hand_over p u (Withdraw i) = false
hand_over p u (Use x k) = false

-- [01:no.12] orphan: "TAKE or DISMISS would leave an object in use that no member owns"
unfoldable pub orphan : Policy → Request → Bool
orphan p (Take x g) = orphaned (after p (Take x g))
orphan p (Dismiss i) = orphaned (after p (Dismiss i))
orphan p (Make i s g) = false
orphan p (Put x g) = false
orphan p (Appoint i k h a b) = false
orphan p (Grant i v t o) = false
orphan p (Withdraw i) = false
orphan p (Use x k) = false
