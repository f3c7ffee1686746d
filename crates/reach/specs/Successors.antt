-- The policy after each accepted change, whole. Whatever a change does not name stays as it was, bit for bit, and one of an object, group
-- or place past its table changes nothing (D6).
use Rattle.std.specs.Prelude.{Bool, true, ◌&&◌, List, map, ℕ, ◌+◌, ◌-◌, ◌^◌, ltb, get_or, set}
use Rattle.reach.specs.declared.Policy.{Policy}
use Rattle.reach.specs.declared.Appointment.{Appointment}
use Rattle.reach.specs.declared.AccessRule.{AccessRule}
use Rattle.reach.specs.Words.{has}
use Rattle.reach.specs.Tests.{◌⇒◌∥◌}
use Rattle.reach.specs.Tables.{no_appointment, no_rule}

-- The set w with x, and without x.
unfoldable pub with_bit : ℕ → ℕ → ℕ
with_bit x w = has w x ⇒ w ∥ w + 2 ^ x

unfoldable pub without_bit : ℕ → ℕ → ℕ
without_bit x w = has w x ⇒ w - 2 ^ x ∥ w

-- The policy with another table in the place of one of its own.
abbrev pub with_sorts : Policy → List ℕ → Policy
with_sorts p l = record { sorts = l; memberships = p.memberships; appointments = p.appointments; rules = p.rules }

abbrev pub with_members : Policy → List ℕ → Policy
with_members p l = record { sorts = p.sorts; memberships = l; appointments = p.appointments; rules = p.rules }

abbrev pub with_appointments : Policy → List Appointment → Policy
with_appointments p l = record { sorts = p.sorts; memberships = p.memberships; appointments = l; rules = p.rules }

abbrev pub with_rules : Policy → List AccessRule → Policy
with_rules p l = record { sorts = p.sorts; memberships = p.memberships; appointments = p.appointments; rules = l }

abbrev pub on_table : ℕ → ℕ → Bool
on_table x g = ltb x 64 && ltb g 64

-- [01:who.6] "They add or remove that one direct membership."
abbrev pub add_to : List ℕ → ℕ → ℕ → List ℕ
add_to l x g = set l x (with_bit g (get_or l x 0))

abbrev pub remove_from : List ℕ → ℕ → ℕ → List ℕ
remove_from l x g = set l x (without_bit g (get_or l x 0))

unfoldable pub put : Policy → ℕ → ℕ → Policy
put p x g = on_table x g ⇒ with_members p (add_to p.memberships x g) ∥ p

unfoldable pub taken : Policy → ℕ → ℕ → Policy
taken p x g = on_table x g ⇒ with_members p (remove_from p.memberships x g) ∥ p

-- [01:who.3] "The new object is directly in it." [01:who.4] "Every other membership stored for the new number, on either side, is cleared."
abbrev pub cleared : List ℕ → ℕ → List ℕ
cleared l x = set (map (without_bit x) l) x 0

-- The object made, of its sort and in its group; past the table nothing changes.
unfoldable pub made : Policy → ℕ → ℕ → ℕ → Policy
made p x k g = on_table x g ⇒ with_sorts (with_members p (add_to (cleared p.memberships x) x g)) (set p.sorts x k) ∥ p

-- APPOINT and DISMISS fill and empty a place; [01:keeps.19] a place "that a request empties, holds zeros". `set` past the end of a list
-- changes nothing.
unfoldable pub appointed : Policy → ℕ → Appointment → Policy
appointed p i w = with_appointments p (set p.appointments i w)

abbrev pub dismissed : Policy → ℕ → Policy
dismissed p i = appointed p i no_appointment

-- [01:who.10] GRANT, WITHDRAW: "Fills or empties that place."
unfoldable pub ruled : Policy → ℕ → AccessRule → Policy
ruled p i r = with_rules p (set p.rules i r)

abbrev pub granted : Policy → ℕ → ℕ → ℕ → ℕ → Policy
granted p i u t o = ruled p i (record { used = true; users = u; targets = t; operations = o })

abbrev pub withdrawn : Policy → ℕ → Policy
withdrawn p i = ruled p i no_rule
