-- The file of a policy (document 02's card), and when two policies are the same on it. Everything is said of the policy as it is read.
use Rattle.std.specs.Prelude.{◌≡◌, Bool, true, false, ◌⊎◌, List, [], ◌∷◌, ◌++◌, ℕ, zero, suc, ltb, get_or, Option, Some, None}
use Rattle.frame.specs.Reading.{records_from, torn_from}
use Rattle.reach.specs.declared.Policy.{Policy}
use Rattle.reach.specs.declared.Appointment.{Appointment}
use Rattle.reach.specs.declared.AccessRule.{AccessRule}
use Rattle.reach.specs.Tests.{◌⇒◌∥◌}
use Rattle.reach.specs.Tables.{View, counted, standing, no_appointment, no_rule, appointment, rule}
use Rattle.rules.specs.Allowing.{Standing}
use Rattle.text.specs.Text.{Bytes}
use Rattle.snapshot.specs.declared.Entry.{Entry}
use Rattle.snapshot.specs.declared.Entry.TheVariants.{Object, Membership, Appointed, Granted}

-- [02:2.2] "Records are framed as document 01's request records: 16 object (number, sort), 17 direct membership (object, group), 18 warrant
-- (place, kind, holder, A, B), 19 rule (place, U, T, operations)." A card has no senders. An empty place has no record.
abbrev pub bytes_of : Option Entry → Bytes
bytes_of (Some (Object x s)) = 6 ∷ 0 ∷ 16 ∷ 0 ∷ x ∷ s ∷ []
bytes_of (Some (Membership x g)) = 6 ∷ 0 ∷ 17 ∷ 0 ∷ x ∷ g ∷ []
bytes_of (Some (Appointed i k h a b)) = 9 ∷ 0 ∷ 18 ∷ 0 ∷ i ∷ k ∷ h ∷ a ∷ b ∷ []
bytes_of (Some (Granted i u t o)) = 8 ∷ 0 ∷ 19 ∷ 0 ∷ i ∷ u ∷ t ∷ o ∷ []
bytes_of None = []

-- A sort, or a kind of an appointment, that counts: with any other the place is empty, whatever it holds.
abbrev pub known : ℕ → Bool
known s = ltb 0 (counted s)

-- What stands at a place, and is written if it is in use: object x of a sort, the membership of x in g if it is stored, an appointment and a
-- rule at place i.
abbrev pub object_of : ℕ → ℕ → Option Entry
object_of s x = known s ⇒ Some (Object x s) ∥ None

abbrev pub membership_of : Bool → ℕ → ℕ → Option Entry
membership_of is_stored x g = is_stored ⇒ Some (Membership x g) ∥ None

abbrev pub appointed_of : Appointment → ℕ → Option Entry
appointed_of w i = standing w ⇒ Some (Appointed i w.kind w.holder w.a w.b) ∥ None

abbrev pub granted_of : AccessRule → ℕ → Option Entry
granted_of r i = r.used ⇒ Some (Granted i r.users r.targets r.operations) ∥ None

-- The same of each place of a policy.
unfoldable pub object_at : View → ℕ → Option Entry
object_at v x = object_of (v.sort x) x

unfoldable pub membership_at : View → ℕ → ℕ → Option Entry
membership_at v x g = membership_of (v.stored x g) x g

unfoldable pub appointed_at : View → ℕ → Option Entry
appointed_at v i = appointed_of (v.appointment i) i

unfoldable pub granted_at : View → ℕ → Option Entry
granted_at v i = granted_of (v.rule i) i

-- What the places n, n + 1, .. give, l of them, one after the other.
unfoldable pub from : {A : Type 0} → ℕ → ℕ → (ℕ → List A) → List A
from zero n f = []
from (suc l) n f = f n ++ from l (suc n) f

-- [02:2.3] "They stand rising by kind, then by number or place; memberships by object, then group."
unfoldable pub in_order : {A : Type 0} → (Option Entry → List A) → View → List A
in_order f v =
    from 64 0 (λ x. f (object_at v x))
    ++ from 64 0 (λ x. from 64 0 (λ g. f (membership_at v x g)))
    ++ from 32 0 (λ i. f (appointed_at v i))
    ++ from 64 0 (λ i. f (granted_at v i))

abbrev pub file_of : View → Bytes
file_of v = in_order bytes_of v

-- The records themselves, in the same order.
abbrev pub record_of : Option Entry → List Bytes
record_of (Some e) = bytes_of (Some e) ∷ []
record_of None = []

-- [02:2.2] "Records are framed as document 01's request records": who reads a file as requests are read finds these records, one after the
-- other, and no torn place.
pub record Framed (v : View) : Type 0 where
  pub records : records_from (file_of v) 0 ≡ in_order record_of v
  pub whole : torn_from (file_of v) 0 ≡ false

abbrev pub EveryFileFramed : Type 0
EveryFileFramed = (v : View) → Framed v

-- [02:2.6] ".. they agree in every place in use and every membership": what stands in a place that is in use with one of them stands there
-- with the other.
pub record Same (v w : View) : Type 0 where
  pub sorts : (x : ℕ) → v.sort x ≡ w.sort x
  pub memberships : (x g : ℕ) → v.stored x g ≡ w.stored x g
  pub appointments : (i : ℕ) → Standing (v.appointment i) ⊎ Standing (w.appointment i) → v.appointment i ≡ w.appointment i
  pub rules : (i : ℕ) → ((v.rule i).used ≡ true) ⊎ ((w.rule i).used ≡ true) → v.rule i ≡ w.rule i

-- [02:2.5] ".. a sheet whose empty places hold zeros." A membership has no place of its own: that none is stored but those on the card is said by
-- FileOf, in Answers.
pub record Zeroed (p : Policy) : Type 0 where
  pub sorts : (x : ℕ) → known (get_or p.sorts x 0) ≡ false → get_or p.sorts x 0 ≡ 0
  pub appointments : (i : ℕ) → standing (appointment p i) ≡ false → appointment p i ≡ no_appointment
  pub rules : (i : ℕ) → (rule p i).used ≡ false → rule p i ≡ no_rule
