-- What the board keeps: the policy (document 01's sheet), as it counts whatever value it has, and the founding.
use Rattle.std.specs.Prelude.{◌≡◌, Bool, false, List, ◌∷◌, ℕ, leb, ltb, length, get_or, replicate, Option, Some, None}
use Rattle.reach.specs.declared.Policy.{Policy}
use Rattle.reach.specs.declared.Appointment.{Appointment}
use Rattle.reach.specs.declared.AccessRule.{AccessRule}
use Rattle.reach.specs.declared.Sort.{Sort}
use Rattle.reach.specs.declared.Sort.TheVariants.{Group, User, Target}
use Rattle.reach.specs.declared.Post.{Post}
use Rattle.reach.specs.declared.Post.TheVariants.{Owner, Manager, Administrator}
use Rattle.reach.specs.Words.{has}
use Rattle.reach.specs.Tests.{◌⇒◌∥◌}

-- [01:keeps.17] "An unknown sort or kind counts as empty": the sorts and the kinds of document 01 are 1 to 3, and 0 is empty.
unfoldable pub counted : ℕ → ℕ
counted n = leb n 3 ⇒ n ∥ 0

-- [01:keeps.7] "Sort 0 empty, 1 group (the thesis's domain), 2 member, 3 gear.": the number of each sort, and of none.
abbrev pub sort_number : Option Sort → ℕ
sort_number None = 0
sort_number (Some Group) = 1
sort_number (Some User) = 2
sort_number (Some Target) = 3

-- [01:keeps.11] ".. kind (1 owner, 2 manager, 3 administrator)": the number of each post, and of none.
abbrev pub post_number : Option Post → ℕ
post_number None = 0
post_number (Some Owner) = 1
post_number (Some Manager) = 2
post_number (Some Administrator) = 3

-- [01:keeps.6] "64 objects, numbers 0 to 63." [01:keeps.7] "Sort 0 empty, 1 group (the thesis's domain), 2 member, 3 gear."
-- A number past the table is as an empty object (D3).
abbrev pub sort_in : List ℕ → ℕ → ℕ
sort_in sorts x = ltb x 64 ⇒ counted (get_or sorts x 0) ∥ 0

unfoldable pub sort : Policy → ℕ → ℕ
sort p x = sort_in p.sorts x

-- [01:keeps.8] "With them, which object is directly in which group.": row x of the table is the set of the groups that x
-- is stored as directly in. Whether a stored membership counts is said in Reach.
unfoldable pub stored : Policy → ℕ → ℕ → Bool
stored p x g = has (get_or p.memberships x 0) g

-- [01:keeps.11] "32 warrants, places 0 to 31: empty, or kind (1 owner, 2 manager, 3 administrator), holder (a member), group A,
-- group B." [01:keeps.19] "A place that is empty at the founding, or that a request empties, holds zeros."
abbrev pub no_appointment : Appointment
no_appointment = record { kind = 0; holder = 0; a = 0; b = 0 }

unfoldable pub appointment : Policy → ℕ → Appointment
appointment p i = get_or p.appointments i no_appointment

-- Whether an appointment stands: its kind is one of the three (D4).
unfoldable pub standing : Appointment → Bool
standing w = ltb 0 (counted w.kind)

-- [01:keeps.14] "64 rules, places 0 to 63: empty, or user group U, gear group T and an 8-bit set of operations."
-- [01:keeps.18] "A rule place has its own mark, empty or in use."
abbrev pub no_rule : AccessRule
no_rule = record { used = false; users = 0; targets = 0; operations = 0 }

unfoldable pub rule : Policy → ℕ → AccessRule
rule p i = get_or p.rules i no_rule

-- The policy as it is read: what reach and privileges depend on, and nothing else.
pub record View : Type 0 where
  pub sort : ℕ → ℕ
  pub stored : ℕ → ℕ → Bool
  pub appointment : ℕ → Appointment
  pub rule : ℕ → AccessRule

abbrev pub view : Policy → View
view p = record { sort = sort p; stored = stored p; appointment = appointment p; rule = rule p }

-- The tables have their sizes, as those of every policy that the program holds.
pub record Sized (p : Policy) : Type 0 where
  pub sorts : length p.sorts ≡ 64
  pub memberships : length p.memberships ≡ 64
  pub appointments : length p.appointments ≡ 32
  pub rules : length p.rules ≡ 64

-- [01:keeps.20] "Founding gives: object 0 a group, object 1 a member directly in 0, warrant 0 owner held by 1 with A = 0, all
-- else empty."
unfoldable pub initial : Policy
initial =
    record {
      sorts = 1 ∷ 2 ∷ replicate 62 0;
      memberships = 0 ∷ 1 ∷ replicate 62 0;
      appointments = record { kind = 1; holder = 1; a = 0; b = 0 } ∷ replicate 31 no_appointment;
      rules = replicate 64 no_rule;
    }
