-- Each successor of a policy keeps the sizes of the tables, and the policy at the founding has them.
-- A store into a table changes no length, and neither does the same change to all its rows.
use mathlib.Core.Path.{◌≡◌, refl}
use mathlib.Core.Bool.{Bool, true, false}
use mathlib.Core.List.{map}
use Prim.Native.Nat.{ℕ}
use lib.ListN.{length, get_or, set, length-set, length-map}
use Rattle.reach.specs.declared.Policy.{Policy}
use Rattle.reach.specs.declared.Appointment.{Appointment}
use Rattle.reach.specs.declared.AccessRule.{AccessRule}
use Rattle.reach.specs.Tests.{◌⇒◌∥◌}
use Rattle.reach.specs.Tables.{Sized, initial}
use Rattle.reach.specs.Successors.{with_bit, without_bit, with_members, with_sorts, on_table, add_to, cleared}
use Rattle.reach.specs.Successors.{put, taken, made, appointed, ruled}
use Rattle.reach.proofs.Lists.{length_mapped}

-- From the lengths of the tables, those of structs as the code's facts give them.
pub sized_of_lengths : (p : Policy) (X Y : Type 0) (f : Appointment → X) (g : AccessRule → Y) → length p.sorts ≡ 64
    → length p.memberships ≡ 64 → length (map f p.appointments) ≡ 32 → length (map g p.rules) ≡ 64 → Sized p
sized_of_lengths p X Y f g s m a r =
    record {
      sorts = s;
      memberships = m;
      appointments = length_mapped _ _ f p.appointments 32 a;
      rules = length_mapped _ _ g p.rules 64 r;
    }

sized_if : (t : Bool) (p q : Policy) → Sized p → Sized q → Sized (t ⇒ p ∥ q)
sized_if true p q a b = a
sized_if false p q a b = b

module _ (p : Policy) (z : Sized p) where
  pub sized_made : (x s g : ℕ) → Sized (made p x s g)
  unfolding made
  sized_made x s g =
      sized_if (on_table x g) (with_sorts (with_members p (add_to (cleared p.memberships x) x g)) (set p.sorts x s)) p
      (record {
        sorts = simp length-set z.sorts;
        memberships = simp (length-set, length-map) z.memberships;
        appointments = z.appointments;
        rules = z.rules;
      })
      z

  sized_row : (x g w : ℕ) → Sized (on_table x g ⇒ with_members p (set p.memberships x w) ∥ p)
  sized_row x g w =
      sized_if (on_table x g) (with_members p (set p.memberships x w)) p
      (record { sorts = z.sorts; memberships = simp length-set z.memberships; appointments = z.appointments; rules = z.rules })
      z

  pub sized_put : (x g : ℕ) → Sized (put p x g)
  unfolding put
  sized_put x g = sized_row x g (with_bit g (get_or p.memberships x 0))

  pub sized_taken : (x g : ℕ) → Sized (taken p x g)
  unfolding taken
  sized_taken x g = sized_row x g (without_bit g (get_or p.memberships x 0))

  pub sized_appointed : (i : ℕ) (w : Appointment) → Sized (appointed p i w)
  unfolding appointed
  sized_appointed i w =
      record { sorts = z.sorts; memberships = z.memberships; appointments = simp length-set z.appointments; rules = z.rules }

  pub sized_ruled : (i : ℕ) (r : AccessRule) → Sized (ruled p i r)
  unfolding ruled
  sized_ruled i r =
      record { sorts = z.sorts; memberships = z.memberships; appointments = z.appointments; rules = simp length-set z.rules }

pub sized_initial : Sized initial
unfolding initial
sized_initial = record { sorts = refl; memberships = refl; appointments = refl; rules = refl }
