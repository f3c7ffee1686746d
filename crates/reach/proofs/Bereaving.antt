-- Whether some object has no owner after an object is taken out of a group, and after an appointment is taken away: each changes one table.
use mathlib.Core.Path.{◌≡◌}
use mathlib.Core.Bool.{Bool, true, false}
use Prim.Native.Nat.{ℕ}
use lib.ListN.{set}
use Rattle.reach.specs.declared.Policy.{Policy}
use Rattle.reach.specs.Tests.{◌⇒◌∥◌}
use Rattle.reach.specs.Tables.{no_appointment}
use Rattle.reach.specs.Privileges.{orphaned}
use Rattle.reach.specs.Successors.{with_members, with_appointments, on_table, remove_from, taken, appointed, dismissed}
use Rattle.reach.specs.Asking.{tables_of}
use Rattle.reach.proofs.Owning.{orphaned_by_tables}

pub orphaned_taken : (p : Policy) (x g : ℕ)
    → orphaned (taken p x g)
    ≡ orphaned (tables_of p.sorts (on_table x g ⇒ remove_from p.memberships x g ∥ p.memberships) p.appointments)
unfolding taken
orphaned_taken p x g = go (on_table x g)
  where
    go : (t : Bool)
        → orphaned (t ⇒ with_members p (remove_from p.memberships x g) ∥ p)
        ≡ orphaned (tables_of p.sorts (t ⇒ remove_from p.memberships x g ∥ p.memberships) p.appointments)
    go true = orphaned_by_tables (with_members p (remove_from p.memberships x g))
    go false = orphaned_by_tables p

pub orphaned_dismissed : (p : Policy) (i : ℕ)
    → orphaned (dismissed p i) ≡ orphaned (tables_of p.sorts p.memberships (set p.appointments i no_appointment))
unfolding appointed
orphaned_dismissed p i = orphaned_by_tables (with_appointments p (set p.appointments i no_appointment))
