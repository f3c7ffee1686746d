-- Check 12 of TAKE and DISMISS, told by the tables after the request.
use mathlib.Core.Path.{◌≡◌}
use Prim.Native.Nat.{ℕ}
use lib.ListN.{set}
use Rattle.reach.specs.declared.Policy.{Policy}
use Rattle.reach.specs.Tests.{◌⇒◌∥◌}
use Rattle.reach.specs.Tables.{no_appointment}
use Rattle.reach.specs.Privileges.{orphaned}
use Rattle.reach.specs.Successors.{on_table, remove_from}
use Rattle.reach.specs.Asking.{tables_of}
use Rattle.reach.proofs.Bereaving.{orphaned_taken, orphaned_dismissed}
use Rattle.rules.specs.declared.Request.TheVariants.{Take, Dismiss}
use Rattle.rules.specs.Doing.{after}
use Rattle.rules.specs.Refusals.{orphan}

module _ (p : Policy) where
  pub take_leaves : (x g : ℕ) → orphan p (Take x g)
      ≡ orphaned (tables_of p.sorts (on_table x g ⇒ remove_from p.memberships x g ∥ p.memberships) p.appointments)
  unfolding orphan after
  take_leaves x g = orphaned_taken p x g

  pub dismiss_leaves : (i : ℕ) → orphan p (Dismiss i) ≡ orphaned (tables_of p.sorts p.memberships (set p.appointments i no_appointment))
  unfolding orphan after
  dismiss_leaves i = orphaned_dismissed p i
