-- The table without the membership, and all else as it was.
use mathlib.Core.Bool.{Bool, true, false}
use mathlib.Core.Path.{◌≡◌, refl}
use Rattle.reach.specs.declared.Policy.{Policy}
use Rattle.reach.specs.Tests.{◌⇒◌∥◌}
use Rattle.reach.specs.Successors.{on_table, with_members, remove_from, taken}
use Rattle.reach.proofs.Policy.taken.Goals as goal

pub returns : goal.returns
unfolding taken
returns c =
    let a = c.args in rw c.take_out.ensures (go a.self (on_table a.x a.g))
  where
    go : (p : Policy) (t : Bool) → with_members p (t ⇒ remove_from p.memberships c.args.x c.args.g ∥ p.memberships) ≡ (t ⇒ with_members p (remove_from p.memberships c.args.x c.args.g) ∥ p)
    go p true = refl
    go p false = refl
