-- The tables lent are its own.
use mathlib.Core.Path.{refl}
use Rattle.reach.proofs.Policy.objects.Goals as goal

pub returns-clause-memberships : goal.returns-clause-memberships
returns-clause-memberships c = refl
