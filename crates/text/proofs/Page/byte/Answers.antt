-- A byte is written at the place: with room it is stored there, and a full buffer stays as it is, since the byte is cut off. Both are laws of
-- Writing, by the test that was made.
use mathlib.Core.Path.{refl}
use native.Mathlib.Omega.{arith}
use Rattle.text.proofs.Writing.{wrote_byte, wrote_full}
use Rattle.text.proofs.Page.byte.Goals as goal

pub returns-then-self : goal.returns-then-self
returns-then-self c = record { wrote = wrote_byte _ _ _ _ c.if-self.true (omega arith); same = refl }

pub returns-else-self : goal.returns-else-self
returns-else-self c = record { wrote = wrote_full _ _ _ c.if-self.false; same = refl }
