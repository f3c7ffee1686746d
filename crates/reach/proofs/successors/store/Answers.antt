use mathlib.Core.Path.{sym}
use native.Mathlib.Omega.{arith}
use Rattle.reach.proofs.Lists.{set_past}
use Rattle.reach.proofs.successors.store.Goals as goal

pub returns-else-n : goal.returns-else-n
returns-else-n g c = sym (set_past c.args.table.now c.args.i c.args.value (omega (arith, c.told-table, c.if-n.false)))
