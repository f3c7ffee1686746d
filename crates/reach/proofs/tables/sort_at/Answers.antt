-- On the table the byte at the place of x, as it counts; past it none.
use borrow.Author.Tests.{lt-ltb, le-ltb}
use Rattle.reach.proofs.tables.sort_at.Goals as goal

pub returns-then-x-lt64 : goal.returns-then-x-lt64
returns-then-x-lt64 c = rw (lt-ltb _ _ c.if-x-lt64.true) c.of.ensures

pub returns-else-x-lt64 : goal.returns-else-x-lt64
returns-else-x-lt64 c = rw (le-ltb _ _ c.if-x-lt64.false)
