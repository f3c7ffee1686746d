-- `has` is its definition: `(set >> x) & 1` is bit x, and a word has no bit from 64 up.
use borrow.Author.Tests.{le-ltb}
use Rattle.reach.specs.Words.{has}
use Rattle.reach.proofs.Bits.{low_bit, bit_high}
use Rattle.reach.proofs.sets.has.Goals as goal

pub returns-then-x-lt64 : goal.returns-then-x-lt64
unfolding has
returns-then-x-lt64 c = rw low_bit

pub returns-else-x-lt64 : goal.returns-else-x-lt64
unfolding has
returns-else-x-lt64 c = rw (le-ltb _ _ c.if-x-lt64.false, bit_high 64 _ _ c.ranges.set.fits c.if-x-lt64.false)
