-- Bytes for the largest file are enough for that of any sound policy; with fewer, the file is measured.
use Rattle.std.proofs.Common.{arith}
use borrow.Author.Tests.{le-ltb}
use Rattle.soundness.proofs.Fitting.{never}
use Rattle.snapshot.proofs.Largest.{largest_file}
use Rattle.snapshot.proofs.writing.too_few.Goals as goal

pub returns-else-room-lt25376 : goal.returns-else-room-lt25376
returns-else-room-lt25376 c =
    let enough = c.if-room-lt25376.false in
    rw (le-ltb c.args.room 25376 enough) (never (λ l. omega (arith, l, enough, largest_file _ c.requires)))
