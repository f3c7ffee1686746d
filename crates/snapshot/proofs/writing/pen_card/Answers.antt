use Rattle.std.proofs.Common.{rules}
use Rattle.snapshot.proofs.Largest.{file_fits}
use Rattle.snapshot.proofs.Penning.{bytes_of_penned, length_of_penned}
use Rattle.snapshot.proofs.writing.pen_card.Goals as goal

pub returns-clause-bytes : goal.returns-clause-bytes
returns-clause-bytes c = search (rules, bytes_of_penned c.new-writer.ensures.place c.new-writer.ensures.bytes c.card.ensures, c.card.ensures.puts.same)

pub returns-clause-count : goal.returns-clause-count
returns-clause-count c = length_of_penned c.new-writer.ensures.needed c.card.ensures (file_fits _)
