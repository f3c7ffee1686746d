-- The bytes stay, and the position is where reading goes on.
use mathlib.Core.Path.{ap, ◌∙◌}
use Rattle.frame.specs.Reading.{reader_at}
use Rattle.frame.proofs.Reader.after.Goals as goal

pub returns : goal.returns
returns c = c.new.ensures ∙ ap (reader_at c.args.self.bytes) c.read_after.ensures
