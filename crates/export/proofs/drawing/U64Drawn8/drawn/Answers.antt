use Rattle.std.proofs.Common.{◌∙◌}
use Rattle.export.proofs.Tabling.{bytes_of_eight}
use Rattle.export.proofs.drawing.U64Drawn8.drawn.Goals as goal

pub returns : goal.returns
returns c = c.to_le_bytes.ensures ∙ bytes_of_eight _
