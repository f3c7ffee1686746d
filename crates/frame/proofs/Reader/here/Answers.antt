-- What stands here is what is read at the position.
use Rattle.frame.proofs.Reader.here.Goals as goal

pub returns : goal.returns
returns c = c.read_at.ensures
