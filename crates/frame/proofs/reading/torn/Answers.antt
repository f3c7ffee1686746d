-- `torn` is its definition: the three tests, of the length field that the callee gives.
use Rattle.frame.proofs.reading.torn.Goals as goal

pub returns : goal.returns
returns c = rw c.length_field-length.ensures
