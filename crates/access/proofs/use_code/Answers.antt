-- The number is that of the verdict.
use Rattle.access.specs.Using.{use_code}
use Rattle.access.proofs.use_code.Goals as goal

pub returns : goal.returns
unfolding use_code
returns c = rw (c.code_of.ensures, c.use_verdict.ensures)
