-- On the table the machine's word is the set without g, and past it nothing changes.
use lib.ListN.{get_or}
use mir.Syntax.{w64}
use mir.Val.{Fits}
use Rattle.reach.proofs.OneBit.{and_is_without}
use Rattle.std.proofs.Common.{rules}
use Rattle.reach.proofs.successors.take_out.Goals as goal

pub returns-then-x-g : goal.returns-then-x-g
returns-then-x-g c =
    let a = c.args in
    let fits : Fits w64 (get_or a.memberships.now a.x 0) = search rules in
    rw (c.if-x-g.true, and_is_without a.g (get_or a.memberships.now a.x 0) (search rules) fits.fits)
