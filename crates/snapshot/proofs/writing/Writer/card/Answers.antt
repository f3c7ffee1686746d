-- The four parts follow each other as in the file.
use Rattle.snapshot.specs.Card.{in_order}
use Rattle.snapshot.proofs.Penning.{penned_as, penned_then, objects_are, memberships_are, appointments_are, rules_are}
use Rattle.snapshot.proofs.writing.Writer.card.Goals as goal

pub returns : goal.returns
unfolding in_order
returns c =
    let p = c.args.p.now in
    penned_then
    (penned_then
    (penned_then (penned_as (objects_are p) c.table.ensures)
    (penned_as (memberships_are p) c.memberships.ensures))
    (penned_as (appointments_are p) c.table-2.ensures))
    (penned_as (rules_are p) c.table-3.ensures)
