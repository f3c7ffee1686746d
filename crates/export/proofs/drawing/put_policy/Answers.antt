-- `put_policy` stores the four tables, each at its place: together they are the picture, by `picture_stored`.
use Rattle.export.proofs.Picturing.{picture_stored}
use Rattle.reach.specs.Tables.{Sized}
use Rattle.reach.proofs.Lists.{length_mapped}
use Rattle.std.proofs.Common.{rules}
use Rattle.export.proofs.drawing.put_policy.Goals as goal

pub returns : goal.returns
returns c =
    let sized : Sized c.args.p = record {
      sorts = search rules;
      memberships = search rules;
      appointments = search (rules, length_mapped);
      rules = search (rules, length_mapped);
    } in
    rw
    (c.put_table-3.ensures, c.put_table-2.ensures, c.put_table.ensures, c.copy_from_slice.ensures.after)
    (picture_stored _ sized _ c.told-out)
