-- `put_table` stores the bytes of each place behind those of the places before it: its loop keeps `Drawing`.
use Rattle.export.proofs.Storing.{Drawing}
use Rattle.export.proofs.drawing.put_table.Given as goal

abbrev pub invariant-loop-i : goal.invariant-loop-i
invariant-loop-i g l = Drawing g.T.Drawn.bytes g.row.W l.start l.table l.initial.out l.out l.i
