-- The reader gives as many items as it makes steps: no more than there are bytes.
use mathlib.Core.Path.{ap, ◌∙◌}
use mathlib.Core.Logic.{inl}
use Prim.Native.Nat.{◌<◌, ◌^◌}
use native.Mathlib.Omega.{arith}
use lib.ListN.{length}
use Rattle.std.proofs.Common.{rules}
use Rattle.std.proofs.lemmas.Iterator.Consumers.{count_from_yields_List}
use Rattle.frame.specs.Reading.{left}
use Rattle.frame.proofs.Giving.{given_left, steps_items, steps_few}
use Rattle.frame.proofs.reading.count_steps.Goals as goal

pub count-requires-clause-fits : goal.count-requires-clause-fits
count-requires-clause-fits c =
    let short : length c.args.bytes.now < 2 ^ 64 = search rules in
    inl (rw (ap left c.new.ensures) (omega (arith, short, steps_items c.args.bytes.now, steps_few c.args.bytes.now)))

pub returns : goal.returns
returns c =
    count_from_yields_List _ _ c.count.ensures.ran (given_left _) ∙ ap (λ r. length (left r)) c.new.ensures ∙ steps_items _
