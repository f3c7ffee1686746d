-- Check 5 of a MAKE is its clause of the definition.
use Rattle.rules.specs.Refusals.{off_the_sheet}
use Rattle.judge.proofs.form.off_the_sheet.Goals as goal

pub returns-in-Make : goal.returns-in-Make
unfolding off_the_sheet
returns-in-Make c = rw (c.in-Make.is, c.one_to_three.ensures)
