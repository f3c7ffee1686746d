-- The length of each kind is its definition, arm by arm; the last arm is every other number.
use Rattle.std.proofs.Common.{arith}
use Rattle.std.proofs.lemmas.Bool.Decides.{nat_tests}
use Rattle.rules.specs.Records.{length_of}
use Rattle.judge.proofs.records.length_of.Goals as goal

pub returns-in-1 : goal.returns-in-1
unfolding length_of
returns-in-1 c = simp c.in-1.is

pub returns-in-2 : goal.returns-in-2
unfolding length_of
returns-in-2 c = simp c.in-2.is

pub returns-in-3 : goal.returns-in-3
unfolding length_of
returns-in-3 c = simp c.in-3.is

pub returns-in-4 : goal.returns-in-4
unfolding length_of
returns-in-4 c = simp c.in-4.is

pub returns-in-5 : goal.returns-in-5
unfolding length_of
returns-in-5 c = simp c.in-5.is

pub returns-in-6 : goal.returns-in-6
unfolding length_of
returns-in-6 c = simp c.in-6.is

pub returns-in-7 : goal.returns-in-7
unfolding length_of
returns-in-7 c = simp c.in-7.is

pub returns-in-8 : goal.returns-in-8
unfolding length_of
returns-in-8 c = simp c.in-8.is

pub returns-in_default : goal.returns-in_default
unfolding length_of
returns-in_default c = grind (arith, nat_tests, c.in_default)
