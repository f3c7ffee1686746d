-- What is printed is the text for what was read, which is the whole input, or as long as one that says the same.
use Rattle.std.proofs.Common.{rules, arith}
use Rattle.intake.proofs.Whole.{whole, told}
use Rattle.intake.proofs.run.Goals as goal

pub answer-n-requires : goal.answer-n-requires
answer-n-requires g c = let room = g.met.A.Answer.room in omega arith

pub shared_whole_as_front-write_all : goal.shared_whole_as_front-write_all
shared_whole_as_front-write_all g c =
    let room = g.met.A.Answer.room in
    (c.answer-n.ensures.fits, omega arith)

pub returns : goal.returns
returns g c =
    let read = c.in_ok-read.ensures in
    let text = c.answer-n.ensures in
    told g.A.Answer.output _ _ _ _ _ _ c.write_all.ensures.bytes text.text_after
    (whole g.A.Answer.output g.met.A.Answer.longer _ _ c.read_full.new.buffer c.in_ok-read.read (search rules) read.in_bounds read.bytes read.end)
