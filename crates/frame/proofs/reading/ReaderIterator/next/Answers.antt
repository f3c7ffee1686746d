-- The reader gives what it finds, and goes on by the step that this tells. Up to a torn place there are as many bytes as its position says.
use Rattle.std.specs.Prelude.{Some, Ok, Err}
use Rattle.std.proofs.Common.{rules}
use mathlib.Core.Path.{◌≡◌, refl, sym}
use native.Mathlib.Omega.{arith}
use lib.Seq.{length-take-le}
use Rattle.frame.proofs.Steps.{step_torn}
use Rattle.frame.proofs.Giving.{told, goes_found, goes_found_down}
use Rattle.frame.proofs.reading.ReaderIterator.next.Goals as goal

pub slice_bounds-self-end : goal.slice_bounds-self-end
slice_bounds-self-end c =
    let e : c.here-given.result ≡ Some (Err c.in-Some-Err.field-0-0) = search rules in
    sym (length-take-le _ _ (omega (arith, step_torn _ _ (told c.here-given.ensures e))))

pub returns-in-Some-Ok-clause-steps : goal.returns-in-Some-Ok-clause-steps
returns-in-Some-Ok-clause-steps c =
    let e : c.here-given.result ≡ Some (Ok c.in-Some-Ok.record) = search rules in
    goes_found _ _ c.here-given.ensures e (omega arith) refl

pub returns-in-Some-Ok-clause-goes : goal.returns-in-Some-Ok-clause-goes
returns-in-Some-Ok-clause-goes c =
    let e : c.here-given.result ≡ Some (Ok c.in-Some-Ok.record) = search rules in
    goes_found_down _ _ c.here-given.ensures e (omega arith) refl refl

pub returns-in-Some-Err-clause-steps : goal.returns-in-Some-Err-clause-steps
returns-in-Some-Err-clause-steps c =
    let e : c.here-given.result ≡ Some (Err c.in-Some-Err.field-0-0) = search rules in
    goes_found _ _ c.here-given.ensures e refl refl

pub returns-in-Some-Err-clause-goes : goal.returns-in-Some-Err-clause-goes
returns-in-Some-Err-clause-goes c =
    let e : c.here-given.result ≡ Some (Err c.in-Some-Err.field-0-0) = search rules in
    goes_found_down _ _ c.here-given.ensures e refl refl refl

pub returns-in-None-clause-steps : goal.returns-in-None-clause-steps
returns-in-None-clause-steps c = goes_found _ _ c.here-given.ensures c.in-None.is (omega arith) refl
