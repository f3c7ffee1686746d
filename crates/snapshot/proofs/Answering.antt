-- What `unwrap_or` makes of an answer: the length that is told, and the policy after.
use mathlib.Core.Path.{◌≡◌, refl}
use Prim.Native.Nat.{ℕ}
use Rattle.std.specs.Prelude.{Result, Ok, Err}
use Rattle.std.specs.Result.{result_unwrap_or}
use Rattle.reach.specs.declared.Policy.{Policy}
use Rattle.snapshot.specs.declared.CardError.{CardError}
use Rattle.snapshot.specs.Answers.{length_of, policy_after}

pub length_is : (r : Result ℕ CardError) → result_unwrap_or r 0 ≡ length_of r
length_is (Ok n) = refl
length_is (Err e) = refl

pub after_is : (kept : Policy) (r : Result Policy CardError) → result_unwrap_or r kept ≡ policy_after kept r
after_is kept (Ok p) = refl
after_is kept (Err e) = refl
