-- What is loaded. There is room for the first line and for what is printed behind it; demand 3 holds from a policy that was read, by the
-- reader's promise, and from the founding.
use mathlib.Core.Path.{◌≡◌, refl, ap, ◌∙◌}
use mathlib.Core.Bool.{Bool, true, false}
use mathlib.Core.List.{List}
use Prim.Native.Nat.{ℕ, ◌≤◌, ◌<◌}
use native.Mathlib.Omega.{arith}
use lib.ListN.{length, length-append}
use Rattle.frame.specs.Reading.{records_from}
use borrow.Author.Tests.{ltb-false}
use Rattle.text.specs.Text.{Bytes, lines, Printed}
use Rattle.text.proofs.Decimals.{decimal_length}
use Rattle.reach.specs.declared.Policy.{Policy}
use Rattle.reach.specs.Tests.{◌⇒◌∥◌}
use Rattle.reach.specs.Tables.{initial}
use Rattle.list.specs.Report.{answers_from, too_long, report, output}
use Rattle.list.specs.Demand.{Demand3}
use Rattle.list.proofs.Room.{lines_from_fit}
use Rattle.list.proofs.Demanded.{third}
use Rattle.std.specs.Prelude.{Result, Ok, Err, IfOk}
use Rattle.std.specs.Result.{result_unwrap_or}
use Rattle.snapshot.specs.declared.CardError.{CardError}
use Rattle.snapshot.specs.declared.CardError.TheVariants.{Damaged, Short}
use Rattle.snapshot.specs.Answers.{code_of, policy_after, Reads}
use Rattle.snapshot.proofs.Answering.{after_is}
use Rattle.card.specs.declared.Told.{Told}
use Rattle.card.specs.Program.{is_long, Shows, code_line, output_from, Loads}
use Rattle.card.proofs.Showing.{long_input, not_long, shows_of_printed}

-- From the founding it is what the runner prints.
pub output_founding : (input : Bytes) → output_from initial input ≡ output input
unfolding output_from output report
output_founding input = refl

-- An input that is too long, and any other.
pub printed_long : (p : Policy) (input : Bytes) {out out' : Bytes} {n : ℕ} → 65536 < length input → Printed out too_long out' n
    → Printed out (output_from p input) out' n
unfolding output_from
printed_long p input h w = rw (long_input input h) w

pub printed_judged : (p : Policy) (input : Bytes) {out out' : Bytes} {n : ℕ} → length input ≤ 65536
    → Printed out (lines 0 (answers_from p input 0)) out' n → Printed out (output_from p input) out' n
unfolding output_from
printed_judged p input h w = rw (not_long input h) w

-- What is printed fits into its buffer, from whichever policy.
output_from_fits : (p : Policy) (input : Bytes) → length (output_from p input) ≤ 212992
unfolding output_from
output_from_fits p input = go (is_long input) refl
  where
    go : (long : Bool) → is_long input ≡ long → length (long ⇒ too_long ∥ lines 0 (answers_from p input 0)) ≤ 212992
    go true e = omega arith
    go false e = lines_from_fit p input (ltb-false 65536 (length input) e)

-- The first line fits too, whatever the card.
code_fits : (r : Result Policy CardError) → length (code_line (code_of r)) ≤ 4
code_fits r = simp length-append (omega (arith, decimal_length 2 (code_of r) (low r)))
  where
    low : (r : Result Policy CardError) → code_of r < 1000
    low (Ok p) = omega arith
    low (Err Damaged) = omega arith
    low (Err Short) = omega arith

-- Demand 3 from what was read, or from the founding.
load_demand : (r : Result Policy CardError) → IfOk r (λ p. (list : List Bytes) → Demand3 p list) → (list : List Bytes)
    → Demand3 (policy_after initial r) list
load_demand (Ok p) d list = d list
load_demand (Err e) d list = (third list).demand

-- Together, where the input is judged from the policy p.
pub loads_all : {card input head head' text text' : Bytes} {code n m : ℕ} {founding p : Policy} (r : Result Policy CardError)
    → Reads card r → IfOk r (λ p. (list : List Bytes) → Demand3 p list)
    → length head ≡ 4 → code ≡ code_of r → Printed head (code_line code) head' n
    → founding ≡ initial → p ≡ result_unwrap_or r founding
    → length text ≡ 212992 → Printed text (output_from p input) text' m
    → Loads card input head' text' (record { head = n; text = m })
loads_all {card} {input} {text = text} {text'} {m = m} {founding} {p} r reads demand short coded first at_start after long rest =
    let is : p ≡ policy_after initial r = after ∙ ap (result_unwrap_or r) at_start ∙ after_is initial r in
    record {
      loaded = r;
      reads = reads;
      head = shows_of_printed (rw coded at first) (omega (arith, short, code_fits r));
      text = shows_of_printed (rw is at rest) (omega (arith, long, output_from_fits (policy_after initial r) input));
      demand = load_demand r demand (records_from input 0);
    }

-- A text for an input that is too long says so.
pub loads_full : {card input head' text' : Bytes} {r : Told} → Loads card input head' text' r → is_long input ≡ true
    → Shows text' r.text too_long
unfolding output_from
loads_full l e = rw e at l.text
