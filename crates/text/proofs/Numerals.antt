-- `decimal` gives the number in decimal: digits only, with the number as their value and no zero in front. By induction on a bound
-- of the number: below 10 the digit is the number, and a digit more multiplies the value by ten and adds its own.
use mathlib.Core.Path.{◌≡◌, refl, ap, ◌∙◌}
use mathlib.Core.List.{[], ◌∷◌, ◌++◌}
use Prim.Native.Nat.{ℕ, zero, suc, ◌+◌, ◌-◌, ◌*◌, ◌/◌, ◌%◌, ◌≤◌, ◌<◌}
use native.Mathlib.Decide.{dec_lt}
use native.Mathlib.Omega.{arith}
use lib.ListN.{length, get_or, length-append}
use Rattle.text.specs.Text.{Bytes, decimal, AllDigits, value_from, DecimalOf}
use Rattle.text.proofs.Decimals.{decimal_digit, decimal_more}

-- Digits and a digit more are digits.
digits_more : (text : Bytes) (d : ℕ) → AllDigits text → d < 10 → AllDigits (text ++ ((48 + d) ∷ []))
unfolding AllDigits
digits_more [] d a h = (omega arith, omega arith, tt)
digits_more (first ∷ rest) d a h = (a.0, a.1, digits_more rest d a.2 h)

-- A digit more multiplies the value by ten and adds its own.
value_more : (v : ℕ) (text : Bytes) (d : ℕ) → value_from v (text ++ ((48 + d) ∷ [])) ≡ 10 * value_from v text + d
unfolding value_from
value_more v [] d = omega arith
value_more v (first ∷ rest) d = value_more (10 * v + (first - 48)) rest d

-- A number that begins with 0 is 0.
leading_zero : {x : ℕ} (text : Bytes) → DecimalOf x text → get_or text 0 0 ≡ 48 → x ≡ 0
unfolding value_from
leading_zero [] a e = absurd (omega arith)
leading_zero (d ∷ []) a e = omega (arith, a.value)
leading_zero (d ∷ d' ∷ rest) a e = absurd (omega (arith, a.no_leading_zero e))

-- One digit.
decimal_one : (x : ℕ) → x < 10 → DecimalOf x ((48 + x) ∷ [])
unfolding AllDigits value_from
decimal_one x h = record {
  all_digits = (omega arith, omega arith, tt);
  value = omega arith;
  not_empty = omega arith;
  no_leading_zero = λ e. refl;
}

-- A digit more, behind a number that is not 0.
decimal_next : {x : ℕ} {text : Bytes} (d : ℕ)
    → DecimalOf x text
    → 1 ≤ x
    → d < 10
    → DecimalOf (10 * x + d) (text ++ ((48 + d) ∷ []))
decimal_next {x} {text} d a l h = record {
  all_digits = digits_more text d a.all_digits h;
  value = value_more 0 text d ∙ ap (λ v. 10 * v + d) a.value;
  not_empty = simp length-append (omega arith);
  no_leading_zero = never text a;
}
  where
    never : (text : Bytes)
        → DecimalOf x text
        → get_or (text ++ ((48 + d) ∷ [])) 0 0 ≡ 48
        → length (text ++ ((48 + d) ∷ [])) ≡ 1
    never [] a e = refl
    never (first ∷ rest) a e = absurd (omega (arith, leading_zero (first ∷ rest) a e))

-- Every number up to n.
decimal_within : (n x : ℕ) → x ≤ n → DecimalOf x (decimal x)
decimal_within zero x h = rw (decimal_digit x (omega arith)) (decimal_one x (omega arith))
decimal_within (suc n) x h = cases (decimal_within n (x / 10)) (dec_lt x 10)
  where
    cases : (x / 10 ≤ n → DecimalOf (x / 10) (decimal (x / 10))) → Dec (x < 10) → DecimalOf x (decimal x)
    cases tenth (yes l) = rw (decimal_digit x l) (decimal_one x l)
    cases tenth (no l) =
        let whole : 10 * (x / 10) + x % 10 ≡ x = omega arith in
        let next = decimal_next (x % 10) (tenth (omega arith)) (omega arith) (omega arith) in
        rw (decimal_more x (omega arith)) (rw whole at next)

-- `decimal x` is x in decimal.
pub decimal_of : (x : ℕ) → DecimalOf x (decimal x)
decimal_of x = decimal_within x x (omega arith)
