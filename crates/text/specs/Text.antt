-- The text that the program prints, and what it means that a buffer holds it.
use Rattle.std.specs.Prelude.{◌≡◌, cond, List, [], ◌∷◌, ◌++◌, ℕ, zero, suc, ◌+◌, ◌-◌, ◌*◌, ◌/◌, ◌%◌, ◌≤◌, min, eqb, length, get_or, take, drop}

-- A byte string.
abbrev pub Bytes : Type 0
Bytes = List ℕ

-- The last digit of x; the byte of the digit 0 is 48.
abbrev pub last_digit : ℕ → ℕ
last_digit x = 48 + x % 10

-- The digits of x, and of 0 none. A number has no more digits than its value, so a bound n from x on cuts nothing off.
unfoldable pub digits : ℕ → ℕ → Bytes
digits zero x = []
digits (suc n) zero = []
digits (suc n) (suc x) = digits n (suc x / 10) ++ (last_digit (suc x) ∷ [])

-- A number in decimal, with no leading zeros: the digits before the last, if there are any, and the last.
unfoldable pub decimal : ℕ → Bytes
decimal x = digits x (x / 10) ++ (last_digit x ∷ [])

-- What "in decimal" means, apart from how the digits are worked out; `decimal_of` proves it of `decimal`.
unfoldable pub AllDigits : Bytes → Type 0
AllDigits [] = Unit {0}
AllDigits (d ∷ rest) = (48 ≤ d) × (d ≤ 57) × AllDigits rest

-- The value of digits that follow those of v.
unfoldable pub value_from : ℕ → Bytes → ℕ
value_from v [] = v
value_from v (d ∷ rest) = value_from (10 * v + (d - 48)) rest

-- Digits, at least one, with x as their value; 0 stands in front only where it is the one digit.
pub record DecimalOf (x : ℕ) (text : Bytes) : Type 0 where
  pub all_digits : AllDigits text
  pub value : value_from 0 text ≡ x
  pub not_empty : 1 ≤ length text
  pub no_leading_zero : get_or text 0 0 ≡ 48 → length text ≡ 1

-- [01:runner.10] "From a founding it prints per record: index from 0, code, cited." The three numbers, with one space (32) between
-- two. D27: each line ends in a line feed (10).
unfoldable pub line : ℕ → ℕ → ℕ → Bytes
line index code cited = decimal index ++ (32 ∷ []) ++ decimal code ++ (32 ∷ []) ++ decimal cited ++ (10 ∷ [])

-- The lines of a list of codes with what they cite, the first numbered i. [01:runner.12] "Empty input prints nothing."
unfoldable pub lines : ℕ → List (ℕ × ℕ) → Bytes
lines i [] = []
lines i ((code, cited) ∷ rest) = line i code cited ++ lines (suc i) rest

-- [01:runner.11] "A torn place prints its index, 1 and 255 as the last line." It stands at the end of the list, so its index is the
-- number of records before it.
abbrev pub torn_place : ℕ × ℕ
torn_place = (1, 255)

-- The line feeds in a text.
unfoldable pub feeds : Bytes → ℕ
feeds [] = 0
feeds (byte ∷ rest) = cond (eqb byte 10) 1 0 + feeds rest

-- The first n bytes of the buffer are the text, or as much of it as there is room for.
pub record Holds (buffer : Bytes) (n : ℕ) (text : Bytes) : Type 0 where
  pub within : n ≤ length buffer
  pub same : take n buffer ≡ take (length buffer) text

-- A buffer that held some text up to n became buffer', of the same length, which holds that text and behind it the one added, up to n'.
-- What lies behind that is as it was, and from the end of the buffer on nothing is written.
pub record Wrote (buffer : Bytes) (n : ℕ) (added buffer' : Bytes) (n' : ℕ) : Type 0 where
  pub length_kept : length buffer' ≡ length buffer
  pub extends : (text : Bytes) → Holds buffer n text → Holds buffer' n' (text ++ added)
  pub onward : n ≤ n'
  pub nothing_past : length buffer ≤ n → (buffer' ≡ buffer) × (n' ≡ n)
  pub rest_kept : drop n' buffer' ≡ drop n' buffer

-- The text stands at the start of the buffer, cut off where the buffer ends, behind it what stood there before; n counts its bytes there.
pub record Printed (buffer text buffer' : Bytes) (n : ℕ) : Type 0 where
  pub bytes : buffer' ≡ take (length buffer) text ++ drop (length text) buffer
  pub count : n ≡ min (length buffer) (length text)
