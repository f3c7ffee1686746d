-- Decimal numbers as the program works them: below 10 one digit, and from there on the digits of the tenth and one more. Each digit
-- divides what is left by ten, so a bound of x on the number of digits cuts nothing off.
use mathlib.Core.Path.{◌≡◌, refl, sym, ap, ◌∙◌}
use mathlib.Core.List.{[], ◌∷◌, ◌++◌}
use Prim.Native.Nat.{ℕ, zero, suc, ◌+◌, ◌*◌, ◌/◌, ◌%◌, ◌^◌, ◌≤◌, ◌<◌}
use native.Mathlib.Nat.{pow-suc}
use native.Mathlib.Decide.{dec_lt}
use native.Mathlib.Omega.{arith}
use lib.ListN.{length, length-append}
use Rattle.text.specs.Text.{Bytes, last_digit, digits, decimal}

-- No bound gives 0 a digit.
digits_zero : (n : ℕ) → digits n 0 ≡ []
unfolding digits
digits_zero zero = refl
digits_zero (suc n) = refl

-- Any two bounds from x on give the same digits.
digits_same : (n m x : ℕ) → x ≤ n → x ≤ m → digits n x ≡ digits m x
unfolding digits
digits_same zero m x h k = let e : x ≡ 0 = omega arith in rw (e, digits_zero m)
digits_same (suc n) zero x h k = let e : x ≡ 0 = omega arith in rw e
digits_same (suc n) (suc m) zero h k = refl
digits_same (suc n) (suc m) (suc x) h k = rw (digits_same n m (suc x / 10) (omega arith) (omega arith))

-- From 1 on the digits are the number in decimal.
digits_decimal : (n x : ℕ) → 1 ≤ x → x ≤ n → digits n x ≡ decimal x
unfolding digits decimal
digits_decimal zero x l h = absurd (omega arith)
digits_decimal (suc n) zero l h = absurd (omega arith)
digits_decimal (suc n) (suc x) l h = rw (digits_same n (suc x) (suc x / 10) (omega arith) (omega arith))

-- A number below 10 is its digit.
pub decimal_digit : (x : ℕ) → x < 10 → decimal x ≡ (48 + x) ∷ []
unfolding decimal
decimal_digit x h =
    let tenth : x / 10 ≡ 0 = omega arith in
    let last : x % 10 ≡ x = omega arith in
    rw (tenth, last, digits_zero x)

-- It is its last digit.
pub decimal_last : (x : ℕ) → x < 10 → (last_digit x ∷ []) ≡ decimal x
decimal_last x h = let e : x % 10 ≡ x = omega arith in rw (e, decimal_digit x h)

-- From 10 on a number is its tenth and its last digit.
pub decimal_more : (x : ℕ) → 10 ≤ x → decimal x ≡ decimal (x / 10) ++ (last_digit x ∷ [])
unfolding decimal
decimal_more x h = rw (digits_decimal x (x / 10) (omega arith) (omega arith))

-- Two digits, and three.
pub decimal_two : (x : ℕ) → 10 ≤ x → x < 100 → decimal x ≡ (last_digit (x / 10) ∷ []) ++ (last_digit x ∷ [])
decimal_two x l h =
    decimal_more x l ∙ ap (λ (t : Bytes). t ++ (last_digit x ∷ [])) (sym (decimal_last (x / 10) (omega (arith, h))))

pub decimal_three : (x : ℕ) → 100 ≤ x → x < 1000
    → decimal x ≡ (((48 + x / 100) ∷ []) ++ (last_digit (x / 10) ∷ [])) ++ (last_digit x ∷ [])
decimal_three x l h =
    let first : 48 + x / 100 ≡ last_digit (x / 10 / 10) = omega (arith, h) in
    rw first
    (decimal_more x (omega (arith, l))
    ∙ ap (λ (t : Bytes). t ++ (last_digit x ∷ [])) (decimal_two (x / 10) (omega (arith, l)) (omega (arith, h))))

-- A number below a power of ten has at most so many digits.
pub decimal_length : (k x : ℕ) → x < 10 ^ suc k → length (decimal x) ≤ suc k
decimal_length zero x h = rw (decimal_digit x (omega arith)) (omega arith)
decimal_length (suc k) x h = cases (decimal_length k (x / 10)) (dec_lt x 10)
  where
    cases : (x / 10 < 10 ^ suc k → length (decimal (x / 10)) ≤ suc k) → Dec (x < 10) → length (decimal x) ≤ suc (suc k)
    cases tenth (yes l) = rw (decimal_digit x l) (omega arith)
    cases tenth (no l) =
        let p : 10 ^ suc (suc k) ≡ 10 ^ suc k * 10 = pow-suc 10 (suc k) in
        let shorter = tenth (omega arith) in
        rw (decimal_more x (omega arith)) (simp length-append (omega arith))
