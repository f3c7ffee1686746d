-- How long the lines of a list can be. A line has at most 9 bytes more than its index has digits after the first: so 13 where the indices
-- stay below 100,000, and 212,992 bytes suffice for whatever the program can print; and 28 for every index that a word can hold.
use mathlib.Core.List.{List, [], ◌∷◌, ◌++◌}
use Prim.Native.Nat.{ℕ, suc, ◌+◌, ◌*◌, ◌^◌, ◌≤◌, ◌<◌, zero-le}
use native.Mathlib.Nat.{mul-suc}
use native.Mathlib.Omega.{arith}
use lib.ListN.{length, length-append}
use mathlib.Core.Path.{◌≡◌}
use Rattle.text.specs.Text.{line, lines, torn_place}
use Rattle.text.proofs.Decimals.{decimal_length}

-- A line whose index has at most k + 1 digits.
pub line_length : (k index code cited : ℕ)
    → index < 10 ^ suc k
    → code < 100
    → cited < 1000
    → length (line index code cited) ≤ k + 9
unfolding line
line_length k index code cited h c l =
    simp length-append (omega (arith, decimal_length k index h, decimal_length 1 code c, decimal_length 2 cited l))

-- Each code is one of document 01's, 0 to 12, and what it cites is a byte.
abbrev pub Bounded : List (ℕ × ℕ) → Type 0
Bounded [] = Unit {0}
Bounded ((code, cited) ∷ rest) = (code ≤ 12) × (cited ≤ 255) × Bounded rest

-- A torn place keeps the bounds.
pub bounded_torn : (l : List (ℕ × ℕ)) → Bounded l → Bounded (l ++ (torn_place ∷ []))
bounded_torn [] b = (omega arith, omega arith, tt)
bounded_torn (_ ∷ rest) b = (b.0, b.1, bounded_torn rest b.2)

-- The lines of a list whose indices have at most k + 1 digits.
lines_length_from : (k i : ℕ) (l : List (ℕ × ℕ))
    → Bounded l
    → i + length l ≤ 10 ^ suc k
    → length (lines i l) ≤ (k + 9) * length l
unfolding lines
lines_length_from k i [] b h = zero-le
lines_length_from k i ((code, cited) ∷ rest) b h =
    let first = line_length k i code cited (omega arith) (omega (arith, b.0)) (omega (arith, b.1)) in
    let others = lines_length_from k (suc i) rest b.2 (omega arith) in
    simp (length-append, mul-suc) (omega arith)

-- From index 0, with one line more than there can be records within the program's limit.
pub lines_length : (l : List (ℕ × ℕ)) → Bounded l → length l ≤ 16385 → length (lines 0 l) ≤ 13 * length l
lines_length l b h = lines_length_from 4 0 l b (omega arith)

-- From index 0, however many records there are: a word has at most 20 digits.
pub lines_length_any : (l : List (ℕ × ℕ)) → Bounded l → length l < 2 ^ 64 → length (lines 0 l) ≤ 28 * length l
lines_length_any l b h = lines_length_from 19 0 l b (omega arith)

-- Enough for an input with no torn place: its records, of 4 bytes or more each, are all of it.
pub lines_fit : (l : List (ℕ × ℕ)) → Bounded l → 4 * length l ≤ 65536 → length (lines 0 l) ≤ 212992
lines_fit l b h = omega (arith, lines_length l b (omega arith))

-- Enough for an input that is torn: behind its records there is a byte or more.
pub torn_lines_fit : (l : List (ℕ × ℕ))
    → Bounded l
    → 4 * length l < 65536
    → length (lines 0 (l ++ (torn_place ∷ []))) ≤ 212992
torn_lines_fit l b h =
    let one_more : length (l ++ (torn_place ∷ [])) ≡ length l + 1 = simp length-append in
    omega (arith, lines_length (l ++ (torn_place ∷ [])) (bounded_torn l b) (omega arith))
