-- The lines of two lists joined are those of the first and then those of the second, numbered on. By induction on the first, whose
-- head is one line.
use mathlib.Core.Path.{◌≡◌, refl, sym}
use mathlib.Core.List.{List, [], ◌∷◌, ◌++◌, append_assoc, append-nil}
use Prim.Native.Nat.{ℕ, suc, ◌+◌}
use native.Mathlib.Nat.{add-zero, zero-add, add-suc, suc-add}
use lib.ListN.{length}
use Rattle.text.specs.Text.{Bytes, digits, decimal, line, lines, torn_place, Wrote}
use Rattle.text.proofs.Writing.{wrote_as, wrote_then}

-- A line of document 01's sample, in bytes: 10 9 255.
line_sample : line 10 9 255 ≡ 49 ∷ 48 ∷ 32 ∷ 57 ∷ 32 ∷ 50 ∷ 53 ∷ 53 ∷ 10 ∷ []
unfolding line decimal digits
line_sample = refl

-- No record prints nothing.
pub lines_none : (i : ℕ) → lines i [] ≡ []
unfolding lines
lines_none i = refl

-- The first line, and then the others, numbered from the next on.
pub lines_first : (i code cited : ℕ) (rest : List (ℕ × ℕ))
    → lines i ((code, cited) ∷ rest) ≡ line i code cited ++ lines (suc i) rest
unfolding lines
lines_first i code cited rest = refl

-- The second list goes on with the number behind the first.
pub lines_append : (i : ℕ) (l k : List (ℕ × ℕ)) → lines i (l ++ k) ≡ lines i l ++ lines (i + length l) k
unfolding lines
lines_append i [] k = rw add-zero
lines_append i (_ ∷ rest) k = rw (lines_append (suc i) rest k, append_assoc, add-suc, suc-add)

-- The last line is numbered by how many stand before it.
pub lines_last : (l : List (ℕ × ℕ)) (code cited : ℕ)
    → lines 0 (l ++ ((code, cited) ∷ [])) ≡ lines 0 l ++ line (length l) code cited
lines_last l code cited = rw (lines_append 0 l ((code, cited) ∷ []), zero-add, lines_first, lines_none, append-nil)

-- [01:runner.11] "A torn place prints its index, 1 and 255 as the last line."
pub torn_line_last : (l : List (ℕ × ℕ)) → lines 0 (l ++ (torn_place ∷ [])) ≡ lines 0 l ++ line (length l) 1 255
torn_line_last l = lines_last l 1 255

-- A line that is written after the lines of a list is the list's next.
pub wrote_next_line : {a b c : Bytes} {n m r : ℕ} (l : List (ℕ × ℕ)) (code cited : ℕ)
    → Wrote a n (lines 0 l) b m
    → Wrote b m (line (length l) code cited) c r
    → Wrote a n (lines 0 (l ++ ((code, cited) ∷ []))) c r
wrote_next_line l code cited p q = wrote_as (sym (lines_last l code cited)) (wrote_then p q)
