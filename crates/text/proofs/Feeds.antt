-- A line has one line feed, its last byte: so the lines of a list have as many as they are, and a text of lines that is cut off has fewer.
use mathlib.Core.Path.{◌≡◌, refl, sym, ap, ◌∙◌}
use mathlib.Core.List.{List, [], ◌∷◌, ◌++◌}
use Prim.Native.Nat.{ℕ, suc, ◌+◌, ◌-◌, ◌≤◌, ◌<◌}
use native.Mathlib.Decide.{dec_lt}
use native.Mathlib.Omega.{arith}
use lib.Dec.{eqb}
use lib.ListN.{length, take, drop, length-append, length-take, take-append-drop}
use lib.Seq.{take-append-le, take-append-add, take-append_seam}
use borrow.Author.Tests.{ne_eqb}
use Rattle.text.specs.Text.{Bytes, AllDigits, decimal, line, lines, feeds, Printed}
use Rattle.text.proofs.Numerals.{decimal_of}

feeds_append : (a b : Bytes) → feeds (a ++ b) ≡ feeds a + feeds b
unfolding feeds
feeds_append [] b = omega arith
feeds_append (x ∷ a) b = rw (feeds_append a b) (omega arith)

-- A part of a text has no more than the text.
feeds_take : (n : ℕ) (text : Bytes) → feeds (take n text) ≤ feeds text
feeds_take n text =
    let parts : feeds (take n text) + feeds (drop n text) ≡ feeds text =
    sym (feeds_append (take n text) (drop n text)) ∙ ap feeds (take-append-drop n text)
    in
    omega arith

-- Digits have none, nor has a number in decimal.
digits_feeds : (text : Bytes) → AllDigits text → feeds text ≡ 0
unfolding feeds AllDigits
digits_feeds [] all = refl
digits_feeds (d ∷ rest) all =
    let other : eqb d 10 ≡ _ = ne_eqb d 10 (λ e. omega (arith, e, all.0)) in
    rw (other, digits_feeds rest all.2)

decimal_feeds : (x : ℕ) → feeds (decimal x) ≡ 0
decimal_feeds x = digits_feeds (decimal x) (decimal_of x).all_digits

-- A line but for its last byte.
body : ℕ → ℕ → ℕ → Bytes
body index code cited = decimal index ++ (32 ∷ []) ++ decimal code ++ (32 ∷ []) ++ decimal cited

line_of_body : (index code cited : ℕ) → line index code cited ≡ body index code cited ++ (10 ∷ [])
unfolding line body
line_of_body index code cited = refl

body_feeds : (index code cited : ℕ) → feeds (body index code cited) ≡ 0
unfolding body feeds
body_feeds index code cited = simp (feeds_append, decimal_feeds)

line_feeds : (index code cited : ℕ) → feeds (line index code cited) ≡ 1
unfolding feeds
line_feeds index code cited =
    ap feeds (line_of_body index code cited)
    ∙ feeds_append (body index code cited) (10 ∷ [])
    ∙ rw (body_feeds index code cited)

-- The lines of a list have one each.
pub lines_feeds : (i : ℕ) (l : List (ℕ × ℕ)) → feeds (lines i l) ≡ length l
unfolding lines feeds
lines_feeds i [] = refl
lines_feeds i ((code, cited) ∷ rest) =
    feeds_append (line i code cited) (lines (suc i) rest) ∙ rw (line_feeds i code cited, lines_feeds (suc i) rest) (omega arith)

-- What is left of a line that is cut off has none.
cut_line : (n index code cited : ℕ) → n < length (line index code cited) → feeds (take n (line index code cited)) ≡ 0
cut_line n index code cited h =
    let text = body index code cited in
    let e = line_of_body index code cited in
    let within : n ≤ length text = omega (arith, length-append text (10 ∷ []), ap length e) in
    let same : take n (line index code cited) ≡ take n text = rw e (take-append-le n text (10 ∷ []) within) in
    rw same (omega (arith, feeds_take n text, body_feeds index code cited))

-- Lines that are cut off have fewer than they are: the last one lacks its own.
pub lines_cut : (n i : ℕ) (l : List (ℕ × ℕ)) → n < length (lines i l) → feeds (take n (lines i l)) < length l
unfolding lines
lines_cut n i [] h = absurd (omega arith)
lines_cut n i ((code, cited) ∷ rest) h = go (dec_lt n (length first)) (lines_cut (n - length first) (suc i) rest)
  where
    first : Bytes
    first = line i code cited

    more : Bytes
    more = lines (suc i) rest

    go : Dec (n < length first) → (n - length first < length more → feeds (take (n - length first) more) < length rest)
        → feeds (take n (first ++ more)) < suc (length rest)
    go (yes low) later =
        rw (take-append-le n first more (omega arith)) (omega (arith, cut_line n i code cited low))
    go (no high) later =
        let left = n - length first in
        let split : n ≡ length first + left = omega arith in
        let within : left < length more = omega (arith, length-append first more) in
        rw (split, take-append-add first more left, feeds_append first (take left more))
        (omega (arith, later within, line_feeds i code cited))

-- What stands in a buffer that is too short is the first part of the text.
pub printed_part : {a w b : Bytes} {n : ℕ} → Printed a w b n → n < length w → take n b ≡ take n w
printed_part {a} {w} {b} {n} p short =
    let full : n ≡ length a = omega (arith, p.count) in
    let many : length (take n w) ≡ n = length-take n w ∙ omega arith in
    let stands : b ≡ take n w ++ drop (length w) a = rw full p.bytes in
    rw stands (ap (λ (k : ℕ). take k (take n w ++ drop (length w) a)) (sym many) ∙ take-append_seam (take n w) (drop (length w) a))
