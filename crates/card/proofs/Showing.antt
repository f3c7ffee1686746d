-- A buffer with room for a text shows all of it: each is a law of `take` or of `Printed`.
use mathlib.Core.Path.{◌≡◌, sym, ap, ◌∙◌}
use mathlib.Core.Bool.{true, false}
use Prim.Native.Nat.{ℕ, ◌≤◌, ◌<◌, min}
use native.Mathlib.Omega.{arith}
use lib.ListN.{length, take, length-take}
use lib.Seq.{length-take-le}
use borrow.Author.Tests.{lt-ltb, le-ltb}
use Rattle.text.specs.Text.{Bytes, Printed}
use Rattle.text.proofs.Writing.{printed_all, printed_length}
use Rattle.card.specs.Program.{is_long, IsPrefixLen, Shows}

pub long_input : (input : Bytes) → 65536 < length input → is_long input ≡ true
long_input input h = lt-ltb 65536 (length input) h

pub not_long : (input : Bytes) → length input ≤ 65536 → is_long input ≡ false
not_long input h = le-ltb 65536 (length input) h

-- ---- Texts

-- A text that there is room for is printed whole.
pub shows_of_printed : {a w b : Bytes} {n : ℕ} → Printed a w b n → length w ≤ length a → Shows b n w
shows_of_printed p room = record { count = omega (arith, p.count); bytes = printed_all p room }

-- What is counted of a printed text lies in the buffer.
pub prefix_of_printed : {a w b : Bytes} {n : ℕ} → Printed a w b n → IsPrefixLen n b
prefix_of_printed {b = b} {n} p =
    let within : n ≤ length b = omega (arith, p.count, printed_length p) in
    (within, sym (length-take-le n b within))

-- It lies in the buffer.
pub shows_within : {b w : Bytes} {n : ℕ} → Shows b n w → n ≤ length b
shows_within {b} {w} {n} s =
    let long : min n (length b) ≡ length w = simp length-take at (ap length s.bytes) in
    omega (arith, s.count)

pub shows_length : {b w : Bytes} {n : ℕ} → Shows b n w → n ≡ length (take n b)
shows_length s = s.count ∙ sym (ap length s.bytes)
