-- with_bit and without_bit change the set at x and nowhere else, and are the machine's `w | 1 << x` and `w & !(1 << x)`.
-- By induction on x, halving: each is the word with its binary digit at x written over.
use mathlib.Core.Path.{◌≡◌, refl, sym, ap, ◌∙◌}
use mathlib.Core.Bool.{Bool, true, false}
use mathlib.Core.List.{List, [], ◌∷◌}
use Prim.Native.Nat.{ℕ, zero, suc, ◌+◌, ◌-◌, ◌*◌, ◌/◌, ◌%◌, ◌^◌, ◌≤◌, ◌<◌}
use native.Mathlib.Nat.{pow-suc, mod-eq_of_lt, not-suc-le-zero, le_of_suc-le-suc}
use native.Mathlib.Omega.{arith}
use lib.Dec.{eqb, eqb-zero-suc, eqb-suc-zero, eqb-suc-suc}
use lib.Bits.{bit_or, bit_and, or_step, or_zero_r, and_step, and_mask}
use lib.ListN.{get_or, set}
use lib.Pow.{pow_pos, pow-lt}
use borrow.Author.Tests.{eqb-true, eqb-false}
use Rattle.reach.specs.Words.{bit, has}
use Rattle.reach.specs.Tests.{◌⇒◌∥◌}
use Rattle.reach.specs.Successors.{with_bit, without_bit}
use Rattle.reach.proofs.Bits.{bit_le, bit_at_zero, bit_suc, bit_zero, one_shl}

-- ---- The word w with the digit d at x

abbrev written : ℕ → ℕ → ℕ → ℕ
written d zero w = w / 2 * 2 + d
written d (suc x) w = written d x (w / 2) * 2 + w % 2

bit_written : (d x w y : ℕ) → d < 2 → bit (written d x w) y ≡ (eqb y x ⇒ d ∥ bit w y)
bit_written d zero w zero l = rw bit_at_zero (omega arith)
bit_written d zero w (suc y) l =
    let e : (w / 2 * 2 + d) / 2 ≡ w / 2 = omega arith in
    simp (bit_suc, e, eqb-suc-zero)
bit_written d (suc x) w zero l =
    let e : (written d x (w / 2) * 2 + w % 2) % 2 ≡ w % 2 = omega arith in
    simp (bit_at_zero, e, eqb-zero-suc)
bit_written d (suc x) w (suc y) l =
    let e : (written d x (w / 2) * 2 + w % 2) / 2 ≡ written d x (w / 2) = omega arith in
    simp (bit_suc, e, eqb-suc-suc) (bit_written d x (w / 2) y l)

-- Writing the digit that is there changes nothing; writing 1 in the place of 0 adds 2 ^ x.
written_same : (d x w : ℕ) → bit w x ≡ d → written d x w ≡ w
written_same d zero w e = omega (arith, sym (bit_at_zero w) ∙ e)
written_same d (suc x) w e = rw (written_same d x (w / 2) (sym (bit_suc w x) ∙ e)) (omega arith)

written_more : (x w : ℕ) → written 1 x w ≡ written 0 x w + 2 ^ x
written_more zero w = omega arith
written_more (suc x) w = rw (written_more x (w / 2), pow-suc) (omega arith)

-- A test of x in w, with what each outcome says of the words written over.
test_written : (x w a b n : ℕ) → (written 1 x w ≡ w → a ≡ n) → (written 0 x w ≡ w → b ≡ n) → (has w x ⇒ a ∥ b) ≡ n
unfolding has
test_written x w a b n f g = go (eqb (bit w x) 1) refl
  where
    go : (t : Bool) → eqb (bit w x) 1 ≡ t → (t ⇒ a ∥ b) ≡ n
    go true e = f (written_same 1 x w (eqb-true (bit w x) 1 e))
    go false e = g (written_same 0 x w (omega (arith, bit_le w x, eqb-false (bit w x) 1 e)))

with_written : (x w : ℕ) → with_bit x w ≡ written 1 x w
unfolding with_bit
with_written x w = test_written x w w (w + 2 ^ x) (written 1 x w) (λ e. sym e) (λ e. omega (arith, written_more x w))

without_written : (x w : ℕ) → without_bit x w ≡ written 0 x w
unfolding without_bit
without_written x w = test_written x w (w - 2 ^ x) w (written 0 x w) (λ e. omega (arith, written_more x w)) (λ e. sym e)

-- ---- What is in the set

has_written : (d x w y : ℕ) → d < 2 → has (written d x w) y ≡ (eqb y x ⇒ eqb d 1 ∥ has w y)
unfolding has
has_written d x w y l = ap (λ n. eqb n 1) (bit_written d x w y l) ∙ go (eqb y x)
  where
    go : (t : Bool) → eqb (t ⇒ d ∥ bit w y) 1 ≡ (t ⇒ eqb d 1 ∥ eqb (bit w y) 1)
    go true = refl
    go false = refl

pub has_with : (x w y : ℕ) → has (with_bit x w) y ≡ (eqb y x ⇒ true ∥ has w y)
has_with x w y = rw with_written (has_written 1 x w y (omega arith))

pub has_without : (x w y : ℕ) → has (without_bit x w) y ≡ (eqb y x ⇒ false ∥ has w y)
has_without x w y = rw without_written (has_written 0 x w y (omega arith))

-- ---- The machine's words

or_written : (x w : ℕ) → bit_or w (2 ^ x) ≡ written 1 x w
or_written zero w = or_step w 1 ∙ rw or_zero_r (omega arith)
or_written (suc x) w =
    let p : 2 ^ suc x ≡ 2 ^ x * 2 = pow-suc 2 x in
    let h : 2 ^ suc x / 2 ≡ 2 ^ x = omega arith in
    let o : 2 ^ suc x % 2 ≡ 0 = omega arith in
    or_step w (2 ^ suc x) ∙ rw (h, o, or_written x (w / 2)) (omega arith)

and_written : (k x w : ℕ) → x < k → w < 2 ^ k → bit_and w ((2 ^ k - 1) - 2 ^ x) ≡ written 0 x w
and_written zero x w h l = absurd (not-suc-le-zero h)
and_written (suc k) zero w h l =
    let p : 2 ^ suc k ≡ 2 ^ k * 2 = pow-suc 2 k in
    let z : 1 ≤ 2 ^ k = pow_pos k in
    let d : ((2 ^ suc k - 1) - 1) / 2 ≡ 2 ^ k - 1 = omega arith in
    let o : ((2 ^ suc k - 1) - 1) % 2 ≡ 0 = omega arith in
    let f : w / 2 < 2 ^ k = omega arith in
    and_step w ((2 ^ suc k - 1) - 1) ∙ rw (d, o, and_mask (w / 2) k, mod-eq_of_lt f) (omega arith)
and_written (suc k) (suc x) w h l =
    let p : 2 ^ suc k ≡ 2 ^ k * 2 = pow-suc 2 k in
    let q : 2 ^ suc x ≡ 2 ^ x * 2 = pow-suc 2 x in
    let z : 2 ^ x < 2 ^ k = pow-lt (le_of_suc-le-suc h) in
    let d : ((2 ^ suc k - 1) - 2 ^ suc x) / 2 ≡ (2 ^ k - 1) - 2 ^ x = omega arith in
    let o : ((2 ^ suc k - 1) - 2 ^ suc x) % 2 ≡ 1 = omega arith in
    let f : w / 2 < 2 ^ k = omega arith in
    and_step w ((2 ^ suc k - 1) - 2 ^ suc x) ∙ rw (d, o, and_written k x (w / 2) (le_of_suc-le-suc h) f) (omega arith)

-- `w | 1 << x` and `w & !(1 << x)` of a word of 64 bits.
pub or_is_with : (x w : ℕ) → x < 64 → bit_or w ((1 * 2 ^ x) % 2 ^ 64) ≡ with_bit x w
or_is_with x w h = ap (bit_or w) (one_shl x h) ∙ or_written x w ∙ sym (with_written x w)

pub and_is_without : (x w : ℕ) → x < 64 → w < 2 ^ 64 → bit_and w (2 ^ 64 - 1 - (1 * 2 ^ x) % 2 ^ 64) ≡ without_bit x w
and_is_without x w h l =
    ap (λ (n : ℕ). bit_and w (2 ^ 64 - 1 - n)) (one_shl x h) ∙ and_written 64 x w h l ∙ sym (without_written x w)

-- A row emptied and then with g is the machine's `1 << g`.
with_none : (g : ℕ) → g < 64 → with_bit g 0 ≡ (1 * 2 ^ g) % 2 ^ 64
unfolding with_bit has
with_none g h = rw (bit_zero g, one_shl g h) (omega arith)

pub row_of_one : (l : List ℕ) (x g : ℕ) → g < 64
    → set (set l x 0) x (with_bit g (get_or (set l x 0) x 0)) ≡ set l x ((1 * 2 ^ g) % 2 ^ 64)
row_of_one [] x g h = refl
row_of_one (a ∷ l) zero g h = ap (λ (w : ℕ). w ∷ l) (with_none g h)
row_of_one (a ∷ l) (suc x) g h = ap (λ t. a ∷ t) (row_of_one l x g h)
