-- The bits of a word: of 0, of `|`, `&`, `!` and `1 << i`, and the lowest and the highest bit that is set. Each operation works bit by
-- bit, so each law is one step of the library's laws on halves, by induction on the bit's number.
use mathlib.Core.Path.{◌≡◌, refl, sym, ap, ◌∙◌}
use mathlib.Core.Logic.{◌⊎◌, inl, inr}
use Prim.Native.Nat.{ℕ, zero, suc, ◌+◌, ◌-◌, ◌*◌, ◌/◌, ◌%◌, ◌^◌, ◌≤◌, ◌<◌, min, max, zero-le, suc-le-suc}
use native.Mathlib.Nat.{pow-suc, div-one, div-eq_of_lt, lt_of_lt_of_le, le_of_suc-le-suc, not-suc-le-zero, one-mul, mul_assoc}
use native.Mathlib.Omega.{arith}
use lib.Dec.{lit<}
use lib.Arith.{digits_mod, lt-one, lt_of_le-ne}
use lib.Pow.{pow_pos, pow_mono, shr-shr, shl_exact}
use lib.Bits.{bit_and, bit_or, and_step, or_step, and_shr, or_shr, or_add_and, and_le_r, and_mask}
use lib.Count.{count_trailing_zeros, count_leading_zeros, leading_top, under}
use Rattle.reach.specs.Words.{bit}

pub bit_le : (s x : ℕ) → bit s x ≤ 1
unfolding bit
bit_le s x = omega arith

-- A bit is 0 or 1.
pub bit_two : (s x : ℕ) → (bit s x ≡ 0) ⊎ (bit s x ≡ 1)
bit_two s x = pick (bit s x) (bit_le s x)
  where
    pick : (b : ℕ) → b ≤ 1 → (b ≡ 0) ⊎ (b ≡ 1)
    pick zero h = inl refl
    pick (suc b) h = inr (omega arith)

-- No bit is both.
pub bit_clash : (s x : ℕ) → bit s x ≡ 0 → bit s x ≡ 1 → ⊥
bit_clash s x z o = omega (arith, z, o)

pub bit_at_zero : (s : ℕ) → bit s 0 ≡ s % 2
unfolding bit
bit_at_zero s = ap (λ (n : ℕ). n % 2) (div-one s)

pub bit_suc : (s x : ℕ) → bit s (suc x) ≡ bit (s / 2) x
unfolding bit
bit_suc s x = ap (λ (n : ℕ). n % 2) (sym (shr-shr s 1 x ∙ ap (λ (n : ℕ). s / 2 ^ n) (omega arith)))

pub bit_zero : (x : ℕ) → bit 0 x ≡ 0
unfolding bit
bit_zero x = ap (λ (n : ℕ). n % 2) (div-eq_of_lt (pow_pos x))

-- The empty word has no bit.
pub bit_none : (x : ℕ) → bit 0 x ≡ 1 → ⊥
bit_none x e = bit_clash 0 x (bit_zero x) e

-- A number of k bits has none at k or above.
pub bit_high : (k s x : ℕ) → s < 2 ^ k → k ≤ x → bit s x ≡ 0
unfolding bit
bit_high k s x h l = ap (λ (n : ℕ). n % 2) (div-eq_of_lt (lt_of_lt_of_le h (pow_mono l)))

pub bit_under_or : (a b x : ℕ) → bit (bit_or a b) x ≡ max (bit a x) (bit b x)
unfolding bit
bit_under_or a b x =
    ap (λ (n : ℕ). n % 2) (or_shr a b x ∙ or_step (a / 2 ^ x) (b / 2 ^ x))
    ∙ digits_mod (bit_or (a / 2 ^ x / 2) (b / 2 ^ x / 2)) (omega arith)

pub bit_under_and : (a b x : ℕ) → bit (bit_and a b) x ≡ min (bit a x) (bit b x)
unfolding bit
bit_under_and a b x =
    ap (λ (n : ℕ). n % 2) (and_shr a b x ∙ and_step (a / 2 ^ x) (b / 2 ^ x))
    ∙ digits_mod (bit_and (a / 2 ^ x / 2) (b / 2 ^ x / 2)) (omega arith)

-- A bit of `a | b` is one of a or of b.
pub or_bit : (a b x : ℕ) → bit (bit_or a b) x ≡ 1 → (bit a x ≡ 1) ⊎ (bit b x ≡ 1)
or_bit a b x e = pick (bit_two a x)
  where
    pick : (bit a x ≡ 0) ⊎ (bit a x ≡ 1) → (bit a x ≡ 1) ⊎ (bit b x ≡ 1)
    pick (inl z) = inr (omega (arith, z, bit_le b x, sym (bit_under_or a b x) ∙ e))
    pick (inr o) = inl o

pub bit_of_or : (a b x : ℕ) → (bit a x ≡ 1) ⊎ (bit b x ≡ 1) → bit (bit_or a b) x ≡ 1
bit_of_or a b x (inl l) = bit_under_or a b x ∙ omega (arith, l, bit_le b x)
bit_of_or a b x (inr r) = bit_under_or a b x ∙ omega (arith, r, bit_le a x)

-- `!a` of a word of k bits.
pub bit_not : (k a x : ℕ) → a < 2 ^ k → x < k → bit (2 ^ k - 1 - a) x ≡ 1 - bit a x
bit_not zero a x h l = absurd (not-suc-le-zero l)
bit_not (suc k) a zero h l = rw (bit_at_zero, bit_at_zero) (omega (arith, pow-suc 2 k))
bit_not (suc k) a (suc x) h l =
    let p : 2 ^ suc k ≡ 2 ^ k * 2 = pow-suc 2 k in
    let e : (2 ^ suc k - 1 - a) / 2 ≡ 2 ^ k - 1 - a / 2 = omega arith in
    bit_suc (2 ^ suc k - 1 - a) x
    ∙ ap (λ (n : ℕ). bit n x) e
    ∙ bit_not k (a / 2) x (omega arith) (le_of_suc-le-suc l)
    ∙ ap (λ (n : ℕ). 1 - n) (sym (bit_suc a x))

-- `1 << i` is 2 to the power i.
pub one_shl_half : (i : ℕ) → i < 32 → (1 * 2 ^ i) % 2 ^ 32 ≡ 2 ^ i
one_shl_half i h = shl_exact 1 i 32 (lit< tt) (omega arith) ∙ one-mul (2 ^ i)

pub one_shl : (i : ℕ) → i < 64 → (1 * 2 ^ i) % 2 ^ 64 ≡ 2 ^ i
one_shl i h = shl_exact 1 i 64 (lit< tt) (omega arith) ∙ one-mul (2 ^ i)

half_pow : (i : ℕ) → 2 ^ suc i / 2 ≡ 2 ^ i
half_pow i = omega (arith, pow-suc 2 i)

pub bit_one : (i : ℕ) → bit (2 ^ i) i ≡ 1
bit_one zero = bit_at_zero 1
bit_one (suc i) = bit_suc (2 ^ suc i) i ∙ ap (λ (n : ℕ). bit n i) (half_pow i) ∙ bit_one i

pub bit_one_only : (i x : ℕ) → bit (2 ^ i) x ≡ 1 → x ≡ i
bit_one_only zero zero e = refl
bit_one_only zero (suc x) e = absurd (bit_none x (sym (bit_suc 1 x) ∙ e))
bit_one_only (suc i) zero e = absurd (omega (arith, pow-suc 2 i, sym (bit_at_zero (2 ^ suc i)) ∙ e))
bit_one_only (suc i) (suc x) e =
    ap suc (bit_one_only i x (ap (λ (n : ℕ). bit n x) (sym (half_pow i)) ∙ sym (bit_suc (2 ^ suc i) x) ∙ e))

-- Of a number with b above its lowest k bits, a has these.
above : (b k : ℕ) → b * 2 ^ suc k ≡ b * 2 ^ k * 2
above b k = ap (λ (n : ℕ). b * n) (pow-suc 2 k) ∙ sym (mul_assoc b (2 ^ k) 2)

even_sum : (a n : ℕ) → (a + n * 2) % 2 ≡ a % 2
even_sum a n = omega arith

half_sum : (a n : ℕ) → (a + n * 2) / 2 ≡ a / 2 + n
half_sum a n = omega arith

bit_below : (k a b x : ℕ) → x < k → bit (a + b * 2 ^ k) x ≡ bit a x
bit_below zero a b x l = absurd (not-suc-le-zero l)
bit_below (suc k) a b zero l =
    bit_at_zero _ ∙ ap (λ (n : ℕ). (a + n) % 2) (above b k) ∙ even_sum a (b * 2 ^ k) ∙ sym (bit_at_zero a)
bit_below (suc k) a b (suc x) l =
    bit_suc _ x
    ∙ ap (λ (n : ℕ). bit n x) (ap (λ (n : ℕ). (a + n) / 2) (above b k) ∙ half_sum a (b * 2 ^ k))
    ∙ bit_below k (a / 2) b x (le_of_suc-le-suc l)
    ∙ sym (bit_suc a x)

-- A word of two halves: the low half has its low bits, and the high half those from 32 up.
pub bit_low_half : (a b x : ℕ) → x < 32 → bit (b * 2 ^ 32 + a) x ≡ bit a x
bit_low_half a b x l = ap (λ (n : ℕ). bit n x) (omega arith) ∙ bit_below 32 a b x l

pub bit_high_half : (a b x : ℕ) → a < 2 ^ 32 → 32 ≤ x → bit (b * 2 ^ 32 + a) x ≡ bit b (x - 32)
unfolding bit
bit_high_half a b x h l =
    let s = b * 2 ^ 32 + a in
    let e : s / 2 ^ 32 ≡ b = omega arith in
    let f : x ≡ 32 + (x - 32) = omega arith in
    ap (λ (n : ℕ). n % 2) (ap (λ (n : ℕ). s / 2 ^ n) f ∙ sym (shr-shr s 32 (x - 32)) ∙ ap (λ (n : ℕ). n / 2 ^ (x - 32)) e)

-- `(s >> x) & 1` is bit x.
pub low_bit : (s x : ℕ) → bit_and (s / 2 ^ x) 1 ≡ bit s x
unfolding bit
low_bit s x = and_mask (s / 2 ^ x) 1

-- The number of zeros below the lowest set bit is its number.
lowest_step : (k s : ℕ)
    → ((s / 2 ≡ 0 → ⊥) → (count_trailing_zeros k (s / 2) < k) × (bit (s / 2) (count_trailing_zeros k (s / 2)) ≡ 1))
    → (s ≡ 0 → ⊥) → (d : ℕ) → s % 2 ≡ d
    → (under d (count_trailing_zeros k (s / 2)) < suc k) × (bit s (under d (count_trailing_zeros k (s / 2))) ≡ 1)
lowest_step k s ih n zero e =
    let r = ih (λ z. n (omega arith)) in (suc-le-suc r.0, bit_suc s (count_trailing_zeros k (s / 2)) ∙ r.1)
lowest_step k s ih n (suc d) e = (suc-le-suc zero-le, bit_at_zero s ∙ omega arith)

pub lowest_bit : (k s : ℕ) → (s ≡ 0 → ⊥) → s < 2 ^ k → (count_trailing_zeros k s < k) × (bit s (count_trailing_zeros k s) ≡ 1)
unfolding count_trailing_zeros
lowest_bit zero s n h = absurd (n (lt-one h))
lowest_bit (suc k) s n h = lowest_step k s (λ m. lowest_bit k (s / 2) m (omega (arith, pow-suc 2 k))) n (s % 2) refl

-- No number below it is in the set.
pub lowest_none : (k s x : ℕ) → x < count_trailing_zeros k s → bit s x ≡ 0
unfolding count_trailing_zeros
lowest_none zero s x l = absurd (not-suc-le-zero l)
lowest_none (suc k) s x l = go (s % 2) refl x l (lowest_none k (s / 2))
  where
    go : (d : ℕ) → s % 2 ≡ d → (x : ℕ) → x < under d (count_trailing_zeros k (s / 2))
        → ((y : ℕ) → y < count_trailing_zeros k (s / 2) → bit (s / 2) y ≡ 0) → bit s x ≡ 0
    go zero e zero l more = bit_at_zero s ∙ e
    go zero e (suc y) l more = bit_suc s y ∙ more y (le_of_suc-le-suc l)
    go (suc d) e x l more = absurd (not-suc-le-zero l)

-- A number of j + 1 bits that has no fewer has bit j.
top_bit : (j s : ℕ) → 2 ^ j ≤ s → s < 2 ^ suc j → bit s j ≡ 1
top_bit zero s l u = bit_at_zero s ∙ omega (arith, l, u)
top_bit (suc j) s l u =
    bit_suc s j ∙ top_bit j (s / 2) (omega (arith, pow-suc 2 j, l)) (omega (arith, pow-suc 2 (suc j), pow-suc 2 j, u))

-- The zeros above the highest set bit, and the bits from it down, make all k.
pub highest_bit : (k s : ℕ) → (s ≡ 0 → ⊥) → s < 2 ^ k → (count_leading_zeros k s < k) × (bit s (k - 1 - count_leading_zeros k s) ≡ 1)
highest_bit k s n h =
    let t = leading_top k s (omega arith) h in
    let e : count_leading_zeros k s + suc t.0 ≡ k = t.1 in
    let q : k - 1 - count_leading_zeros k s ≡ t.0 = omega (arith, e) in
    (omega (arith, e), ap (bit s) q ∙ top_bit t.0 s t.2 t.3)

-- `a | b` is more than a where b has a bit that a lacks.
pub or_grows : (a b h : ℕ) → bit a h ≡ 0 → bit b h ≡ 1 → a < bit_or a b
or_grows a b h e f =
    lt_of_le-ne
    (omega (arith, or_add_and a b, and_le_r a b))
    (λ q. let g : bit a h ≡ max (bit a h) (bit b h) = ap (λ (n : ℕ). bit n h) q ∙ bit_under_or a b h in omega arith)
