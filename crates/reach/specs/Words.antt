-- Words of 64 bits as sets of numbers, and lists of such words as tables.
use Rattle.std.specs.Prelude.{◌≡◌, Bool, List, ℕ, ◌-◌, ◌/◌, ◌%◌, ◌^◌, ◌<◌, eqb, length, get_or}
use Rattle.reach.specs.Tests.{Some}

-- Bit x of the word s, 0 or 1.
unfoldable pub bit : ℕ → ℕ → ℕ
bit s x = s / 2 ^ x % 2

-- Whether x is in the set s.
unfoldable pub has : ℕ → ℕ → Bool
has s x = eqb (bit s x) 1

-- The word s, as a set, has exactly the numbers of which P holds.
pub record SetOf (s : ℕ) (P : ℕ → Type 0) : Type 0 where
  pub word : s < 2 ^ 64
  pub only : (x : ℕ) → bit s x ≡ 1 → P x
  pub all : (x : ℕ) → P x → bit s x ≡ 1

-- x is the lowest number of the set s, and t is s without it.
pub record LowestOf (s x t : ℕ) : Type 0 where
  pub low : x < 64
  pub in_set : bit s x ≡ 1
  pub least : (y : ℕ) → y < x → bit s y ≡ 0
  pub rest : t ≡ s - 2 ^ x

-- The sets a and b share a number.
abbrev pub Meet : ℕ → ℕ → Type 0
Meet a b = Some 64 (λ x. (bit a x ≡ 1) × (bit b x ≡ 1))

-- A list of n words: word i, as a set, has exactly the numbers x of which P i x holds.
pub record TableOf (n : ℕ) (l : List ℕ) (P : ℕ → ℕ → Type 0) : Type 0 where
  pub long : length l ≡ n
  pub row : (i : ℕ) → i < n → SetOf (get_or l i 0) (P i)
