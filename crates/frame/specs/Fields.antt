-- [01:records.1] "Length first: two bytes, little-endian, counting the whole record; then a two-byte little-endian kind; then one byte
-- each." A byte past the end of the record reads as 0; the checks on the length come before any such byte counts.
use Rattle.std.specs.Prelude.{List, ℕ, ◌+◌, ◌*◌, get_or}

abbrev pub byte : List ℕ → ℕ → ℕ
byte b i = get_or b i 0

-- The number of two bytes, little-endian.
abbrev pub little_endian : ℕ → ℕ → ℕ
little_endian low high = low + 256 * high

abbrev pub length_field : List ℕ → ℕ
length_field b = little_endian (byte b 0) (byte b 1)

abbrev pub kind_field : List ℕ → ℕ
kind_field b = little_endian (byte b 2) (byte b 3)
