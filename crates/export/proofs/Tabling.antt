-- Tables, made by calls at each number in turn, and the library's number of eight bytes.
use mathlib.Core.Path.{◌≡◌, refl, sym, subst, ap, ap₂, ◌∙◌}
use mathlib.Core.List.{List, [], ◌∷◌, ◌++◌}
use Prim.Native.Nat.{ℕ, zero, suc, ◌+◌, ◌-◌, ◌*◌, ◌/◌, ◌%◌, ◌^◌, ◌≤◌, ◌<◌}
use Rattle.std.proofs.Math.Nat.{div-div-eq-div-mul}
use native.Mathlib.Numerals.{add-one}
use native.Mathlib.Omega.{arith}
use Rattle.std.proofs.Common.{inl, inr}
use Rattle.std.proofs.lemmas.Bool.{cases_eq}
use lib.ListN.{length, get_or, take, length-append}
use lib.Seq.{take-suc, take_all}
use denote.Param.Members.{Mut}
use Rattle.std.specs.Fn.{Called}
use Rattle.std.specs.Array.{IsFromFnResult, IsFromFnResultFrom}
use Rattle.std.specs.Int.{from_le_bytes, to_le_bytes, w16, w64}
use Rattle.frame.specs.Fields.{byte}
use Rattle.text.specs.Text.{Bytes}
use Rattle.export.specs.Picture.{table, number_from, bytes_of}

-- ---- Tables

-- A table has its places.
pub table_length : {A : Type 0} (n : ℕ) (f : ℕ → A) → length (table n f) ≡ n
unfolding table
table_length zero f = refl
table_length (suc n) f = length-append (table n f) (f n ∷ []) ∙ rw (table_length n f, add-one)

-- A table is the list that has its places.
module _ {A : Type 0} (n : ℕ) (f : ℕ → A) (xs : List A) (d : A) (long : length xs ≡ n) (each : (i : ℕ) → i < n → f i ≡ get_or xs i d) where
  table_prefix : (i : ℕ) → i ≤ n → table i f ≡ take i xs
  unfolding table
  table_prefix zero h = refl
  table_prefix (suc i) h =
      ap₂ (λ (l : List A) (x : A). l ++ (x ∷ [])) (table_prefix i (omega arith)) (each i h)
      ∙ sym (take-suc xs i d (omega (arith, long)))

  pub table_of : table n f ≡ xs
  table_of = table_prefix n (omega arith) ∙ take_all n xs (omega (arith, long))

-- The same of the list that the calls of a closure gave, which alter nothing.
module _ {F A : Type 0} (g : Mut F (ℕ × Unit {0}) A) (n : ℕ) (f : ℕ → A) (p : F)
    (call : (i : ℕ) (x : A) (q : F) → i < n → Called g p (i, tt) x q → (x ≡ f i) × (q ≡ p)) (xs : List A) where
  places : (k i : ℕ) (q : F) → i + k ≡ n → q ≡ p → IsFromFnResultFrom g q xs i k → (j : ℕ) (d : A) → i ≤ j → j < n → f j ≡ get_or xs j d
  places zero i q e s calls j d low high = absurd (omega arith)
  places (suc k) i q e s calls j d low high =
      let one : (calls.1 ≡ f i) × (calls.0 ≡ p) = call i calls.1 calls.0 (omega arith) (subst (λ (r : F). Called g r (i, tt) calls.1 calls.0) s calls.3) in
      elim (cases_eq j i) [
        | inl same ↦ rw same (sym (calls.2.1 d ∙ one.0))
        | inr other ↦ places k (i + 1) calls.0 (omega arith) one.1 calls.4 j d (omega (arith, other)) high
      ]

  pub table_called : IsFromFnResult g p xs n → xs ≡ table n f
  table_called r = sym (table_of n f xs (f 0) r.long (λ i h. places n 0 p (omega arith) refl r.each i (f 0) (omega arith) h))

-- ---- Numbers

-- The library's number of eight bytes, the lowest first.
pub word_of_eight : (b : Bytes) (at : ℕ) → from_le_bytes w64 (table 8 (λ k. byte b (at + k))) ≡ number_from 8 b at
unfolding table number_from
word_of_eight b at =
    let none : at + 0 ≡ at = omega arith in
    let one : at + 1 ≡ suc at = omega arith in
    let two : at + 2 ≡ suc (suc at) = omega arith in
    let three : at + 3 ≡ suc (suc (suc at)) = omega arith in
    let four : at + 4 ≡ suc (suc (suc (suc at))) = omega arith in
    let five : at + 5 ≡ suc (suc (suc (suc (suc at)))) = omega arith in
    let six : at + 6 ≡ suc (suc (suc (suc (suc (suc at))))) = omega arith in
    let seven : at + 7 ≡ suc (suc (suc (suc (suc (suc (suc at)))))) = omega arith in
    rw (none, one, two, three, four, five, six, seven) (omega arith)

-- The library's bytes of a number, the lowest first: eight of them, or two.
pub bytes_of_eight : (w : ℕ) → to_le_bytes w64 w ≡ bytes_of 8 w
unfolding bytes_of
bytes_of_eight w = simp div-div-eq-div-mul

pub bytes_of_two : (w : ℕ) → to_le_bytes w16 w ≡ bytes_of 2 w
unfolding bytes_of
bytes_of_two w = refl
