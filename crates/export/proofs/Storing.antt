-- Bytes stored in others; and what the loop that draws a table keeps: the bytes to come, stored behind those so far, give the
-- buffer with all of them.
use mathlib.Core.Path.{◌≡◌, refl, sym, ap, ◌∙◌}
use mathlib.Core.List.{List, [], ◌∷◌, ◌++◌, append_assoc, append-nil}
use Prim.Native.Nat.{ℕ, zero, suc, ◌+◌, ◌-◌, ◌*◌, ◌/◌, ◌%◌, ◌≤◌, ◌<◌, zero-le}
use native.Mathlib.Nat.{mul-suc, mul-le-mul_left, zero-add}
use native.Mathlib.Numerals.{add-one}
use native.Mathlib.Omega.{arith}
use lib.ListN.{length, take, drop, set, get_or, length-set, length-append, drop_of_length-le}
use lib.Seq.{drop-cons, drop-drop, sets, sets-eq, length-sets}
use borrow.Rule.Slice.PartMut.{put_mid}
use Rattle.text.specs.Text.{Bytes}
use Rattle.export.specs.Picture.{flat, bytes_of}

-- Bytes stored, and others behind them, are all stored.
pub sets_append : (l : Bytes) (n : ℕ) (a b : Bytes) → sets l n (a ++ b) ≡ sets (sets l n a) (n + length a) b
sets_append l n [] b = ap (λ (k : ℕ). sets l k b) (omega arith)
sets_append l n (x ∷ a) b =
    sets_append (set l n x) (suc n) a b
    ∙ ap (λ (k : ℕ). sets (sets (set l n x) (suc n) a) k b) (omega arith)

-- Bytes stored from the start on.
pub sets_front : (l vs : Bytes) → length vs ≤ length l → sets l 0 vs ≡ vs ++ drop (length vs) l
sets_front l vs h = sets-eq vs l 0 (rw zero-add h) ∙ rw zero-add

-- Bytes stored over as many others are those bytes.
pub sets_all : (l vs : Bytes) → length vs ≡ length l → sets l 0 vs ≡ vs
sets_all l vs e =
    sets_front l vs (omega arith) ∙ ap (λ (rest : Bytes). vs ++ rest) (drop_of_length-le l {i = length vs} (omega arith)) ∙ append-nil vs

-- A part that is written over has the bytes stored in its place.
pub sets_mid : (l vs : Bytes) (i k : ℕ) → length vs ≡ k → i + k ≤ length l → put_mid i k l vs ≡ sets l i vs
sets_mid l vs i k e h =
    ap (λ (rest : Bytes). take i l ++ (vs ++ rest)) (drop-drop k i l ∙ ap (λ (n : ℕ). drop n l) (omega (arith, e)))
    ∙ sym (append_assoc (take i l) vs (drop (i + length vs) l))
    ∙ sym (sets-eq vs l i (omega (arith, e)))

-- ---- The bytes of a number

pub bytes_length : (k w : ℕ) → length (bytes_of k w) ≡ k
unfolding bytes_of
bytes_length zero w = refl
bytes_length (suc k) w = ap suc (bytes_length k (w / 256))

-- ---- The bytes of a table

pub flat_length : {A : Type 0} (f : A → Bytes) (w : ℕ) → ((x : A) → length (f x) ≡ w) → (xs : List A)
    → length (flat f xs) ≡ w * length xs
unfolding flat
flat_length f w each [] = omega arith
flat_length f w each (x ∷ xs) =
    length-append (f x) (flat f xs) ∙ rw (each x, flat_length f w each xs, mul-suc) (omega arith)

-- The bytes of a place are within those of all.
pub place_within : (w i n : ℕ) → i < n → w * i + w ≤ w * n
place_within w i n h = let most : w * suc i ≤ w * n = mul-le-mul_left w h in omega (arith, mul-suc w i, most)

module _ {A : Type 0} (f : A → Bytes) (w start : ℕ) (xs : List A) (out₀ : Bytes) where
  pub record Drawing (out : Bytes) (i : ℕ) : Type 0 where
    pub length_kept : length out ≡ length out₀
    pub to_come : sets out (start + w * i) (flat f (drop i xs)) ≡ sets out₀ start (flat f xs)

  pub drawing_start : Drawing out₀ 0
  drawing_start = record { length_kept = refl; to_come = ap (λ (n : ℕ). sets out₀ n (flat f xs)) (omega arith) }

  module _ {out : Bytes} {i : ℕ} (s : Drawing out i) where
    pub drawing_step : {out' : Bytes} → i < length xs → (d : A) → length (f (get_or xs i d)) ≡ w
        → out' ≡ sets out (start + w * i) (f (get_or xs i d)) → Drawing out' (i + 1)
    unfolding flat
    drawing_step low d long e =
        let bytes = f (get_or xs i d) in
        let here = start + w * i in
        let next : start + w * (i + 1) ≡ start + w * i + w = rw (add-one, mul-suc) (omega arith) in
        record {
          length_kept = ap length e ∙ length-sets out here bytes ∙ s.length_kept;
          to_come =
              rw (e, next, add-one)
              (ap (λ (n : ℕ). sets (sets out here bytes) (here + n) (flat f (drop (suc i) xs))) (sym long)
              ∙ sym (sets_append out here bytes (flat f (drop (suc i) xs)))
              ∙ ap (λ (l : List A). sets out here (flat f l)) (sym (drop-cons xs i d low))
              ∙ s.to_come);
        }

    pub drawing_end : length xs ≤ i → out ≡ sets out₀ start (flat f xs)
    unfolding flat
    drawing_end h = ap (λ (l : List A). sets out (start + w * i) (flat f l)) (sym (drop_of_length-le xs h)) ∙ s.to_come
