-- Lists of the tables: their length as the code's facts give it, what stands past their end, and a function applied in place. By
-- induction on the list.
use mathlib.Core.Path.{◌≡◌, refl, sym, ap, ap₂, ◌∙◌}
use mathlib.Core.List.{List, [], ◌∷◌, map}
use Prim.Native.Nat.{ℕ, zero, suc, ◌+◌, ◌≤◌}
use native.Mathlib.Nat.{le_of_suc-le-suc, not-suc-le-zero}
use native.Mathlib.Numerals.{add-one}
use native.Mathlib.Omega.{arith}
use lib.ListN.{length, get_or, set, length-map}

pub length_mapped : (X Y : Type 0) (f : X → Y) (l : List X) (n : ℕ) → length (map f l) ≡ n → length l ≡ n
length_mapped X Y f l n e = sym (length-map l f) ∙ e

pub get_d_past {ℓ} : {A : Type ℓ} (l : List A) (i : ℕ) (d : A) → length l ≤ i → get_or l i d ≡ d
get_d_past [] i d h = refl
get_d_past (a ∷ l) zero d h = absurd (not-suc-le-zero h)
get_d_past (a ∷ l) (suc i) d h = get_d_past l i d (le_of_suc-le-suc h)

-- f applied to the first n elements.
abbrev pub map_to : (ℕ → ℕ) → ℕ → List ℕ → List ℕ
map_to f zero l = l
map_to f (suc n) [] = []
map_to f (suc n) (a ∷ l) = f a ∷ map_to f n l

map_to_suc : (f : ℕ → ℕ) (n : ℕ) (l : List ℕ) → set (map_to f n l) n (f (get_or (map_to f n l) n 0)) ≡ map_to f (suc n) l
map_to_suc f zero [] = refl
map_to_suc f zero (a ∷ l) = refl
map_to_suc f (suc n) [] = refl
map_to_suc f (suc n) (a ∷ l) = ap (λ (t : List ℕ). f a ∷ t) (map_to_suc f n l)

-- A turn of the loop applies f at n.
pub map_to_next : (f : ℕ → ℕ) (n : ℕ) (l : List ℕ) → set (map_to f n l) n (f (get_or (map_to f n l) n 0)) ≡ map_to f (n + 1) l
map_to_next f n l = map_to_suc f n l ∙ ap (λ (k : ℕ). map_to f k l) (sym (add-one n))

pub map_to_all : (f : ℕ → ℕ) (n : ℕ) (l : List ℕ) → length l ≤ n → map_to f n l ≡ map f l
map_to_all f zero [] h = refl
map_to_all f zero (a ∷ l) h = absurd (not-suc-le-zero h)
map_to_all f (suc n) [] h = refl
map_to_all f (suc n) (a ∷ l) h = ap (λ (t : List ℕ). f a ∷ t) (map_to_all f n l (le_of_suc-le-suc h))

-- Functions that agree on the elements map alike.
pub map_agree : (f g : ℕ → ℕ) (l : List ℕ) → ((i : ℕ) → f (get_or l i 0) ≡ g (get_or l i 0)) → map f l ≡ map g l
map_agree f g [] e = refl
map_agree f g (a ∷ l) e = ap₂ ◌∷◌ (e 0) (map_agree f g l (λ i. e (suc i)))

-- A store past the end changes nothing.
pub set_past {ℓ} : {A : Type ℓ} (l : List A) (i : ℕ) (a : A) → length l ≤ i → set l i a ≡ l
set_past [] i a e = refl
set_past (x ∷ l) zero a e = absurd (omega (arith, e))
set_past (x ∷ l) (suc i) a e = ap (λ t. x ∷ t) (set_past l i a (omega (arith, e)))
