-- What a run of places gives: it can be cut in two, moved, and compared place by place; its length is the sum of its places'. By induction on
-- the number of places.
use mathlib.Core.Path.{◌≡◌, refl, sym, ap, ap₂, ◌∙◌}
use mathlib.Core.List.{List, [], ◌++◌, append_assoc, append-nil}
use Prim.Native.Nat.{ℕ, zero, suc, ◌+◌, ◌*◌, ◌≤◌, ◌<◌}
use native.Mathlib.Nat.{le_refl}
use native.Mathlib.Omega.{arith}
use lib.ListN.{length, length-append}
use Rattle.snapshot.specs.Card.{from}

module _ {A : Type 0} where
  pub from_next : (l n : ℕ) (f : ℕ → List A) → from (suc l) n f ≡ f n ++ from l (suc n) f
  unfolding from
  from_next l n f = refl

  pub from_end : (n : ℕ) (f : ℕ → List A) → from zero n f ≡ []
  unfolding from
  from_end n f = refl

  pub from_same : (l n : ℕ) (f g : ℕ → List A) → ((k : ℕ) → n ≤ k → k < n + l → f k ≡ g k) → from l n f ≡ from l n g
  unfolding from
  from_same zero n f g h = refl
  from_same (suc l) n f g h =
      ap₂ (λ (a b : List A). a ++ b) (h n (le_refl n) (omega arith)) (from_same l (suc n) f g (λ k a b. h k (omega arith) (omega arith)))

  -- A run and the run behind it.
  pub from_append : (a b n : ℕ) (f : ℕ → List A) → from (a + b) n f ≡ from a n f ++ from b (n + a) f
  unfolding from
  from_append zero b n f = let e : n + 0 ≡ n = omega arith in let c : 0 + b ≡ b = omega arith in rw (e, c)
  from_append (suc a) b n f =
      let e : n + suc a ≡ suc n + a = omega arith in
      let c : suc a + b ≡ suc (a + b) = omega arith in
      rw (c, e, from_append a b (suc n) f) (sym (append_assoc (f n) (from a (suc n) f) (from b (suc n + a) f)))

  -- A run and the next place.
  pub from_more : (k : ℕ) (f : ℕ → List A) → from (k + 1) 0 f ≡ from k 0 f ++ f k
  unfolding from
  from_more k f =
      let e : 0 + k ≡ k = omega arith in
      from_append k 1 0 f ∙ ap (λ (n : ℕ). from k 0 f ++ (f n ++ [])) e ∙ ap (λ (l : List A). from k 0 f ++ l) (append-nil (f k))

  -- A run of places moved by m.
  pub from_moved : (l n m : ℕ) (f g : ℕ → List A) → ((k : ℕ) → n ≤ k → k < n + l → f (m + k) ≡ g k) → from l (m + n) f ≡ from l n g
  unfolding from
  from_moved zero n m f g h = refl
  from_moved (suc l) n m f g h =
      let e : suc (m + n) ≡ m + suc n = omega arith in
      rw e
      (ap₂ (λ (a b : List A). a ++ b) (h n (le_refl n) (omega arith))
      (from_moved l (suc n) m f g (λ k a b. h k (omega arith) (omega arith))))

  -- Places that give nothing.
  pub from_none : (l n : ℕ) (f : ℕ → List A) → ((k : ℕ) → n ≤ k → k < n + l → f k ≡ []) → from l n f ≡ []
  unfolding from
  from_none zero n f h = refl
  from_none (suc l) n f h = rw (h n (le_refl n) (omega arith)) (from_none l (suc n) f (λ k a b. h k (omega arith) (omega arith)))

  pub from_skip : (j l n : ℕ) (f : ℕ → List A) → ((k : ℕ) → n ≤ k → k < n + j → f k ≡ []) → from (j + l) n f ≡ from l (n + j) f
  from_skip j l n f h = from_append j l n f ∙ ap (λ (a : List A). a ++ from l (n + j) f) (from_none j n f h)

  -- Rows of 64 places are a run of places.
  pub from_rows : (l x : ℕ) (f : ℕ → ℕ → List A) (g : ℕ → List A) → ((y k : ℕ) → y < x + l → k < 64 → g (64 + 64 * y + k) ≡ f y k)
      → from (l * 64) (64 + 64 * x) g ≡ from l x (λ y. from 64 0 (f y))
  unfolding from
  from_rows zero x f g h = refl
  from_rows (suc l) x f g h =
      let a : suc l * 64 ≡ 64 + l * 64 = omega arith in
      let c : 64 + 64 * x + 64 ≡ 64 + 64 * suc x = omega arith in
      let m : 64 + 64 * x ≡ (64 + 64 * x) + 0 = omega arith in
      ap (λ (n : ℕ). from n (64 + 64 * x) g) a
      ∙ from_append 64 (l * 64) (64 + 64 * x) g
      ∙ ap₂ (λ (a b : List A). a ++ b)
      (ap (λ (n : ℕ). from 64 n g) m ∙ from_moved 64 0 (64 + 64 * x) g (f x) (λ k e d. h x k (omega arith) (omega arith)))
      (ap (λ (n : ℕ). from (l * 64) n g) c ∙ from_rows l (suc x) f g (λ y k d e. h y k (omega arith) e))

  -- How long a run is at most, where each place gives at most s.
  pub from_length : (l n s : ℕ) (f : ℕ → List A) → ((k : ℕ) → n ≤ k → k < n + l → length (f k) ≤ s) → length (from l n f) ≤ s * l
  unfolding from
  from_length zero n s f h = omega arith
  from_length (suc l) n s f h =
      let a = h n (le_refl n) (omega arith) in
      let b = from_length l (suc n) s f (λ k a b. h k (omega arith) (omega arith)) in
      let m : s * suc l ≡ s + s * l = mul_suc_right s l in
      omega (arith, a, b, m, length-append (f n) (from l (suc n) f))
    where
      mul_suc_right : (s l : ℕ) → s * suc l ≡ s + s * l
      mul_suc_right zero l = omega arith
      mul_suc_right (suc s) l = omega arith
