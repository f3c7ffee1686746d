-- What the calls of a closure gave that changes nothing it holds: the elements of an array that `from_fn` makes.
use Rattle.std.proofs.Common.{◌≡◌, ℕ, ◌+◌, ◌<◌, ◌≤◌, zero, suc, List, refl, subst, sym, arith, get_or}
use native.Mathlib.Decide.{ℕ_discrete}
use denote.Param.Members.{Mut, Called}
use Rattle.std.specs.Array.{IsFromFnResult, IsFromFnResultFrom}

module _ {F B : Type 0} (g : Mut F (ℕ × Unit {0}) B) (P : ℕ → B → Type 0) (f : F)
    (call : (i : ℕ) (r : B) (f' : F) → Called g f (i, tt) r f' → P i r × (f' ≡ f)) where
  from : (q : F) (ys : List B) (i n : ℕ) → q ≡ f → IsFromFnResultFrom g q ys i n → (j : ℕ) (e : B) → i ≤ j → j < i + n → P j (get_or ys j e)
  from q ys i zero s r j e l h = absurd (omega arith)
  from q ys i (suc n) s r j e l h =
      let k = call i r.1 r.0 (subst (λ (h : F). Called g h (i, tt) r.1 r.0) s r.3) in
      elim (ℕ_discrete j i) [
        | yes same ↦ subst (λ (m : ℕ). P m (get_or ys m e)) (sym same) (subst (P i) (sym (r.2.1 e)) k.0)
        | no other ↦ from r.0 ys (i + 1) n k.1 r.4 j e (omega arith) (omega arith)
      ]

  pub each_made : (ys : List B) (n : ℕ) → IsFromFnResult g f ys n → (j : ℕ) (e : B) → j < n → P j (get_or ys j e)
  each_made ys n r j e h = from f ys 0 n refl r.each j e (omega arith) (omega arith)
