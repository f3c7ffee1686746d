-- What was read is the whole input, or a first part of it of which a program says the same: so the text for the one is the text for the other.
use Rattle.std.proofs.Common.{◌≡◌, ℕ, ◌<◌, ◌≤◌, List, [], ◌++◌, length, take, arith, sym, ap, ◌∙◌, subst}
use Rattle.std.specs.Prelude.{Option, Some, None, Result, Ok, Err, OnOk, IfSome}
use Rattle.std.specs.Io.KnownBytes.{Appends, Consumes, IsAtEnd}
use Rattle.std.proofs.Math.Decide.{dec_lt}
use Rattle.std.proofs.lemmas.List.{append-nil, length-take-le}

-- The text for an input; what stands behind its first bytes changes nothing, where these are more than 65,536.
module _ (output : List ℕ → List ℕ)
    (longer : (front rest : List ℕ) → 65536 < length front → output (front ++ rest) ≡ output front) where
  -- The input is what was read, and what was left.
  same : (front rest : List ℕ) (n room : ℕ) → length front ≡ n → 65536 < room → (n < room → rest ≡ []) →
      output front ≡ output (front ++ rest)
  same front rest n room e h end =
      elim (dec_lt n room) [
        | yes l ↦ ap output (sym (append-nil front) ∙ ap (λ r. front ++ r) (sym (end l)))
        | no f ↦ sym (longer front rest (omega (arith, f, e, h)))
      ]

  -- Of a buffer with more room than that, the first n bytes were read: they are the input's first, and all of it if the buffer isn't full.
  pub whole : (old new : Option (List ℕ)) (buffer : List ℕ) (n : ℕ) → 65536 < length buffer → n ≤ length buffer →
      Consumes old new (take n buffer) → (n < length buffer → IsAtEnd new) →
      IfSome old (λ input. output (take n buffer) ≡ output input)
  whole None new buffer n h within c end = tt
  whole (Some xs) None buffer n h within c end = elim c [ ]
  whole (Some xs) (Some ys) buffer n h within c end =
      rw c (same (take n buffer) ys n (length buffer) (length-take-le n buffer within) h end)

-- So where the one is printed, the other is.
pub told : {E T : Type 0} (output : List ℕ → List ℕ) (r : Result T E) (old before after : Option (List ℕ)) (said text : List ℕ) →
    OnOk r (Appends before after said) → said ≡ text → IfSome old (λ input. text ≡ output input) →
    OnOk r (IfSome old (λ input. Appends before after (output input)))
told output (Err e) old before after said text p f same = tt
told output (Ok x) None before after said text p f same = tt
told output (Ok x) (Some xs) before after said text p f same = subst (Appends before after) (f ∙ same) p
