-- What a question on a picture leaves in its buffer: nothing without a picture and room for the answer, and else the bytes of the answer.
use mathlib.Core.Path.{◌≡◌, refl, subst, ◌∙◌}
use mathlib.Core.Bool.{true, false}
use mathlib.Core.List.{◌++◌}
use Prim.Native.Nat.{ℕ, ◌≤◌, ◌<◌}
use lib.Dec.{eqb, leb}
use lib.ListN.{length, drop}
use borrow.Author.Tests.{eq-eqb, ne_eqb, le-leb, lt-leb}
use Rattle.reach.specs.declared.Policy.{Policy}
use Rattle.reach.specs.Words.{SetOf}
use Rattle.reach.specs.Tables.{initial}
use Rattle.reach.specs.Tests.{◌⇒◌∥◌}
use Rattle.list.specs.Filling.{over}
use Rattle.std.specs.Int.{to_le_bytes, w64}
use Rattle.reach.proofs.Sizes.{sized_initial}
use Rattle.text.specs.Text.{Bytes}
use Rattle.export.specs.Picture.{policy_of, picture_of, bytes_of}
use Rattle.export.specs.Asked.{answer_fits, AnswerTold, SetTold, InitialTold}
use Rattle.export.proofs.Storing.{bytes_length}
use Rattle.export.proofs.Tabling.{bytes_of_eight}
use Rattle.export.proofs.Picturing.{picture_length}

module _ (picture answer buffer : Bytes) where
  untold : answer_fits picture answer buffer ≡ false → AnswerTold picture answer buffer buffer 0
  untold short = record { written = rw short; count = rw short }

  pub no_picture : (length picture ≡ 960 → ⊥) → AnswerTold picture answer buffer buffer 0
  no_picture other = untold (rw (ne_eqb (length picture) 960 other))

  -- The answer, over the first bytes of a buffer that has room for it.
  pub answered : {buffer' : Bytes} {n : ℕ} (k : ℕ) → length picture ≡ 960 → length answer ≡ k
      → buffer' ≡ (leb k (length buffer) ⇒ over answer buffer ∥ buffer) → n ≡ (leb k (length buffer) ⇒ k ∥ 0)
      → AnswerTold picture answer buffer buffer' n
  answered k long e written count =
      let is : eqb (length picture) 960 ≡ true = eq-eqb (length picture) 960 long in
      record { written = rw (is, e) (rw e at written); count = rw (is, e) count }

-- What is asked goes by one number or two. The set with which the policy of the picture answers is told; what it was asked for are the
-- numbers that the caller gave.
pub set_told : (asked : ℕ → ℕ → Policy → ℕ → Type 0) (x y x' y' : ℕ) (picture : Bytes) (p : Policy) (w : ℕ) (buffer buffer' : Bytes)
    (n : ℕ) → x' ≡ x → y' ≡ y → p ≡ policy_of picture → SetOf w (asked x' y' p) → AnswerTold picture (bytes_of 8 w) buffer buffer' n
    → SetTold picture (asked x y) buffer buffer' n
set_told asked x y x' y' picture p w buffer buffer' n ex ey e s t =
    record {
      set = w;
      exactly =
          subst (λ (q : Policy). SetOf w (asked x y q)) e
          (subst (λ (b : ℕ). SetOf w (asked x b p)) ey (subst (λ (a : ℕ). SetOf w (asked a y' p)) ex s));
      told = t;
    }

module _ (asked : Policy → ℕ → Type 0) (picture buffer : Bytes) where
  pub no_set : (s : ℕ) × SetOf s (asked (policy_of picture)) → (length picture ≡ 960 → ⊥) → SetTold picture asked buffer buffer 0
  no_set there other = record { set = there.0; exactly = there.1; told = no_picture picture (bytes_of 8 there.0) buffer other }

  -- The set with which the policy of the picture answers, in its eight bytes.
  pub set_answered : {bytes buffer' : Bytes} {n : ℕ} (p : Policy) (w : ℕ) → (length picture ≡ 960) × (p ≡ policy_of picture) → SetOf w (asked p)
      → bytes ≡ to_le_bytes w64 w → buffer' ≡ (leb 8 (length buffer) ⇒ over bytes buffer ∥ buffer)
      → n ≡ (leb 8 (length buffer) ⇒ 8 ∥ 0) → SetTold picture asked buffer buffer' n
  set_answered p w is s e written count =
      let spelt = e ∙ bytes_of_eight w in
      set_told (λ _ _. asked) 0 0 0 0 picture p w buffer _ _ refl refl is.1 s
      (answered picture (bytes_of 8 w) buffer 8 is.0 (bytes_length 8 w) (rw spelt at written) count)

-- The founding's picture, over the first 960 bytes.
pub founding : (buffer picture : Bytes) → 960 ≤ length buffer → picture ≡ picture_of initial
    → InitialTold buffer (picture ++ drop 960 buffer) 960
founding buffer picture h e =
    let long = le-leb 960 (length buffer) h in
    let whole : length (picture_of initial) ≡ 960 = picture_length initial sized_initial in
    record { written = rw (long, e, whole); count = rw long }
