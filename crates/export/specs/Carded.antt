-- A policy on a card, for C and Rust: what the writer leaves in two buffers, and the reader in one.
use Rattle.std.specs.Prelude.{◌≡◌, Bool, true, false, ◌&&◌, List, [], ◌∷◌, ◌++◌, ℕ, eqb, leb, length, Result, IfOk}
use Rattle.text.specs.Text.{Bytes}
use Rattle.list.specs.Demand.{Demand3}
use Rattle.list.specs.Filling.{over}
use Rattle.reach.specs.declared.Policy.{Policy}
use Rattle.snapshot.specs.declared.CardError.{CardError}
use Rattle.snapshot.specs.Answers.{code_of, length_of, policy_after, Writes, Reads}
use Rattle.export.specs.Picture.{policy_of, picture_of}

-- Whether the picture has its 960 bytes, and there is a byte for the code; or room for a picture and a code.
abbrev pub writer_fits : Bytes → Bytes → Bool
writer_fits picture code = eqb (length picture) 960 && leb 1 (length code)

abbrev pub reader_fits : Bytes → Bytes → Bool
reader_fits picture answer = eqb (length picture) 960 && leb 961 (length answer)

-- The two buffers after the writer, and its result: the file's length, 0 when refused; the code goes into the first byte. Where the sizes do
-- not fit, nothing at all is written, and the result is 0.
pub data CardWritten (picture card code card' code' : Bytes) (n : ℕ) : Type 0 where
  misfit : writer_fits picture code ≡ false → card' ≡ card → code' ≡ code → n ≡ 0 → CardWritten picture card code card' code' n
  answered : writer_fits picture code ≡ true → (r : Result ℕ CardError) → Writes (policy_of picture) card card' r
      → code' ≡ over (code_of r ∷ []) code → n ≡ length_of r → CardWritten picture card code card' code' n

-- The buffer after the reader: the picture of the policy after, then the code, 961 bytes. From a policy that was read demand 3 holds for every
-- list. Where the sizes do not fit, nothing is written, and the result is 0.
pub data CardRead (picture card answer answer' : Bytes) (n : ℕ) : Type 0 where
  misfit : reader_fits picture answer ≡ false → answer' ≡ answer → n ≡ 0 → CardRead picture card answer answer' n
  answered : reader_fits picture answer ≡ true → (r : Result Policy CardError) → Reads card r
      → IfOk r (λ p. (list : List Bytes) → Demand3 p list)
      → answer' ≡ over (picture_of (policy_after (policy_of picture) r) ++ (code_of r ∷ [])) answer → n ≡ 961 → CardRead picture card answer answer' n
