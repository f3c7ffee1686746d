-- What `selkaum_write_card` and `selkaum_read_card` leave in their buffers: nothing where the sizes do not fit, and else what the writer and
-- the reader answer on the policy of the picture, with its code.
use mathlib.Core.Path.{◌≡◌, refl, sym, ap, subst, ◌∙◌}
use mathlib.Core.List.{List, [], ◌∷◌, ◌++◌, append_assoc}
use Prim.Native.Nat.{ℕ, ◌+◌, ◌≤◌, ◌<◌}
use native.Mathlib.Omega.{arith}
use lib.ListN.{length, drop, set, length-append, length-drop}
use lib.Seq.{drop-drop}
use borrow.Author.Tests.{eq-eqb, ne_eqb, le-leb, lt-leb}
use Rattle.reach.specs.declared.Policy.{Policy}
use Rattle.reach.specs.Tables.{Sized}
use Rattle.text.specs.Text.{Bytes}
use Rattle.list.specs.Demand.{Demand3}
use Rattle.std.specs.Prelude.{Result, Ok, Err, IfOk}
use Rattle.std.specs.Result.{result_unwrap_or}
use Rattle.snapshot.specs.declared.CardError.{CardError}
use Rattle.snapshot.specs.Answers.{code_of, length_of, policy_after, Writes, Reads}
use Rattle.snapshot.proofs.Answering.{length_is, after_is}
use Rattle.export.specs.Picture.{policy_of, picture_of}
use Rattle.export.specs.Carded.{CardWritten, CardRead}
use Rattle.export.proofs.Storing.{sets_front}
use Rattle.export.proofs.Picturing.{policy_sized, picture_length, Halves, whole, one_set}

-- ---- The writer

module _ (picture card code : Bytes) where
  pub card_written : {card' : Bytes} (p : Policy) (r : Result ℕ CardError) (c n : ℕ) → (length picture ≡ 960) × (p ≡ policy_of picture)
      → 1 ≤ length code → Writes p card card' r → c ≡ code_of r → n ≡ result_unwrap_or r 0
      → CardWritten picture card code card' (set code 0 c) n
  card_written {card'} p r c n is h w coded told =
      CardWritten.answered
      (rw (eq-eqb (length picture) 960 is.0, le-leb 1 (length code) h))
      r
      (subst (λ (q : Policy). Writes q card card' r) is.1 w)
      (rw coded (sets_front code (code_of r ∷ []) h))
      (told ∙ length_is r)

-- ---- The reader

-- The policy after is one with its sizes: what was read, or the one that the board had.
after_sized : {kept : Policy} {card : Bytes} {r : Result Policy CardError} → Sized kept → Reads card r → Sized (policy_after kept r)
after_sized z (Reads.taken p is file zeros same) = rw is file.sized
after_sized z (Reads.damaged none is) = rw is z

module _ (picture card answer : Bytes) where
  -- A buffer with 960 bytes that has none behind them.
  pub no_room_read : {front behind : Bytes} → length picture ≡ 960 → Halves answer front behind → length behind < 1
      → CardRead picture card answer (front ++ behind) 0
  no_room_read e s h =
      CardRead.misfit (rw (eq-eqb (length picture) 960 e, lt-leb 961 (length answer) (omega (arith, s.2)))) (sym (whole answer s)) refl

  pub card_read : {front₀ front behind : Bytes} (p q : Policy) (r : Result Policy CardError) (c : ℕ)
      → (length picture ≡ 960) × (p ≡ policy_of picture)
      → Reads card r → IfOk r (λ q. (list : List Bytes) → Demand3 q list) → q ≡ result_unwrap_or r p
      → front ≡ picture_of q → Halves answer front₀ behind → 1 ≤ length behind → c ≡ code_of r
      → CardRead picture card answer (front ++ set behind 0 c) 961
  card_read p q r c is reads demand kept drawn s h coded =
      CardRead.answered
      (rw (eq-eqb (length picture) 960 is.0, le-leb 961 (length answer) (omega (arith, s.2))))
      r
      reads
      demand
      (rw (drawn, kept, is.1, after_is (policy_of picture) r, coded, s.1) stored)
      refl
    where
      after : Policy
      after = policy_after (policy_of picture) r

      long : length (picture_of after ++ (code_of r ∷ [])) ≡ 961
      long =
          length-append (picture_of after) (code_of r ∷ [])
          ∙ ap (λ (n : ℕ). n + 1) (picture_length after (after_sized (policy_sized picture) reads))

      room : 1 ≤ length (drop 960 answer)
      room = omega (arith, s.2, length-drop 960 answer)

      stored : picture_of after ++ set (drop 960 answer) 0 (code_of r)
          ≡ (picture_of after ++ (code_of r ∷ [])) ++ drop (length (picture_of after ++ (code_of r ∷ []))) answer
      stored =
          ap (λ (l : Bytes). picture_of after ++ l) (one_set (drop 960 answer) (code_of r) room ∙ ap (λ (l : Bytes). code_of r ∷ l) (drop-drop 1 960 answer))
          ∙ sym (append_assoc (picture_of after) (code_of r ∷ []) (drop 961 answer))
          ∙ ap (λ (n : ℕ). (picture_of after ++ (code_of r ∷ [])) ++ drop n answer) (sym long)
