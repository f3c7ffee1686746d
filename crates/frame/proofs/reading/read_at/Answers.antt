-- What is found is what the definition says: each test of the code is a test of `step_at`, taken of the bytes from the position on.
use Rattle.std.specs.Prelude.{Some, Ok}
use mathlib.Core.Path.{◌≡◌, refl, sym, ap, ◌∙◌}
use mathlib.Core.Bool.{Bool, true, false}
use mathlib.Core.List.{List}
use Prim.Native.Nat.{ℕ, ◌+◌, ◌-◌, ◌<◌}
use native.Mathlib.Omega.{arith}
use lib.ListN.{length, take, drop, length-drop}
use lib.Seq.{take_all}
use borrow.Author.Tests.{lt-leb}
use Rattle.frame.specs.Fields.{length_field}
use Rattle.frame.specs.Reading.{Record, Torn, torn, step_at, record_bytes}
use Rattle.frame.proofs.Steps.{end_step}
use Rattle.frame.proofs.Giving.{finds}
use Rattle.frame.proofs.reading.read_at.Goals as goal

-- The bytes of b from a position on, as the code has them: a part that starts at `first`, and reaches to the end. t is what `torn` returns
-- of it, and l what `length_field` does.
module _ (b : List ℕ) (at : ℕ) (low : at < length b) (first : ℕ) (is : first ≡ at) where
  abbrev part : List ℕ
  part = take (length b - first) (drop first b)

  -- It is what `drop` leaves.
  from : part ≡ drop at b
  from =
      let h : length (drop at b) ≡ length b - at = length-drop at b in
      rw is (take_all (length b - at) (drop at b) (omega arith))

  tears : {t : Bool} → t ≡ torn part → t ≡ true → step_at b at ≡ Torn
  unfolding step_at
  tears e h = simp (lt-leb _ _ low, sym (ap torn from) ∙ sym e ∙ h)

  module _ {t : Bool} (e : t ≡ torn part) (h : t ≡ false) {l : ℕ} (f : l ≡ length_field part) where
    gives : step_at b at ≡ Record at l (at + l)
    unfolding step_at
    gives = simp (lt-leb _ _ low, sym (ap torn from) ∙ sym e ∙ h, f, from)

    taken : take l part ≡ record_bytes b at l
    taken = ap (take l) from

pub returns-then-bytes-at : goal.returns-then-bytes-at
returns-then-bytes-at c = finds _ _ _ _ (end_step _ _ c.if-bytes-at.true) refl

pub returns-then-torn : goal.returns-then-torn
returns-then-torn c = finds _ _ _ _ (tears _ _ c.if-bytes-at.false _ (omega arith) c.torn.ensures c.if-torn.true) refl

pub returns : goal.returns
returns c =
    let low = c.if-bytes-at.false in
    let length = c.length_field-length.ensures in
    finds _ _ _ _ (gives _ _ low _ (omega arith) c.torn.ensures c.if-torn.false length)
    (ap (λ (r : List ℕ). Some (Ok r)) (taken _ _ low _ (omega arith) c.torn.ensures c.if-torn.false length))
