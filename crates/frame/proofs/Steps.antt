-- What each step says of its position: a record starts there, has 4 bytes or more, ends within the bytes, and is as long as
-- its own length field says. By the tests of `step_at`, each turned into a fact on numbers.
use mathlib.Core.Path.{◌≡◌, refl, sym, ap, ap₂, ◌∙◌}
use mathlib.Core.Bool.{Bool, true, false, cond, ◌||◌}
use mathlib.Core.List.{List}
use Prim.Native.Nat.{ℕ, ◌+◌, ◌-◌, ◌≤◌, ◌<◌}
use native.Mathlib.Omega.{arith}
use lib.Dec.{ltb, leb}
use lib.ListN.{length, drop, length-drop}
use lib.Seq.{length-take-le, get_or-take}
use borrow.Author.Tests.{ltb-false, leb-true, leb-false, le-leb}
use Rattle.frame.specs.Reading.{Step}
use Rattle.frame.specs.Reading.{Record, Torn, End}
use Rattle.frame.specs.Fields.{little_endian, length_field}
use Rattle.frame.specs.Reading.{torn, step_at, record_bytes}

-- Two constructors of different names are not equal: congruence gives 0 ≡ 1.
pub clash {ℓ} : {A : Type ℓ} → ◌≡◌ {A = ℕ} 0 1 → A
clash e = absurd (omega arith)

-- Bytes that begin with a whole record.
pub record Whole (left : List ℕ) : Type 0 where
  pub long : 4 ≤ length_field left
  pub within : length_field left ≤ length left

-- Bytes left over that are not torn are such.
pub whole_of_untorn : (left : List ℕ) → torn left ≡ false → Whole left
whole_of_untorn left e =
    go (ltb (length left) 4) (ltb (length_field left) 4) (ltb (length left) (length_field left)) refl refl e
  where
    go : (p q r : Bool) → ltb (length_field left) 4 ≡ q → ltb (length left) (length_field left) ≡ r
        → (p || q || r) ≡ false → Whole left
    go true q r hq hr h = cc
    go false true r hq hr h = cc
    go false false true hq hr h = cc
    go false false false hq hr h = record { long = ltb-false _ _ hq; within = ltb-false _ _ hr }

-- What is known of a record that is found at a position of b.
pub record Found (b : List ℕ) (at start len next : ℕ) : Type 0 where
  pub starts : start ≡ at
  pub ends : next ≡ start + len
  pub long : at + 4 ≤ next
  pub within : next ≤ length b
  pub field : length_field (drop start b) ≡ len

module _ (b : List ℕ) (at : ℕ) where
  -- The step at a position, with its two tests as they turn out.
  abbrev step_of : Bool → Bool → Step
  step_of p q = cond p End (cond q Torn (Record at (length_field (drop at b)) (at + length_field (drop at b))))

  -- A record that is found lies at the position, and within the bytes.
  pub step_record : (start len next : ℕ) → step_at b at ≡ Record start len next → Found b at start len next
  unfolding step_at
  step_record start len next e = go (leb (length b) at) (torn (drop at b)) refl refl e
    where
      go : (p q : Bool) → leb (length b) at ≡ p → torn (drop at b) ≡ q
          → step_of p q ≡ Record start len next → Found b at start len next
      go true q hp hq h = cc
      go false true hp hq h = cc
      go false false hp hq h =
          let a : start ≡ at = cc in
          let l : len ≡ length_field (drop at b) = cc in
          let n : next ≡ at + length_field (drop at b) = cc in
          let low : at < length b = leb-false _ _ hp in
          let left : length (drop at b) ≡ length b - at = length-drop at b in
          let long : 4 ≤ length_field (drop at b) = (whole_of_untorn (drop at b) hq).long in
          let within : length_field (drop at b) ≤ length (drop at b) = (whole_of_untorn (drop at b) hq).within in
          record {
            starts = a;
            ends = omega arith;
            long = omega arith;
            within = omega arith;
            field = ap (λ (x : ℕ). length_field (drop x b)) a ∙ sym l;
          }

  -- A torn place is short of the end.
  pub step_torn : step_at b at ≡ Torn → at < length b
  unfolding step_at
  step_torn e = go (leb (length b) at) refl e
    where
      go : (p : Bool) → leb (length b) at ≡ p → step_of p (torn (drop at b)) ≡ Torn → at < length b
      go true hp h = cc
      go false hp h = leb-false _ _ hp

  -- The end stands nowhere short of the end of the bytes.
  pub step_end : step_at b at ≡ End → length b ≤ at
  unfolding step_at
  step_end e = go (leb (length b) at) (torn (drop at b)) refl e
    where
      go : (p q : Bool) → leb (length b) at ≡ p → step_of p q ≡ End → length b ≤ at
      go true q hp h = leb-true _ _ hp
      go false true hp h = cc
      go false false hp h = cc

  -- At the end of the bytes and past it stands the end.
  pub end_step : length b ≤ at → step_at b at ≡ End
  unfolding step_at
  end_step h = simp (le-leb _ _ h)

  -- The bytes of a record that is found are as many as its length field says.
  module _ (start len next : ℕ) (e : step_at b at ≡ Record start len next) where
    pub record_length : length (record_bytes b start len) ≡ len
    record_length =
        let f : Found b at start len next = step_record start len next e in
        let left : length (drop start b) ≡ length b - start = length-drop start b in
        length-take-le len (drop start b) (omega (arith, f.ends, f.within))

    pub record_field : length_field (record_bytes b start len) ≡ len
    record_field =
        let f : Found b at start len next = step_record start len next e in
        ap₂ little_endian
        (get_or-take len (drop start b) 0 0 (omega (arith, f.starts, f.ends, f.long)))
        (get_or-take len (drop start b) 1 0 (omega (arith, f.starts, f.ends, f.long)))
        ∙ f.field
