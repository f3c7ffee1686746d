-- The records from a position on, and whether the bytes are torn after them, go by the step at the position; no bound is
-- seen. By induction on the bound: each record has 4 bytes or more, so a bound that covers the bytes left over suffices.
use mathlib.Core.Path.{◌≡◌, refl, sym, ap, ◌∙◌}
use mathlib.Core.Bool.{Bool, true, false, cond}
use mathlib.Core.List.{List, [], ◌∷◌}
use Prim.Native.Nat.{ℕ, zero, suc, ◌+◌, ◌*◌, ◌≤◌}
use native.Mathlib.Omega.{arith}
use lib.ListN.{length}
use Rattle.frame.specs.Reading.{Step}
use Rattle.frame.specs.Reading.{Record, Torn, End}
use Rattle.frame.specs.Reading.{step_at, record_bytes, records_by, records_within, records_from}
use Rattle.frame.specs.Reading.{torn_by, torn_within, torn_from}
use Rattle.frame.proofs.Steps.{Found, step_record, step_torn, end_step}

module _ (b : List ℕ) where
  -- The bound n does as well as the next one.
  abbrev Enough : ℕ → ℕ → Type 0
  Enough n at = (records_within (suc n) b at ≡ records_within n b at) × (torn_within (suc n) b at ≡ torn_within n b at)

  -- It does where it covers the bytes left over.
  enough : (n at : ℕ) → length b ≤ at + n → Enough n at
  unfolding records_within torn_within
  enough zero at h =
      let e : step_at b at ≡ End = end_step b at (omega arith) in
      (ap (records_by b (records_within zero b)) e, ap (torn_by (torn_within zero b)) e)
  enough (suc n) at h = go (step_at b at) refl (enough n)
    where
      go : (s : Step) → step_at b at ≡ s → ((at : ℕ) → length b ≤ at + n → Enough n at)
          → (records_by b (records_within (suc n) b) s ≡ records_by b (records_within n b) s)
          × (torn_by (torn_within (suc n) b) s ≡ torn_by (torn_within n b) s)
      go (Record start len next) e more =
          let f : at + 4 ≤ next = (step_record b at start len next e).long in
          let r : length b ≤ next + n = omega arith in
          (ap (λ (rs : List (List ℕ)). record_bytes b start len ∷ rs) (more next r).0, (more next r).1)
      go Torn e more = (refl, refl)
      go End e more = (refl, refl)

  module _ (at : ℕ) where
    -- What is read from a position on goes by the step there.
    pub records_step : records_from b at ≡ records_by b (records_from b) (step_at b at)
    unfolding records_from records_within
    records_step = sym (enough (length b) at (omega arith)).0

    pub torn_step : torn_from b at ≡ torn_by (torn_from b) (step_at b at)
    unfolding torn_from torn_within
    torn_step = sym (enough (length b) at (omega arith)).1

    -- The same for each step: a record goes in front of those from its next place on; a torn place and the end stop the
    -- list.
    pub records_of_record : (start len next : ℕ) → step_at b at ≡ Record start len next
        → records_from b at ≡ record_bytes b start len ∷ records_from b next
    records_of_record start len next e = records_step ∙ ap (records_by b (records_from b)) e

    pub torn_of_record : (start len next : ℕ) → step_at b at ≡ Record start len next → torn_from b at ≡ torn_from b next
    torn_of_record start len next e = torn_step ∙ ap (torn_by (torn_from b)) e

    pub records_of_torn : step_at b at ≡ Torn → records_from b at ≡ []
    records_of_torn e = records_step ∙ ap (records_by b (records_from b)) e

    pub torn_of_torn : step_at b at ≡ Torn → torn_from b at ≡ true
    torn_of_torn e = torn_step ∙ ap (torn_by (torn_from b)) e

    pub records_of_end : step_at b at ≡ End → records_from b at ≡ []
    records_of_end e = records_step ∙ ap (records_by b (records_from b)) e

    pub torn_of_end : step_at b at ≡ End → torn_from b at ≡ false
    torn_of_end e = torn_step ∙ ap (torn_by (torn_from b)) e

  -- Each record takes up 4 bytes or more, and a torn place one or more.
  abbrev Few : List (List ℕ) → Bool → ℕ → Type 0
  Few records tears at = at + 4 * length records + cond tears 1 0 ≤ length b

  few_within : (n at : ℕ) → at ≤ length b → Few (records_within n b at) (torn_within n b at) at
  unfolding records_within torn_within
  few_within zero at h = omega arith
  few_within (suc n) at h = go (step_at b at) refl (few_within n)
    where
      go : (s : Step) → step_at b at ≡ s
          → ((at : ℕ) → at ≤ length b → Few (records_within n b at) (torn_within n b at) at)
          → Few (records_by b (records_within n b) s) (torn_by (torn_within n b) s) at
      go (Record start len next) e more =
          let f : Found b at start len next = step_record b at start len next e in
          omega (arith, f.long, more next f.within)
      go Torn e more = omega (arith, step_torn b at e)
      go End e more = omega arith

  -- So there are at most a quarter as many records as bytes.
  pub records_few : (at : ℕ) → at ≤ length b → at + 4 * length (records_from b at) + cond (torn_from b at) 1 0 ≤ length b
  unfolding records_from torn_from
  records_few at h = few_within (length b) at h
