-- A USE that comes as numbers and not as a record. The judge is asked for the record that says the same, so its
-- refusals are the judge's own, in the judge's order (D45).
use Rattle.std.specs.Prelude.{List, [], ◌∷◌, ℕ}
use Rattle.reach.specs.declared.Policy.{Policy}
use Rattle.rules.specs.Judging.{Verdict, code_of, verdict}

-- [01:records.9] "8 USE | 7 | sender, gear, operation", with its length and its kind before them, two bytes each.
unfoldable pub use_record : ℕ → ℕ → ℕ → List ℕ
use_record u x k = 7 ∷ 0 ∷ 8 ∷ 0 ∷ u ∷ x ∷ k ∷ []

-- The judge's verdict on it.
unfoldable pub use_verdict : Policy → ℕ → ℕ → ℕ → Verdict
use_verdict p u x k = verdict p (use_record u x k)

-- The number of that: 0 done, else the refusal.
unfoldable pub use_code : Policy → ℕ → ℕ → ℕ → ℕ
use_code p u x k = code_of (use_verdict p u x k)
