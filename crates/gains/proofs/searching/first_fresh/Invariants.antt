-- Target by target and operation by operation: nothing before the place of the search is fresh, and what is found there is. What is no
-- target is passed over.
use Rattle.std.specs.Prelude.{◌≡◌, ℕ, ◌<◌, None}
use Rattle.gains.specs.Searching.{Fresh}
use Rattle.gains.proofs.searching.first_fresh.Given as goal

abbrev pub invariant-loop-operation : goal.invariant-loop-operation
invariant-loop-operation l =
    (l.found ≡ None) × ((j : ℕ) → j < l.operation → Fresh l.p.sorts l.p.memberships l.had l.got l.x l.over l.target j → ⊥)

abbrev pub invariant-search : goal.invariant-search
invariant-search l =
    (l.found ≡ None) × ((z : ℕ) → z < l.target → (j : ℕ) → j < 8 → Fresh l.p.sorts l.p.memberships l.had l.got l.x l.over z j → ⊥)
