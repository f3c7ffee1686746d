-- Number by number and row by row: nothing before the place of the search is new, and what is found there is. A number that is passed over
-- is new in no row.
use Rattle.std.specs.Prelude.{◌≡◌, ℕ, ◌<◌, get_or, None}
use Rattle.gains.specs.Searching.{New}
use Rattle.gains.proofs.searching.gained.Given as goal

abbrev pub invariant-loop-k : goal.invariant-loop-k
invariant-loop-k l =
    (l.found ≡ None) × ((j : ℕ) → j < l.k → New (get_or l.had j 0) (get_or l.got j 0) l.target → ⊥)

abbrev pub invariant-search : goal.invariant-search
invariant-search l =
    (l.found ≡ None) × ((y : ℕ) → y < l.target → (j : ℕ) → j < 8 → New (get_or l.had j 0) (get_or l.got j 0) y → ⊥)
