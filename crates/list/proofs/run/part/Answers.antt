-- `part` gives the part where it lies in the bytes, and no bytes where it does not.
use mathlib.Core.Path.{◌≡◌, refl, sym, ap, ◌∙◌}
use mathlib.Core.Logic.{◌⊎◌, inl, inr}
use mathlib.Core.List.{List, []}
use Prim.Native.Nat.{ℕ, ◌+◌, ◌≤◌, ◌<◌}
use lib.ListN.{length}
use Rattle.std.specs.Prelude.{Option, Some, None}
use Rattle.std.specs.Borrow.{Bor}
use Rattle.std.specs.List.{slice_range}
use Rattle.std.specs.Option.{MatchOption, unwrap_or}
use Rattle.list.specs.Parts.{part}
use Rattle.list.proofs.Handed.{part_within, part_past, part_falling}
use Rattle.list.proofs.run.part.Goals as goal

module _ (b : List ℕ) (start end : ℕ) where
  abbrev Found : Bor (List ℕ) → Type 0
  Found x = (start ≤ end) × (end ≤ length b) × (x.now ≡ slice_range b start end) × (length x.now + start ≡ end)

  found : (r : Option (Bor (List ℕ))) (none : Bor (List ℕ)) → none.now ≡ []
      → MatchOption r ((end < start) ⊎ (length b < end)) Found → (unwrap_or r none).now ≡ part b start end
  found None none e (inl h) = e ∙ sym (part_falling b start end h)
  found None none e (inr h) = e ∙ sym (part_past b start end h)
  found (Some x) none e h = h.2 ∙ sym (part_within b start end h.0 h.1)

pub returns : goal.returns
returns c = ap (λ (x : Bor (List ℕ)). x.now) c.unwrap_or.ensures ∙ found _ _ _ c.get.result _ refl c.get.ensures.lookup.0
