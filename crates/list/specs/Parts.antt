-- How a list of byte strings is handed in: as one string, and the places in it where the records end. That every list can be handed in
-- so is proved (proofs/Handed, `every_list`).
use Rattle.std.specs.Prelude.{◌&&◌, List, [], ◌∷◌, ℕ, ◌-◌, leb, length, take, drop}
use Rattle.reach.specs.Tests.{◌⇒◌∥◌}
use Rattle.text.specs.Text.{Bytes}

-- The part of the bytes from one place up to another. Where the second comes before the first, or past the end, the part is empty, and
-- so is judged as a record of no bytes.
unfoldable pub part : Bytes → ℕ → ℕ → Bytes
part b start end = leb start end && leb end (length b) ⇒ take (end - start) (drop start b) ∥ []

-- The first part begins at the place given, and each later one where the one before it ends.
unfoldable pub parts : Bytes → ℕ → List ℕ → List Bytes
parts b start [] = []
parts b start (end ∷ ends) = part b start end ∷ parts b end ends

-- The list that bytes and ends stand for.
abbrev pub handed : Bytes → List ℕ → List Bytes
handed b ends = parts b 0 ends
