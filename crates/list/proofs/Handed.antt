-- The parts of a byte string; and every list of byte strings is the parts of some string: join its records, and end each where it ends.
use mathlib.Core.Path.{◌≡◌, refl, ◌∙◌}
use mathlib.Core.Bool.{Bool, true, false, ◌&&◌}
use mathlib.Core.List.{List, [], ◌∷◌, ◌++◌, append_assoc}
use Prim.Native.Nat.{ℕ, ◌+◌, ◌-◌, ◌≤◌, ◌<◌}
use native.Mathlib.Omega.{arith}
use lib.Dec.{leb}
use lib.ListN.{length, take, drop, length-append}
use lib.Seq.{drop_at, take_at}
use borrow.Author.Tests.{le-leb, lt-leb}
use Rattle.reach.specs.Tests.{◌⇒◌∥◌}
use Rattle.text.specs.Text.{Bytes}
use Rattle.list.specs.Parts.{part, parts, handed}

-- A part that lies in the bytes.
pub part_within : (b : Bytes) (start end : ℕ) → start ≤ end → end ≤ length b → part b start end ≡ take (end - start) (drop start b)
unfolding part
part_within b start end h k = rw (le-leb start end h, le-leb end (length b) k)

-- A part that ends before it starts.
pub part_falling : (b : Bytes) (start end : ℕ) → end < start → part b start end ≡ []
unfolding part
part_falling b start end h = rw (lt-leb start end h)

-- A part that ends past the end.
pub part_past : (b : Bytes) (start end : ℕ) → length b < end → part b start end ≡ []
unfolding part
part_past b start end h = go (leb start end)
  where
    go : (x : Bool) → (x && leb end (length b) ⇒ take (end - start) (drop start b) ∥ []) ≡ []
    go true = rw (lt-leb end (length b) h)
    go false = refl

-- There are as many parts as ends.
pub parts_length : (b : Bytes) (start : ℕ) (ends : List ℕ) → length (parts b start ends) ≡ length ends
unfolding parts
parts_length b start [] = refl
parts_length b start (end ∷ ends) = rw (parts_length b end ends)

-- The records of a list, joined, and where each of them ends if the first starts at a place.
abbrev pub joined : List Bytes → Bytes
joined [] = []
joined (r ∷ rs) = r ++ joined rs

abbrev pub ended : ℕ → List Bytes → List ℕ
ended start [] = []
ended start (r ∷ rs) = (start + length r) ∷ ended (start + length r) rs

parts_joined : (front : Bytes) (rs : List Bytes) → parts (front ++ joined rs) (length front) (ended (length front) rs) ≡ rs
unfolding parts
parts_joined front [] = refl
parts_joined front (r ∷ rs) =
    let long : length (front ++ r) ≡ length front + length r = length-append front r in
    let whole : length (front ++ (r ++ joined rs)) ≡ length front + (length r + length (joined rs)) = simp length-append in
    let behind : drop (length front) (front ++ (r ++ joined rs)) ≡ r ++ joined rs = drop_at front (r ++ joined rs) (length front) refl in
    let count : (length front + length r) - length front ≡ length r = omega arith in
    let this : take (length r) (r ++ joined rs) ≡ r = take_at r (joined rs) (length r) refl in
    let first : part (front ++ (r ++ joined rs)) (length front) (length front + length r) ≡ r =
    part_within _ _ _ (omega arith) (omega arith) ∙ rw (behind, count, this) in
    let later : parts ((front ++ r) ++ joined rs) (length (front ++ r)) (ended (length (front ++ r)) rs) ≡ rs =
    parts_joined (front ++ r) rs in
    let more : parts (front ++ (r ++ joined rs)) (length front + length r) (ended (length front + length r) rs) ≡ rs =
    rw (append_assoc, long) at later in
    rw (first, more)

-- Every list of byte strings can be handed in.
pub every_list : (rs : List Bytes) → handed (joined rs) (ended 0 rs) ≡ rs
every_list rs = parts_joined [] rs
