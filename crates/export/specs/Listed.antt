-- What C and Rust get back for a whole list from the founding: the codes and the cited rules of its requests, and the picture of the
-- policy after it, each in a buffer of its own.
use Rattle.std.specs.Prelude.{◌≡◌, Bool, ◌&&◌, List, ℕ, leb, length}
use Rattle.reach.specs.Tables.{initial}
use Rattle.reach.specs.Tests.{◌⇒◌∥◌}
use Rattle.rules.specs.Judging.{answers}
use Rattle.text.specs.Text.{Bytes}
use Rattle.list.specs.Runs.{run}
use Rattle.list.specs.Filling.{codes_of, cites_of, over, room}
use Rattle.export.specs.Picture.{picture_of}

-- Whether the buffers for the codes and the cited rules have room for the list, and the third one for a picture.
abbrev pub all_fit : List Bytes → Bytes → Bytes → Bytes → Bool
all_fit list codes cited policy = leb 960 (length policy) && room list codes cited

-- The three buffers after the list, and the result. Bytes behind what is written stay as they were. Where one buffer is too short,
-- nothing is written in any of them, and the result is 0.
pub record Listed (list : List Bytes) (codes cited policy codes' cited' policy' : Bytes) (n : ℕ) : Type 0 where
  pub codes_written : codes' ≡ (all_fit list codes cited policy ⇒ over (codes_of (answers initial list)) codes ∥ codes)
  pub cited_written : cited' ≡ (all_fit list codes cited policy ⇒ over (cites_of (answers initial list)) cited ∥ cited)
  pub policy_written : policy' ≡ (all_fit list codes cited policy ⇒ over (picture_of (run initial list)) policy ∥ policy)
  pub count : n ≡ (all_fit list codes cited policy ⇒ 960 ∥ 0)
