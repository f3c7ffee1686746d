-- What a list that is run leaves: the last policy, and in two lent buffers the code and the cited rule of each request, or in one buffer
-- the lines that the program prints.
use Rattle.std.specs.Prelude.{◌≡◌, Bool, ◌&&◌, List, ◌++◌, map, ℕ, leb, length, drop, Option, Some, None}
use Rattle.reach.specs.declared.Policy.{Policy}
use Rattle.reach.specs.Tests.{◌⇒◌∥◌}
use Rattle.rules.specs.Judging.{answers}
use Rattle.frame.specs.Reading.{records_from}
use Rattle.list.specs.declared.Reported.{Reported}
use Rattle.text.specs.Text.{Bytes, lines, Printed}
use Rattle.list.specs.Runs.{run}
use Rattle.list.specs.Report.{answers_from}

-- The codes of the answers, and what they cite, in their order.
abbrev pub codes_of : List (ℕ × ℕ) → Bytes
codes_of l = map (λ (w : ℕ × ℕ). w.0) l

abbrev pub cites_of : List (ℕ × ℕ) → Bytes
cites_of l = map (λ (w : ℕ × ℕ). w.1) l

-- A buffer with bytes written over its first ones; the others are as they were.
abbrev pub over : Bytes → Bytes → Bytes
over bytes buffer = bytes ++ drop (length bytes) buffer

-- Whether both buffers have room for the list.
abbrev pub room : List Bytes → Bytes → Bytes → Bool
room list codes cited = leb (length list) (length codes) && leb (length list) (length cited)

-- The list from the start, with the buffers before it and after it, and the policy that it leaves. A buffer that is shorter than the
-- list is refused: no request is judged, nothing is written, and there is no policy but the one at the start.
pub record RunInto (start : Policy) (list : List Bytes) (codes cited codes' cited' : Bytes) (r : Option Policy) : Type 0 where
  pub outcome : r ≡ (room list codes cited ⇒ Some (run start list) ∥ None)
  pub codes_written : codes' ≡ (room list codes cited ⇒ over (codes_of (answers start list)) codes ∥ codes)
  pub cited_written : cited' ≡ (room list codes cited ⇒ over (cites_of (answers start list)) cited ∥ cited)

-- The records of an input from the start, with the buffer for the text before them and after them. The text is cut off where the buffer
-- ends; the policy is the one that all the records leave.
pub record ReportInto (start : Policy) (input out out' : Bytes) (r : Reported) : Type 0 where
  pub text : Printed out (lines 0 (answers_from start input 0)) out' r.written
  pub policy : r.policy ≡ run start (records_from input 0)
