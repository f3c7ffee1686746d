-- A list of requests and what the judge makes of it.
use Rattle.std.specs.Prelude.{◌≡◌, List, [], ◌∷◌, ℕ, ◌≤◌, ◌<◌, length, take, get_or}
use Rattle.text.specs.Text.{Bytes}
use Rattle.reach.specs.declared.Policy.{Policy}
use Rattle.reach.specs.Tables.{View, view}
use Rattle.rules.specs.declared.Request.{Request}
use Rattle.rules.specs.Records.{sender, request}
use Rattle.rules.specs.Judging.{code_of, judge}

-- [01:line.7] "A list of requests is any finite list, the empty one too, of byte strings, each judged as one record, accepted or refused."
-- [01:line.8] "The first is judged on the founding's sheet, each later one on the sheet that the judge returned for the one before": the
-- policy that a list leaves, from any start.
unfoldable pub run : Policy → List Bytes → Policy
run p [] = p
run p (b ∷ bs) = run (judge p b).policy bs

module _ (start : Policy) (list : List Bytes) where
  -- The policy just before request i, counted from 0; that of 0 is the start, and that of the list's length the end.
  abbrev pub policy_at : ℕ → Policy
  policy_at i = run start (take i list)

  -- [01:line.4] "'Then' is the sheet just before the request": as it is read.
  abbrev pub before : ℕ → View
  before i = view (policy_at i)

  abbrev pub end : ℕ
  end = length list

  abbrev pub record_at : ℕ → Bytes
  record_at i = get_or list i []

  -- Request i of the list asks, for the sender u, for q, and the judge accepted it.
  pub record Done (i u : ℕ) (q : Request) : Type 0 where
    pub within : i < end
    pub by : sender (record_at i) ≡ u
    pub asks : request (record_at i) ≡ q
    pub accepted : code_of (judge (policy_at i) (record_at i)).verdict ≡ 0

  -- None of the requests lo, lo + 1, .., hi - 1 is an accepted q, whoever sent it.
  abbrev pub NotDone : Request → ℕ → ℕ → Type 0
  NotDone q lo hi = (k u : ℕ) → lo ≤ k → k < hi → Done k u q → ⊥
