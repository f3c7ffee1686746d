-- [00:demand.3] Demand 3, each part under its words. That lines are tight, so that what has a line stands, is proved beside
-- it (proofs/Holding).
-- [01:line.9] "Demand 3 is one claim about the whole list, its four parts together, and not a claim for each kind of request."
use Rattle.std.specs.Prelude.{◌≡◌, true, List, ℕ, suc, ◌<◌}
use Rattle.reach.specs.declared.Policy.{Policy}
use Rattle.reach.specs.Tables.{initial}
use Rattle.reach.specs.Reach.{Direct}
use Rattle.reach.specs.Privileges.{owner, Permitted}
use Rattle.rules.specs.declared.Request.{Request}
use Rattle.rules.specs.Records.{sender}
use Rattle.rules.specs.Allowing.{Gives, HandsOver, Owned, Standing}
use Rattle.text.specs.Text.{Bytes}
use Rattle.list.specs.Runs.{before, end, record_at, Done}
use Rattle.list.specs.Lines.{PermissionLine}

-- For a list from any start, with what stood there as the ends of lines. [01:line.10] "In it an object is one in use." [01:line.11] "A
-- permit is a member, an operation and a gear on which he is permitted it." [01:line.12] "A thing is already there if it is in use on the
-- sheet before the request." [01:line.14] "Whether the sender owns it is read on the sheet before."
pub record Demand3 (start : Policy) (list : List Bytes) : Type 0 where
  -- "at the end every object has an owner"
  pub owners : Owned (before start list (end start list))
  -- "at the end the list holds, for every permit, its whole line of authority back to the founder, each holding his post when he acted"
  pub lines : (u k x : ℕ) → Permitted (before start list (end start list)) u k x → PermissionLine start list u k x
  -- "no accepted request gave its own sender a holding he lacked over things already there"
  pub no_own_gain : (i u : ℕ) (q : Request) → Done start list i u q → Gives (before start list i) (before start list (suc i)) u → ⊥
  -- "nobody came to own or manage a thing already there by the request of one who didn't own it"
  pub no_hand_over : (i : ℕ) → i < end start list
      → HandsOver (before start list i) (before start list (suc i)) (sender (record_at start list i)) → ⊥

-- For a list from the founding: a line ends at warrant 0 of the founding, or at its one membership; no rule stood there.
pub record FoundingDemand3 (list : List Bytes) : Type 0 where
  pub demand : Demand3 initial list
  pub one_appointment : (p : ℕ) → Standing ((before initial list 0).appointment p)
      → (p ≡ 0) × ((before initial list 0).appointment p ≡ record { kind = owner; holder = 1; a = 0; b = 0 })
  pub one_membership : (x g : ℕ) → Direct (before initial list 0) x g → (x ≡ 1) × (g ≡ 0)
  pub no_rule : (p : ℕ) → ((before initial list 0).rule p).used ≡ true → ⊥
