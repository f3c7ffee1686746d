-- Demand 3 in a second wording, part by part and kind of privilege by kind of privilege: each part says what must have been so before, where
-- Demand says what cannot be. That demand 3 gives it is proved in proofs/Accounting.
use Rattle.std.specs.Prelude.{◌≡◌, true, false, ◌⊎◌, List, ℕ, suc, ◌<◌}
use Rattle.reach.specs.declared.Policy.{Policy}
use Rattle.reach.specs.Words.{bit}
use Rattle.reach.specs.Tables.{View, counted, initial}
use Rattle.reach.specs.Reach.{Under}
use Rattle.reach.specs.Privileges.{Owns, Manages, Administers, Permitted}
use Rattle.rules.specs.declared.Request.{Request}
use Rattle.rules.specs.Records.{sender}
use Rattle.text.specs.Text.{Bytes}
use Rattle.list.specs.Runs.{before, end, record_at, Done}
use Rattle.list.specs.Lines.{PermissionLine}

-- Some user has in the table an owner's appointment that covers x.
pub record OwnerOf (v : View) (x : ℕ) : Type 0 where
  pub who : ℕ
  pub number : who < 64
  pub user : v.sort who ≡ 2
  pub place : ℕ
  pub in_table : place < 32
  pub is_owner : (v.appointment place).kind ≡ 1
  pub is_holder : (v.appointment place).holder ≡ who
  pub covers : Under v x (v.appointment place).a

-- The rule at the place lets the user u do the operation k on the target x.
pub record LetBy (v : View) (u k x place : ℕ) : Type 0 where
  pub user : v.sort u ≡ 2
  pub target : v.sort x ≡ 3
  pub number : k < 8
  pub in_table : place < 64
  pub used : (v.rule place).used ≡ true
  pub operation : bit (v.rule place).operations k ≡ 1
  pub covers_user : Under v u (v.rule place).users
  pub covers_target : Under v x (v.rule place).targets

module _ (start : Policy) (list : List Bytes) where
  abbrev Then : ℕ → View
  Then = before start list

  abbrev last : ℕ
  last = end start list

  -- What the sender of an accepted request has after it over objects that were in use, he had before it. [01:reach.7] "His holdings are
  -- these four sets."
  pub record SenderHad (i u : ℕ) : Type 0 where
    pub owned : (x : ℕ) → 0 < (Then i).sort x → Owns (Then (suc i)) u x → Owns (Then i) u x
    pub managed : (x : ℕ) → 0 < (Then i).sort x → Manages (Then (suc i)) u x → Manages (Then i) u x
    pub administered : (a b : ℕ) → 0 < (Then i).sort a → 0 < (Then i).sort b → Administers (Then (suc i)) u a b → Administers (Then i) u a b
    pub permitted : (k x : ℕ) → 0 < (Then i).sort x → Permitted (Then (suc i)) u k x → Permitted (Then i) u k x

  -- Who owns or manages an object after request i that was in use did so before, or its sender owned it before.
  pub record OwnerHanded (i : ℕ) : Type 0 where
    pub owned : (w x : ℕ) → 0 < (Then i).sort x → Owns (Then (suc i)) w x
        → Owns (Then i) w x ⊎ Owns (Then i) (sender (record_at start list i)) x
    pub managed : (w x : ℕ) → 0 < (Then i).sort x → Manages (Then (suc i)) w x
        → Manages (Then i) w x ⊎ Owns (Then i) (sender (record_at start list i)) x

  -- The four parts.
  pub record Accountable : Type 0 where
    pub owners : (x : ℕ) → 0 < (Then last).sort x → OwnerOf (Then last) x
    pub lines : (u k x place : ℕ) → LetBy (Then last) u k x place → PermissionLine start list u k x
    pub no_own_gain : (i u : ℕ) (q : Request) → Done start list i u q → SenderHad i u
    pub no_hand_over : (i : ℕ) → i < last → OwnerHanded i

-- What stood at the founding, where lines end: at every place but 0 no appointment, and at 0 the owner's, held by 1 with A = 0; no
-- membership but that of 1 in 0; no rule.
pub record FoundingAccount (list : List Bytes) : Type 0 where
  pub accountable : Accountable initial list
  pub no_other : (p : ℕ) → 0 < p → counted ((before initial list 0).appointment p).kind ≡ 0
  pub founder's : 0 < counted ((before initial list 0).appointment 0).kind → (((before initial list 0).appointment 0).kind ≡ 1)
      × (((before initial list 0).appointment 0).holder ≡ 1)
      × (((before initial list 0).appointment 0).a ≡ 0)
      × (((before initial list 0).appointment 0).b ≡ 0)
  pub inside : (x g : ℕ) → 0 < (before initial list 0).sort x → (before initial list 0).sort g ≡ 1 → (before initial list 0).stored x g ≡ true
      → (x ≡ 1) × (g ≡ 0)
  pub no_rule : (p : ℕ) → ((before initial list 0).rule p).used ≡ false
