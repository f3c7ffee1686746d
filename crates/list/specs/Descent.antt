-- Lines of authority for lists from the founding, in a second wording: what is read of the policies, and which requests were accepted,
-- with the appointments kind by kind. That it says what Lines says is proved in proofs/Authority and proofs/Retracing.
use Rattle.std.specs.Prelude.{◌≡◌, true, List, ℕ, suc, ◌≤◌, ◌<◌}
use Rattle.reach.specs.declared.Appointment.{Appointment}
use Rattle.reach.specs.Tables.{View, initial}
use Rattle.reach.specs.Words.{bit}
use Rattle.reach.specs.Reach.{InUse, User, Direct}
use Rattle.reach.specs.Privileges.{owner, manager, administrator, HoldsBy, AdministersBy}
use Rattle.rules.specs.declared.Request.{Request}
use Rattle.rules.specs.declared.Request.TheVariants.{Make, Put, Take, Dismiss, Withdraw}
use Rattle.rules.specs.Allowing.{appointing, granting}
use Rattle.text.specs.Text.{Bytes}
use Rattle.list.specs.Runs.{before, end, Done}

-- [01:keeps.20] ".. warrant 0 owner held by 1 with A = 0": the founder's.
abbrev pub founders : Appointment
founders = record { kind = owner; holder = 1; a = 0; b = 0 }

module _ (list : List Bytes) where
  -- [01:line.4] "'Then' is the sheet just before the request."
  abbrev Then : ℕ → View
  Then = before initial list

  abbrev Did : ℕ → ℕ → Request → Type 0
  Did = Done initial list

  -- [01:line.5] "A membership is undone by a later accepted TAKE of it, a rule by a later accepted WITHDRAW of its place, a warrant by a
  -- later accepted DISMISS of its place": this is read just before each request from lo to i, and no request from lo on undid it before i.
  pub record Lasts (Read : View → Type 0) (undo : Request) (lo i : ℕ) : Type 0 where
    pub holds : (k : ℕ) → lo ≤ k → k ≤ i → Read (Then k)
    pub not_undone : (k s : ℕ) → lo ≤ k → k < i → Did k s undo → ⊥

  -- Just before request j the user u held an appointment of this kind, at place q, with x under its A.
  pub record Post (j kind u x q : ℕ) : Type 0 where
    pub user : User (Then j) u
    pub low : q < 32
    pub held : HoldsBy (Then j) kind u x q

  -- [01:line.2] ".. then held an administrator warrant covering (U, T)": one, at place q, with a under its A and b under its B.
  pub record AdministratorPost (j u a b q : ℕ) : Type 0 where
    pub user : User (Then j) u
    pub low : q < 32
    pub held : AdministersBy (Then j) u a b q

  -- The appointment at place p just before request i is the one that u's accepted APPOINT, request j, gave. [01:line.6] "A warrant in a
  -- line isn't undone between the founding or the APPOINT that gave it and the request that it serves."
  pub record AppointedBy (j u i p : ℕ) : Type 0 where
    pub earlier : j < i
    pub accepted : Did j u (appointing p ((Then i).appointment p))
    pub lasts : Lasts (λ v. v.appointment p ≡ (Then i).appointment p) (Dismiss p) (suc j) i

  -- The descent of the owner's appointment at place p that serves request i. [01:line.3] "each owner warrant likewise, back to warrant 0
  -- of the founding."
  pub data OwnerDescent : (i p : ℕ) → Type 0 where
    founding : {i p : ℕ} → p ≡ 0 → Lasts (λ v. v.appointment p ≡ founders) (Dismiss p) 0 i → OwnerDescent i p
    appointed : {i p : ℕ} (j u q : ℕ) → AppointedBy j u i p → Post j owner u ((Then i).appointment p).a q → OwnerDescent j q
        → OwnerDescent i p

  -- A manager's. [01:line.3] "each of those from a member who then owned its A": none stood at the founding.
  pub record ManagerDescent (i p : ℕ) : Type 0 where
    pub request : ℕ
    pub sender : ℕ
    pub place : ℕ
    pub appointed : AppointedBy request sender i p
    pub owned : Post request owner sender ((Then i).appointment p).a place
    pub descent : OwnerDescent request place

  -- An administrator's. [01:line.3] "That warrant came from an earlier APPOINT by a member who then managed A and B, each by a warrant
  -- standing then": by two, or twice by one.
  pub record AdministratorDescent (i p : ℕ) : Type 0 where
    pub request : ℕ
    pub sender : ℕ
    pub place_a : ℕ
    pub place_b : ℕ
    pub appointed : AppointedBy request sender i p
    pub managed_a : Post request manager sender ((Then i).appointment p).a place_a
    pub descent_a : ManagerDescent request place_a
    pub managed_b : Post request manager sender ((Then i).appointment p).b place_b
    pub descent_b : ManagerDescent request place_b

  -- Whichever of the three kinds it is of.
  pub data AppointmentDescent (i p : ℕ) : Type 0 where
    of_owner : ((Then i).appointment p).kind ≡ owner → OwnerDescent i p → AppointmentDescent i p
    of_manager : ((Then i).appointment p).kind ≡ manager → ManagerDescent i p → AppointmentDescent i p
    of_administrator : ((Then i).appointment p).kind ≡ administrator → AdministratorDescent i p → AppointmentDescent i p

  -- [01:line.1] ".. then owned or managed the group (for PUT, the object too) by warrants that are traced as below."
  pub data GovernsDescent (j u x : ℕ) : Type 0 where
    owning : (q : ℕ) → Post j owner u x q → OwnerDescent j q → GovernsDescent j u x
    managing : (q : ℕ) → Post j manager u x q → ManagerDescent j q → GovernsDescent j u x

  -- [01:line.1] ".. for each membership, the founding or the accepted MAKE or PUT, not undone since": of the founding, 1 in 0.
  pub data MembershipDescent (i x g : ℕ) : Type 0 where
    founding : x ≡ 1 → g ≡ 0 → Lasts (λ v. Direct v x g) (Take x g) 0 i → MembershipDescent i x g
    made : (j u s : ℕ) → j < i → Did j u (Make x s g) → Lasts (λ v. Direct v x g) (Take x g) (suc j) i → GovernsDescent j u g
        → MembershipDescent i x g
    put : (j u : ℕ) → j < i → Did j u (Put x g) → Lasts (λ v. Direct v x g) (Take x g) (suc j) i → GovernsDescent j u x
        → GovernsDescent j u g → MembershipDescent i x g

  -- [01:line.1] ".. each direct membership on one chain": one chain from x up to g, with the descent of each membership on it.
  pub data ChainDescent (i : ℕ) : (x g : ℕ) → Type 0 where
    top : {x : ℕ} → InUse (Then i) x → ChainDescent i x x
    step : {x h g : ℕ} → MembershipDescent i x h → ChainDescent i h g → ChainDescent i x g

  -- [01:line.1] ".. for the rule, the accepted GRANT that put it there, not undone since". [01:line.2] "The GRANT's sender then held an
  -- administrator warrant covering (U, T)": no rule stood at the founding.
  pub record RuleDescent (i p : ℕ) : Type 0 where
    pub request : ℕ
    pub sender : ℕ
    pub place : ℕ
    pub earlier : request < i
    pub accepted : Did request sender (granting p ((Then i).rule p))
    pub used : ((Then i).rule p).used ≡ true
    pub lasts : Lasts (λ v. v.rule p ≡ (Then i).rule p) (Withdraw p) (suc request) i
    pub administered : AdministratorPost request sender ((Then i).rule p).users ((Then i).rule p).targets place
    pub descent : AdministratorDescent request place

  -- [01:line.1] "For a permit (member u, operation, gear x) at the end of a list, the line is: a standing rule with the operation's bit, u
  -- under U and x under T; each direct membership on one chain from u to U and one from x to T; .."
  pub record PermissionDescent (u k x : ℕ) : Type 0 where
    pub place : ℕ
    pub low : place < 64
    pub operation : bit ((Then (end initial list)).rule place).operations k ≡ 1
    pub rule : RuleDescent (end initial list) place
    pub user_chain : ChainDescent (end initial list) u ((Then (end initial list)).rule place).users
    pub target_chain : ChainDescent (end initial list) x ((Then (end initial list)).rule place).targets
