-- Lines of authority, as document 01 has them: positions in the list, with what stood at the start as the ends of lines. From the founding
-- that is one appointment and one membership (Demand).
use Rattle.std.specs.Prelude.{◌≡◌, true, List, ℕ, suc, ◌<◌}
use Rattle.reach.specs.declared.Policy.{Policy}
use Rattle.reach.specs.declared.Appointment.{Appointment}
use Rattle.reach.specs.declared.AccessRule.{AccessRule}
use Rattle.reach.specs.Tables.{View}
use Rattle.reach.specs.Reach.{Direct, Under, itself, up}
use Rattle.reach.specs.Privileges.{administrator, Owns, Manages, Administers, PermitsBy}
use Rattle.rules.specs.declared.Request.{Request}
use Rattle.rules.specs.declared.Request.TheVariants.{Make, Put, Take, Dismiss, Withdraw}
use Rattle.rules.specs.Allowing.{Standing, appointing, granting}
use Rattle.text.specs.Text.{Bytes}
use Rattle.list.specs.Runs.{before, end, Done, NotDone}

-- P of each direct membership on a chain.
abbrev pub Each : {v : View} {x g : ℕ} → (ℕ → ℕ → Type 0) → Under v x g → Type 0
Each P (itself i) = Unit {0}
Each P (up {x = x} {h = h} d l) = P x h × Each P l

module _ (start : Policy) (list : List Bytes) where
  abbrev Then : ℕ → View
  Then = before start list

  abbrev Did : ℕ → ℕ → Request → Type 0
  Did = Done start list

  -- [01:line.5] "A membership is undone by a later accepted TAKE of it, a rule by a later accepted WITHDRAW of its place, a warrant by a
  -- later accepted DISMISS of its place."
  abbrev pub NotTaken : ℕ → ℕ → ℕ → ℕ → Type 0
  NotTaken x g = NotDone start list (Take x g)

  abbrev pub NotWithdrawn : ℕ → ℕ → ℕ → Type 0
  NotWithdrawn i = NotDone start list (Withdraw i)

  abbrev pub NotDismissed : ℕ → ℕ → ℕ → Type 0
  NotDismissed i = NotDone start list (Dismiss i)

  -- The line of the appointment w at place p that serves request i. [01:line.6] "A warrant in a line isn't undone between the founding or
  -- the APPOINT that gave it and the request that it serves."
  pub data AppointmentLine : (i p : ℕ) → Appointment → Type 0 where
    -- It stood at the start.
    stood : {i p : ℕ} {w : Appointment} → (Then 0).appointment p ≡ w → Standing w → NotDismissed p 0 i → AppointmentLine i p w
    -- [01:line.3] ".. each of those from a member who then owned its A; each owner warrant likewise, back to warrant 0 of the founding."
    from_owner : {i p : ℕ} {w : Appointment} (j u : ℕ) → j < i → Did j u (appointing p w) → NotDismissed p (suc j) i
        → (w.kind ≡ administrator → ⊥)
        → (o : Owns (Then j) u w.a) → AppointmentLine j o.by.place ((Then j).appointment o.by.place)
        → AppointmentLine i p w
    -- [01:line.3] "That warrant came from an earlier APPOINT by a member who then managed A and B, each by a warrant standing then"
    from_manager : {i p : ℕ} {w : Appointment} (j u : ℕ) → j < i → Did j u (appointing p w) → NotDismissed p (suc j) i
        → w.kind ≡ administrator
        → (a : Manages (Then j) u w.a) → AppointmentLine j a.by.place ((Then j).appointment a.by.place)
        → (b : Manages (Then j) u w.b) → AppointmentLine j b.by.place ((Then j).appointment b.by.place)
        → AppointmentLine i p w

  -- Just before request j, u owned or managed x, by an appointment that is traced.
  pub data GovernsLine (j u x : ℕ) : Type 0 where
    as_owner : (o : Owns (Then j) u x) → AppointmentLine j o.by.place ((Then j).appointment o.by.place) → GovernsLine j u x
    as_manager : (o : Manages (Then j) u x) → AppointmentLine j o.by.place ((Then j).appointment o.by.place) → GovernsLine j u x

  -- [01:line.1] ".. for each membership, the founding or the accepted MAKE or PUT, not undone since, whose sender then owned or managed the
  -- group (for PUT, the object too) by warrants that are traced as below."
  pub data MembershipLine (i x g : ℕ) : Type 0 where
    stood : Direct (Then 0) x g → NotTaken x g 0 i → MembershipLine i x g
    by_make : (j u s : ℕ) → j < i → Did j u (Make x s g) → NotTaken x g (suc j) i → GovernsLine j u g → MembershipLine i x g
    by_put : (j u : ℕ) → j < i → Did j u (Put x g) → NotTaken x g (suc j) i → GovernsLine j u x → GovernsLine j u g
        → MembershipLine i x g

  -- [01:line.1] ".. for the rule, the accepted GRANT that put it there, not undone since". [01:line.2] "The GRANT's sender then held an
  -- administrator warrant covering (U, T)."
  pub data RuleLine (i p : ℕ) (r : AccessRule) : Type 0 where
    stood : (Then 0).rule p ≡ r → r.used ≡ true → NotWithdrawn p 0 i → RuleLine i p r
    by_grant : (j u : ℕ) → j < i → Did j u (granting p r) → NotWithdrawn p (suc j) i
        → (o : Administers (Then j) u r.users r.targets) → AppointmentLine j o.by.place ((Then j).appointment o.by.place)
        → RuleLine i p r

  -- [01:line.1] "For a permit (member u, operation, gear x) at the end of a list, the line is: a standing rule with the operation's bit, u
  -- under U and x under T; each direct membership on one chain from u to U and one from x to T; .."
  pub record PermissionLine (u k x : ℕ) : Type 0 where
    pub place : ℕ
    pub low : place < 64
    pub permits : PermitsBy (Then (end start list)) u k x place
    pub rule_line : RuleLine (end start list) place ((Then (end start list)).rule place)
    pub user_line : Each (MembershipLine (end start list)) permits.covers_user
    pub target_line : Each (MembershipLine (end start list)) permits.covers_target
