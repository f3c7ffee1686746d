-- A line of authority told in numbers: the records of the list that it names, who sent each, and the appointments that the senders held.
use Rattle.std.specs.Prelude.{List, [], ◌∷◌, ℕ}
use Rattle.reach.specs.declared.Policy.{Policy}
use Rattle.reach.specs.declared.Appointment.{Appointment}
use Rattle.reach.specs.declared.AccessRule.{AccessRule}
use Rattle.reach.specs.Tables.{View}
use Rattle.reach.specs.Reach.{Under, itself, up}
use Rattle.text.specs.Text.{Bytes}
use Rattle.list.specs.Runs.{end}
use Rattle.list.specs.Lines.{Each, AppointmentLine, GovernsLine, MembershipLine, RuleLine, PermissionLine}

-- The appointment w at a place: it stood at the start; or the record gave it, sent by an owner of its A; or by a manager of its A and its B.
-- Behind it, the appointments of the sender.
pub data Appointing : Type 0 where
  stood : (place : ℕ) (w : Appointment) → Appointing
  by_owner : (place : ℕ) (w : Appointment) (position sender : ℕ) → Appointing → Appointing
  by_manager : (place : ℕ) (w : Appointment) (position sender : ℕ) → Appointing → Appointing → Appointing

-- The direct membership of x in g: it stood at the start; or the record made it, with the sender's post for g; or put it, with his posts
-- for x and for g.
pub data Membership : Type 0 where
  stood : (x g : ℕ) → Membership
  made : (x g position sender : ℕ) → Appointing → Membership
  put : (x g position sender : ℕ) → Appointing → Appointing → Membership

-- The rule at a place, with its U, its T and its operations: it stood at the start, or the record granted it, with the sender's post.
pub data Granting : Type 0 where
  stood : (place users targets operations : ℕ) → Granting
  granted : (place users targets operations position sender : ℕ) → Appointing → Granting

pub record Account : Type 0 where
  pub rule : Granting
  pub user_chain : List Membership
  pub target_chain : List Membership

module _ {start : Policy} {list : List Bytes} where
  unfoldable pub tell_appointing : {i p : ℕ} {w : Appointment} → AppointmentLine start list i p w → Appointing
  tell_appointing {i} {p} {w} (AppointmentLine.stood e s n) = Appointing.stood p w
  tell_appointing {i} {p} {w} (AppointmentLine.from_owner j u l d n k o z) = Appointing.by_owner p w j u (tell_appointing z)
  tell_appointing {i} {p} {w} (AppointmentLine.from_manager j u l d n k a y b z) = Appointing.by_manager p w j u (tell_appointing y) (tell_appointing z)

  unfoldable pub tell_governing : {j u x : ℕ} → GovernsLine start list j u x → Appointing
  tell_governing (GovernsLine.as_owner o l) = tell_appointing l
  tell_governing (GovernsLine.as_manager o l) = tell_appointing l

  unfoldable pub tell_membership : {i x g : ℕ} → MembershipLine start list i x g → Membership
  tell_membership {i} {x} {g} (MembershipLine.stood d n) = Membership.stood x g
  tell_membership {i} {x} {g} (MembershipLine.by_make j u s l d n z) = Membership.made x g j u (tell_governing z)
  tell_membership {i} {x} {g} (MembershipLine.by_put j u l d n y z) = Membership.put x g j u (tell_governing y) (tell_governing z)

  unfoldable pub tell_granting : {i p : ℕ} {r : AccessRule} → RuleLine start list i p r → Granting
  tell_granting {i} {p} {r} (RuleLine.stood e s n) = Granting.stood p r.users r.targets r.operations
  tell_granting {i} {p} {r} (RuleLine.by_grant j u l d n o z) =
      Granting.granted p r.users r.targets r.operations j u (tell_appointing z)

module _ (start : Policy) (list : List Bytes) where
  -- Each direct membership of a chain, in its order.
  unfoldable pub tell_chain : {v : View} {x g : ℕ} (i : ℕ) (l : Under v x g) → Each (MembershipLine start list i) l → List Membership
  tell_chain i (itself e) m = []
  tell_chain i (up d l) m = tell_membership m.0 ∷ tell_chain i l m.1

  unfoldable pub tell : {u k x : ℕ} → PermissionLine start list u k x → Account
  tell l =
      record {
        rule = tell_granting l.rule_line;
        user_chain = tell_chain (end start list) l.permits.covers_user l.user_line;
        target_chain = tell_chain (end start list) l.permits.covers_target l.target_line;
      }
