-- Which policies are sound, and that they stay so.
-- [02:2.4] "A sheet is sound if its stored memberships and the numbers in its places in use, unread B apart, all name objects in use
-- of the right sort, no rule has operation set 0, B is 0 for owners and managers, and every object in use has an owner." What an empty
-- place holds is no fault, and a sort or kind above 3 is an empty place.
use Rattle.std.specs.Prelude.{◌≡◌, true, List, ℕ}
use Rattle.reach.specs.declared.Policy.{Policy}
use Rattle.reach.specs.declared.Appointment.{Appointment}
use Rattle.reach.specs.declared.AccessRule.{AccessRule}
use Rattle.reach.specs.Tables.{View, Sized, view, initial}
use Rattle.reach.specs.Reach.{InUse, Group}
use Rattle.rules.specs.declared.Request.{Request}
use Rattle.rules.specs.Allowing.{Standing, Appointable, Owned, view_after, Allowed}
use Rattle.text.specs.Text.{Bytes}
use Rattle.list.specs.Runs.{run}
use Rattle.list.specs.Demand.{Demand3}

-- "its stored memberships .. all name objects in use of the right sort": an object of any sort may be a member, and only a group has
-- members. A membership stored from or to an empty object is a fault, though it counts for nothing.
abbrev pub MembersFit : View → Type 0
MembersFit v = (x g : ℕ) → v.stored x g ≡ true → InUse v x × Group v g

-- "the numbers in its places in use, unread B apart, all name objects in use of the right sort .. B is 0 for owners and managers": an
-- appointment that stands is one that APPOINT can ask for.
abbrev pub AppointmentFits : View → Appointment → Type 0
AppointmentFits v w = Standing w → Appointable v w.kind w.holder w.a w.b

abbrev pub AppointmentsFit : View → Type 0
AppointmentsFit v = (i : ℕ) → AppointmentFits v (v.appointment i)

-- "the numbers in its places in use .. all name objects in use of the right sort, no rule has operation set 0": a rule in use is one
-- that GRANT can ask for.
pub record Grantable (v : View) (r : AccessRule) : Type 0 where
  pub group_users : Group v r.users
  pub group_targets : Group v r.targets
  pub some_operation : r.operations ≡ 0 → ⊥

abbrev pub RuleFits : View → AccessRule → Type 0
RuleFits v r = r.used ≡ true → Grantable v r

abbrev pub RulesFit : View → Type 0
RulesFit v = (i : ℕ) → RuleFits v (v.rule i)

pub record Sound (v : View) : Type 0 where
  -- "its stored memberships .."
  pub memberships : MembersFit v
  -- ".. and the numbers in its places in use, unread B apart .. B is 0 for owners and managers", of appointments;
  pub appointments : AppointmentsFit v
  -- the same of rules, and "no rule has operation set 0";
  pub rules : RulesFit v
  -- "and every object in use has an owner."
  pub owners : Owned v

-- ---- Soundness is kept

-- Every allowed request keeps it.
abbrev pub KeptByRequests : Type 0
KeptByRequests = (v : View) (u : ℕ) (q : Request) → Allowed v u q → Sound v → Sound (view_after v q)

-- Every policy that a list of requests leaves from a sound start is sound.
abbrev pub KeptByLists : Type 0
KeptByLists = (start : Policy) → Sized start → Sound (view start) → (list : List Bytes) → Sound (view (run start list))

-- The founding is sound, and so is every policy that a list leaves from it.
abbrev pub FoundingSound : Type 0
FoundingSound = Sound (view initial)

abbrev pub FromFounding : Type 0
FromFounding = (list : List Bytes) → Sound (view (run initial list))

-- [02:2.9] "demand 3 holds for every list from the read sheet too": from every sound start.
abbrev pub DemandFromSound : Type 0
DemandFromSound = (start : Policy) → Sized start → Sound (view start) → (list : List Bytes) → Demand3 start list
