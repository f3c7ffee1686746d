-- Each fault that [02:2.4] names makes a policy unsound by itself, and what an empty place holds does not.
-- The clause that the fault breaks is asked of the place where it stands, and what it says there computes to a clash.
use mathlib.Core.Path.{◌≡◌, refl, sym, ◌∙◌}
use mathlib.Core.Bool.{true, false, true≢false}
use mathlib.Core.List.{[], ◌∷◌, map}
use native.Mathlib.Nat.{lt_irrefl}
use lib.ListN.{replicate}
use borrow.Author.Tests.{ltb-true, eqb-false}
use Rattle.reach.specs.declared.Policy.{Policy}
use Rattle.reach.specs.Words.{bit, has}
use Rattle.reach.specs.Tests.{some}
use Rattle.reach.specs.Tables.{Sized, view, counted, sort, stored, appointment, standing, rule, initial}
use Rattle.reach.specs.Reach.{in_use, direct, chain, under}
use Rattle.reach.specs.Privileges.{holds_by, holds, orphaned}
use Rattle.reach.specs.Successors.{appointed, ruled}
use Rattle.rules.proofs.Giving.{orphaned_passes}
use Rattle.soundness.specs.Soundness.{Sound}
use Rattle.soundness.specs.Tested.{stray_membership, misfit_appointment, misfit_rule, wide_row, Broken, broken}
use Rattle.soundness.specs.Faults.{Unsound, empty_member, in_user, in_empty, group_holds, empty_holds, past_holds, owner_of_user, owner_of_empty}
use Rattle.soundness.specs.Faults.{administrator_of_user, owner_with_b, manager_with_b, user_rule, empty_rule, idle_rule, ownerless, harmless}
use Rattle.soundness.proofs.Tested.{sound_tested}

-- Which clauses are broken, with every definition open: what is to compute opens this one.
unfoldable pub computed_faults : Policy → Broken
unfolding bit has some counted sort stored appointment standing rule initial in_use direct chain under holds_by holds orphaned appointed ruled
    stray_membership misfit_appointment misfit_rule wide_row
computed_faults p = broken p

-- ---- [02:2.4] "its stored memberships .. all name objects in use of the right sort"

pub empty_member_unsound : Unsound empty_member
unfolding computed_faults
empty_member_unsound s = lt_irrefl 0 (s.memberships 63 0 refl).0

pub in_user_unsound : Unsound in_user
unfolding computed_faults
in_user_unsound s = eqb-false 2 1 refl (s.memberships 0 1 refl).1

pub in_empty_unsound : Unsound in_empty
unfolding computed_faults
in_empty_unsound s = eqb-false 0 1 refl (s.memberships 1 63 refl).1

-- ---- ".. the numbers in its places in use, unread B apart .. B is 0 for owners and managers", of appointments

pub group_holds_unsound : Unsound group_holds
unfolding computed_faults
group_holds_unsound s = eqb-false 1 2 refl (s.appointments 31 (ltb-true 0 1 refl)).holder

pub empty_holds_unsound : Unsound empty_holds
unfolding computed_faults
empty_holds_unsound s = eqb-false 0 2 refl (s.appointments 31 (ltb-true 0 1 refl)).holder

pub past_holds_unsound : Unsound past_holds
unfolding computed_faults
past_holds_unsound s = eqb-false 0 2 refl (s.appointments 31 (ltb-true 0 1 refl)).holder

pub owner_of_user_unsound : Unsound owner_of_user
unfolding computed_faults
owner_of_user_unsound s = eqb-false 2 1 refl (s.appointments 31 (ltb-true 0 1 refl)).group_a

pub owner_of_empty_unsound : Unsound owner_of_empty
unfolding computed_faults
owner_of_empty_unsound s = eqb-false 0 1 refl (s.appointments 31 (ltb-true 0 1 refl)).group_a

pub administrator_of_user_unsound : Unsound administrator_of_user
unfolding computed_faults
administrator_of_user_unsound s = eqb-false 2 1 refl ((s.appointments 31 (ltb-true 0 3 refl)).group_b refl)

pub owner_with_b_unsound : Unsound owner_with_b
unfolding computed_faults
owner_with_b_unsound s = eqb-false 1 0 refl ((s.appointments 31 (ltb-true 0 1 refl)).unread_b (eqb-false 1 3 refl))

pub manager_with_b_unsound : Unsound manager_with_b
unfolding computed_faults
manager_with_b_unsound s = eqb-false 1 0 refl ((s.appointments 31 (ltb-true 0 2 refl)).unread_b (eqb-false 2 3 refl))

-- ---- The same of rules, and "no rule has operation set 0"

pub user_rule_unsound : Unsound user_rule
unfolding computed_faults
user_rule_unsound s = eqb-false 2 1 refl (s.rules 63 refl).group_users

pub empty_rule_unsound : Unsound empty_rule
unfolding computed_faults
empty_rule_unsound s = eqb-false 0 1 refl (s.rules 63 refl).group_targets

pub idle_rule_unsound : Unsound idle_rule
unfolding computed_faults
idle_rule_unsound s = (s.rules 63 refl).some_operation refl

-- ---- "and every object in use has an owner"

-- Object 63 is an orphan.
ownerless_orphaned : orphaned ownerless ≡ true
unfolding computed_faults
ownerless_orphaned = refl

pub ownerless_unsound : Unsound ownerless
ownerless_unsound s = true≢false (sym ownerless_orphaned ∙ (orphaned_passes ownerless).complete s.owners)

-- ---- Just this fault

-- Each of these breaks one clause, and no other.
pub members_only :
    map broken (empty_member ∷ in_user ∷ in_empty ∷ [])
    ≡ replicate 3 (record { memberships = true; appointments = false; rules = false; owners = false })
unfolding computed_faults
members_only = refl

pub appointments_only :
    map broken
    (group_holds ∷ empty_holds ∷ past_holds ∷ owner_of_user ∷ owner_of_empty ∷ administrator_of_user ∷ owner_with_b ∷ manager_with_b ∷ [])
    ≡ replicate 8 (record { memberships = false; appointments = true; rules = false; owners = false })
unfolding computed_faults
appointments_only = refl

pub rules_only :
    map broken (user_rule ∷ empty_rule ∷ idle_rule ∷ [])
    ≡ replicate 3 (record { memberships = false; appointments = false; rules = true; owners = false })
unfolding computed_faults
rules_only = refl

pub owners_only : broken ownerless ≡ record { memberships = false; appointments = false; rules = false; owners = true }
unfolding computed_faults
owners_only = refl

-- ---- No fault

sized_harmless : Sized harmless
unfolding computed_faults
sized_harmless = record { sorts = refl; memberships = refl; appointments = refl; rules = refl }

-- [02:2.4] What an empty place holds is no fault.
pub harmless_sound : Sound (view harmless)
unfolding computed_faults
harmless_sound = sound_tested harmless sized_harmless refl refl
