-- Every allowed request keeps a policy sound, and so does every list; the founding is sound; demand 3 holds from every sound start.
-- What a request stores is what checks 5 to 8 have passed, and what it takes leaves owners, as check 12 asks: kind by kind.
use mathlib.Core.Path.{◌≡◌, refl, sym, subst}
use mathlib.Core.Bool.{false≢true}
use mathlib.Core.List.{List}
use native.Mathlib.Nat.{le_refl}
use native.Mathlib.Omega.{arith}
use lib.ListN.{take}
use lib.Seq.{take-length}
use Rattle.reach.specs.declared.Policy.{Policy}
use Rattle.reach.specs.declared.Appointment.{Appointment}
use Rattle.reach.specs.Tables.{View, view, no_appointment, no_rule, initial}
use Rattle.reach.specs.Reach.{InUse, Group}
use Rattle.reach.specs.Privileges.{owner}
use Rattle.reach.proofs.Sorts.{counted_known}
use Rattle.reach.proofs.Carrying.{known_kind}
use Rattle.reach.proofs.Sizes.{sized_initial}
use Rattle.reach.proofs.Founding.{initial_group, initial_user, initial_appointment, initial_rule, initial_stored_only, initial_owns}
use Rattle.rules.specs.declared.Request.TheVariants.{Make, Put, Take, Appoint, Dismiss, Grant, Withdraw, Use}
use Rattle.rules.specs.Allowing.{Appointable, Owned}
use Rattle.rules.proofs.Steps.{Holders, step_owned}
use Rattle.text.specs.Text.{Bytes}
use Rattle.list.specs.Runs.{run, end}
use Rattle.list.proofs.Positions.{kept}
use Rattle.list.proofs.Demanded.{demand3}
use Rattle.soundness.specs.Soundness.{MembersFit, AppointmentsFit, RulesFit, Sound}
use Rattle.soundness.specs.Soundness.{KeptByRequests, KeptByLists, FoundingSound, FromFounding, DemandFromSound}
use Rattle.soundness.proofs.Staying.{appointable_stays, grantable_stays, made_stays}
use Rattle.soundness.proofs.Staying.{made_fits, put_fits, taken_fits, appointed_fits, ruled_fits}

-- ---- One request

-- Sound, from its four parts.
sound_of : {v : View} → MembersFit v → AppointmentsFit v → RulesFit v → Owned v → Sound v
sound_of a b c d = record { memberships = a; appointments = b; rules = c; owners = d }

-- Kind by kind: the table that the request writes, and the others, which it does not.
pub step_sound : KeptByRequests
step_sound v u (Make i s g) ok z =
    let f = ok.fits in
    let st = made_stays v i s g f.3 in
    sound_of
    (made_fits v i s g f.3 (known_kind s f.1.0 f.1.1) f.2 z.memberships)
    (λ j k. appointable_stays v _ st (z.appointments j k))
    (λ j k. grantable_stays v _ st _ (z.rules j k))
    (step_owned v u (Make i s g) ok z.owners)
step_sound v u (Put x g) ok z =
    sound_of
    (put_fits v x g ok.fits.0 ok.fits.1 z.memberships)
    (λ j k. appointable_stays v _ (λ x u. refl) (z.appointments j k))
    (λ j k. grantable_stays v _ (λ x u. refl) _ (z.rules j k))
    (step_owned v u (Put x g) ok z.owners)
step_sound v u (Take x g) ok z =
    sound_of
    (taken_fits v x g z.memberships)
    (λ j k. appointable_stays v _ (λ x u. refl) (z.appointments j k))
    (λ j k. grantable_stays v _ (λ x u. refl) _ (z.rules j k))
    (step_owned v u (Take x g) ok z.owners)
step_sound v u (Appoint i k h a b) ok z =
    sound_of
    (λ x g e. z.memberships x g e)
    (appointed_fits v i _ (λ s. ok.fits.1) z.appointments)
    (λ j m. grantable_stays v _ (λ x u. refl) _ (z.rules j m))
    (step_owned v u (Appoint i k h a b) ok z.owners)
step_sound v u (Dismiss i) ok z =
    sound_of
    (λ x g e. z.memberships x g e)
    (appointed_fits v i no_appointment (λ s. absurd (omega (arith, s, counted_known 0 (omega arith)))) z.appointments)
    (λ j m. grantable_stays v _ (λ x u. refl) _ (z.rules j m))
    (step_owned v u (Dismiss i) ok z.owners)
step_sound v u (Grant i w t o) ok z =
    let f = ok.fits in
    sound_of
    (λ x g e. z.memberships x g e)
    (λ j k. appointable_stays v _ (λ x u. refl) (z.appointments j k))
    (ruled_fits v i _ (λ s. record { group_users = f.1.0; group_targets = f.1.1; some_operation = f.2 }) z.rules)
    (step_owned v u (Grant i w t o) ok z.owners)
step_sound v u (Withdraw i) ok z =
    sound_of
    (λ x g e. z.memberships x g e)
    (λ j k. appointable_stays v _ (λ x u. refl) (z.appointments j k))
    (ruled_fits v i no_rule (λ s. absurd (false≢true s)) z.rules)
    (step_owned v u (Withdraw i) ok z.owners)
step_sound v u (Use x k) ok z = z

-- ---- The founding

-- Its one appointment is one that APPOINT could ask for.
founding_appointable : (w : Appointment) → w ≡ record { kind = owner; holder = 1; a = 0; b = 0 }
    → Appointable (view initial) w.kind w.holder w.a w.b
founding_appointable w e =
    subst
    (λ (w : Appointment). Appointable (view initial) w.kind w.holder w.a w.b)
    (sym e)
    (record {
      known = (omega arith, omega arith);
      holder = initial_user;
      group_a = initial_group;
      group_b = λ k. initial_group;
      unread_b = λ k. refl;
    })

-- One membership, one appointment, no rule, and user 1 owns all.
pub founding_sound : FoundingSound
founding_sound =
    record {
      memberships = λ x g e.
          let w = initial_stored_only x g e in (
            subst (InUse (view initial)) (sym w.0) (omega (arith, initial_user)),
            subst (Group (view initial)) (sym w.1) initial_group,
          );
      appointments = λ i s. founding_appointable ((view initial).appointment i) (initial_appointment i s).1;
      rules = λ i e. absurd (initial_rule i e);
      owners = λ x i. record { place = 1; low = omega arith; at = initial_owns x i };
    }

-- ---- Lists

-- A list up to its end is the list.
whole_list : (start : Policy) (list : List Bytes) → take (end start list) list ≡ list
whole_list start list = take-length list

-- What every allowed request keeps, every list keeps.
pub run_sound : KeptByLists
run_sound start z s list =
    subst
    (λ (l : List Bytes). Sound (view (run start l)))
    (whole_list start list)
    (kept start list z Sound step_sound s (end start list) (le_refl (end start list)))

-- No list leads from the founding to a policy that a card would refuse.
pub from_founding : FromFounding
from_founding list = run_sound initial sized_initial founding_sound list

-- ---- Demand 3

-- Whoever holds an appointment of a sound policy is a user.
pub sound_holders : {v : View} → Sound v → Holders v
sound_holders s i k = (s.appointments i k).holder

-- Demand 3 for every list from a sound start, as from a card that was read: lines end at what stood there.
pub sound_demand3 : DemandFromSound
sound_demand3 start z s list = demand3 start z s.owners (sound_holders s) list
