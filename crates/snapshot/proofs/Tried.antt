-- The file of a policy on concrete policies: which bytes stand on the card, which policies share them, and which codes the answers have.
-- By computation; what an empty place holds is on no card, since a policy with it is the same in every place in use.
use mathlib.Core.Path.{◌≡◌, refl, sym, ap, ◌∙◌}
use mathlib.Core.Bool.{true, false, false≢true}
use mathlib.Core.Logic.{◌⊎◌, ⊎_elim}
use mathlib.Core.List.{[], ◌∷◌, map}
use Prim.Native.Nat.{ℕ, ◌<◌}
use native.Mathlib.Nat.{lt_irrefl}
use native.Mathlib.Decide.{ℕ_discrete}
use native.Mathlib.Omega.{arith}
use lib.Dec.{ltb}
use lib.ListN.{get_or, set}
use lib.Seq.{get_or-set_same, get_or-set_other}
use borrow.Author.Tests.{lt-ltb, eqb-false}
use Rattle.frame.specs.Reading.{records_from, torn_from}
use Rattle.reach.specs.declared.Policy.{Policy}
use Rattle.reach.specs.declared.Appointment.{Appointment}
use Rattle.reach.specs.declared.AccessRule.{AccessRule}
use Rattle.reach.specs.Tests.{◌⇒◌∥◌}
use Rattle.reach.specs.Tables.{Sized, view, counted, sort, stored, appointment, rule, no_appointment, no_rule, initial}
use Rattle.reach.specs.Successors.{appointed, ruled}
use Rattle.reach.proofs.Sizes.{sized_initial}
use Rattle.rules.specs.Allowing.{Standing, Vacant}
use Rattle.text.specs.Text.{Bytes}
use Rattle.soundness.specs.Soundness.{Sound}
use Rattle.soundness.specs.Faults.{littered, harmless}
use Rattle.soundness.proofs.Keeping.{founding_sound}
use Rattle.soundness.proofs.Tested.{sound_tested}
use Rattle.soundness.proofs.Refuted.{computed_faults}
use Rattle.std.specs.Prelude.{Result, Ok, Err}
use Rattle.snapshot.specs.declared.CardError.{CardError}
use Rattle.snapshot.specs.declared.CardError.TheVariants.{Damaged, Short}
use Rattle.snapshot.specs.Card.{file_of, record_of, known, object_at, membership_at, appointed_at, granted_at, from, in_order, Same, Zeroed}
use Rattle.snapshot.specs.Answers.{code_of, FileOf, Reads, Returned}
use Rattle.snapshot.specs.Trials.{founding_card, founding_records, club, club_cleared, club_card, sort_left, appointment_left, rule_left}
use Rattle.snapshot.proofs.Framing.{framed}
use Rattle.snapshot.proofs.SoundAlike.{sound_same}
use Rattle.snapshot.proofs.Theorems.{same_of_files, files_of_same}

-- The file with every definition open: what is to compute opens this one.
unfoldable computed : Policy → Bytes
unfolding computed_faults object_at membership_at appointed_at granted_at from in_order club_cleared
computed p = file_of (view p)

-- ---- Two cards, byte by byte

-- [02:2.2] [02:2.3] That of the founding.
pub founding_card_is : file_of (view initial) ≡ founding_card
unfolding computed
founding_card_is = refl

-- That of a policy with records of every kind: rising by kind, then by number or place, memberships by object, then group.
pub club_card_is : file_of (view club) ≡ club_card
unfolding computed
club_card_is = refl

-- ---- Read as requests are read

-- The records that are to be found.
founding_records_are : in_order record_of (view initial) ≡ founding_records
unfolding computed
founding_records_are = refl

-- [02:2.2] "Records are framed as document 01's request records": a reader of requests finds the founding's four, and no torn place.
pub founding_framed : records_from founding_card 0 ≡ founding_records
founding_framed =
    ap (λ (b : Bytes). records_from b 0) (sym founding_card_is) ∙ (framed (view initial)).records ∙ founding_records_are

pub founding_whole : torn_from founding_card 0 ≡ false
founding_whole = ap (λ (b : Bytes). torn_from b 0) (sym founding_card_is) ∙ (framed (view initial)).whole

-- ---- What an empty place holds

module _ (p : Policy) (z : Sized p) (x i j : ℕ) (in_x : x < 64) (in_i : i < 32) (in_j : j < 64) (no_object : (view p).sort x ≡ 0)
    (vacant : Vacant ((view p).appointment i)) (unused : ((view p).rule j).used ≡ false) where
  -- Sort 4 counts as empty.
  sorts_littered : (y : ℕ) → (view p).sort y ≡ (view (littered p x i j)).sort y
  unfolding sort counted appointed ruled
  sorts_littered y = at (ℕ_discrete y x)
    where
      at : Dec (y ≡ x) → (ltb y 64 ⇒ counted (get_or p.sorts y 0) ∥ 0) ≡ (ltb y 64 ⇒ counted (get_or (set p.sorts x 4) y 0) ∥ 0)
      at (yes e) = rw (e, get_or-set_same p.sorts x 4 0 (omega (arith, z.sorts)), lt-ltb x 64 in_x) (rw (lt-ltb x 64 in_x) at no_object)
      at (no n) = rw (get_or-set_other p.sorts x y 4 0 n)

  -- Appointments and rules that are in use with or without the litter.
  appointments_littered : (k : ℕ) → Standing ((view p).appointment k) ⊎ Standing ((view (littered p x i j)).appointment k)
      → (view p).appointment k ≡ (view (littered p x i j)).appointment k
  unfolding appointment counted appointed ruled
  appointments_littered k = at (ℕ_discrete k i)
    where
      junk : Appointment
      junk = record { kind = 4; holder = 9; a = 9; b = 9 }

      at : Dec (k ≡ i)
          → Standing (get_or p.appointments k no_appointment) ⊎ Standing (get_or (set p.appointments i junk) k no_appointment)
          → get_or p.appointments k no_appointment ≡ get_or (set p.appointments i junk) k no_appointment
      at (yes e) s =
          ⊎_elim
          (λ a. absurd (lt_irrefl 0 (rw (e, vacant) at a)))
          (λ b. absurd (lt_irrefl 0 (rw (e, get_or-set_same p.appointments i junk no_appointment (omega (arith, z.appointments))) at b)))
          s
      at (no n) s = sym (get_or-set_other p.appointments i k junk no_appointment n)

  rules_littered : (k : ℕ) → (((view p).rule k).used ≡ true) ⊎ (((view (littered p x i j)).rule k).used ≡ true)
      → (view p).rule k ≡ (view (littered p x i j)).rule k
  unfolding rule appointed ruled
  rules_littered k = at (ℕ_discrete k j)
    where
      junk : AccessRule
      junk = record { used = false; users = 7; targets = 7; operations = 7 }

      at : Dec (k ≡ j) → ((get_or p.rules k no_rule).used ≡ true) ⊎ ((get_or (set p.rules j junk) k no_rule).used ≡ true)
          → get_or p.rules k no_rule ≡ get_or (set p.rules j junk) k no_rule
      at (yes e) s =
          ⊎_elim
          (λ a. absurd (false≢true (rw (e, unused) at a)))
          (λ b. absurd (false≢true (rw (e, get_or-set_same p.rules j junk no_rule (omega (arith, z.rules))) at b)))
          s
      at (no n) s = sym (get_or-set_other p.rules j k junk no_rule n)

  -- [02:2.6] A policy agrees with itself littered, in every place in use and every membership.
  pub same_littered : Same (view p) (view (littered p x i j))
  unfolding stored appointed ruled
  same_littered =
      record {
        sorts = sorts_littered;
        memberships = λ y g. refl;
        appointments = appointments_littered;
        rules = rules_littered;
      }

-- The tables of the club have their sizes.
sized_cleared : Sized club_cleared
unfolding computed
sized_cleared = record { sorts = refl; memberships = refl; appointments = refl; rules = refl }

-- The founding, littered in the last places of its tables, and the club.
founding_same : Same (view initial) (view harmless)
unfolding computed
founding_same = same_littered initial sized_initial 63 31 63 (omega arith) (omega arith) (omega arith) refl refl refl

club_same : Same (view club_cleared) (view club)
unfolding computed
club_same = same_littered club_cleared sized_cleared 5 6 10 (omega arith) (omega arith) (omega arith) refl refl refl

-- [02:2.6] What an empty place holds is not on the card: with it or without, the file is the same.
pub harmless_card : file_of (view harmless) ≡ founding_card
harmless_card = sym (files_of_same initial harmless founding_same) ∙ founding_card_is

pub cleared_card : file_of (view club_cleared) ≡ club_card
cleared_card = files_of_same club_cleared club club_same ∙ club_card_is

-- [02:2.6] A sound policy whose file is the founding's agrees with the founding in every place in use and every membership.
pub founding_card_only : (p : Policy) → Sized p → Sound (view p) → file_of (view p) ≡ founding_card → Same (view initial) (view p)
founding_card_only p z s e = same_of_files initial p sized_initial z founding_sound s (founding_card_is ∙ sym e)

-- Sorts and kinds that count, and those that do not.
pub known_tried : map known (0 ∷ 1 ∷ 2 ∷ 3 ∷ 4 ∷ 255 ∷ []) ≡ false ∷ true ∷ true ∷ true ∷ false ∷ false ∷ []
unfolding computed
known_tried = refl

-- [02:2.5] ".. a sheet whose empty places hold zeros": a reader may not give a policy that has something else in one, of any table.
pub sort_left_unzeroed : Zeroed sort_left → ⊥
unfolding computed
sort_left_unzeroed z = eqb-false 4 0 refl (z.sorts 63 refl)

pub appointment_left_unzeroed : Zeroed appointment_left → ⊥
unfolding computed
appointment_left_unzeroed z = eqb-false 9 0 refl (ap (λ (w : Appointment). w.holder) (z.appointments 31 refl))

pub rule_left_unzeroed : Zeroed rule_left → ⊥
unfolding computed
rule_left_unzeroed z = eqb-false 7 0 refl (ap (λ (r : AccessRule). r.users) (z.rules 63 refl))

-- ---- Read back

-- The club is a policy that a program can hold, and sound, whatever its empty places hold.
sized_club : Sized club
unfolding computed
sized_club = record { sorts = refl; memberships = refl; appointments = refl; rules = refl }

cleared_sound : Sound (view club_cleared)
unfolding computed
cleared_sound = sound_tested club_cleared sized_cleared refl refl

pub club_sound : Sound (view club)
club_sound = sound_same (view club_cleared) (view club) club_same cleared_sound

-- [02:2.7] "A sound sheet, written and read, comes back the same in those": whatever reader of these promises reads a policy's file takes it.
read_back : {p : Policy} {card : Bytes} {r : Result Policy CardError} → FileOf p card → Reads card r → Returned p r
read_back {p} f (Reads.taken q c g z same) = record { read = q; done = c; same = same p f }
read_back {p} f (Reads.damaged none is) = absurd (none p f)

pub founding_read : {r : Result Policy CardError} → Reads founding_card r → Returned initial r
founding_read = read_back (record { sized = sized_initial; sound = founding_sound; file = founding_card_is })

pub club_read : {r : Result Policy CardError} → Reads club_card r → Returned club r
club_read = read_back (record { sized = sized_club; sound = club_sound; file = club_card_is })

-- ---- Codes

-- [02:2.10] "Turned away: 13 damaged, ..; then 14 short card": and 0 for what is done.
pub done_code : {A : Type 0} (x : A) → code_of (Ok x) ≡ 0
done_code x = refl

pub damaged_code : (A : Type 0) → code_of {A = A} (Err Damaged) ≡ 13
damaged_code A = refl

pub short_code : (A : Type 0) → code_of {A = A} (Err Short) ≡ 14
short_code A = refl
