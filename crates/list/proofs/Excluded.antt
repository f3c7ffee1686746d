-- What demand 3 says of the sample and the lines after it: user 1 owns each object at the end; record 13 and record 17 changed nothing.
-- Each by a field of the demand: what the policy before computes to leaves no other way.
use mathlib.Core.Path.{◌≡◌, refl, sym, ap, ◌∙◌, subst}
use mathlib.Core.Bool.{true, false, not, ◌&&◌, ◌||◌}
use mathlib.Core.Logic.{◌⊎◌, inr, ⊎_elim}
use mathlib.Core.List.{List, ◌++◌}
use Prim.Native.Nat.{ℕ, suc, ◌<◌}
use native.Mathlib.Omega.{arith}
use lib.Dec.{eqb, ltb}
use Rattle.reach.specs.declared.Policy.{Policy}
use Rattle.reach.specs.declared.Appointment.{Appointment}
use Rattle.reach.specs.Tests.{some}
use Rattle.reach.specs.Tables.{View, sort, appointment, initial}
use Rattle.reach.specs.Reach.{Under, itself, up, in_use}
use Rattle.reach.specs.Privileges.{owner, manager, Owns, Manages, owns, manages}
use Rattle.reach.proofs.Sizes.{sized_initial}
use Rattle.reach.proofs.Testing.{refuted, decides_eqb, decides_ltb, decides_or}
use Rattle.reach.proofs.Chains.{decides_in_use}
use Rattle.reach.proofs.Deciding.{holds_decides}
use Rattle.rules.specs.declared.Request.TheVariants.{Put, Appoint}
use Rattle.rules.specs.Sample.{records, further}
use Rattle.rules.specs.Records.{sender, request}
use Rattle.rules.specs.Judging.{code_of, judge}
use Rattle.rules.specs.Allowing.{managing, Gives, HandsOver, view_after}
use Rattle.rules.proofs.Answered.{computed}
use Rattle.rules.proofs.Table.{refused_same}
use Rattle.rules.proofs.Verdicts.{refused_code}
use Rattle.text.specs.Text.{Bytes}
use Rattle.list.specs.Runs.{run, policy_at, before, end, record_at, Done}
use Rattle.list.proofs.Positions.{policy_next, as_allowed}
use Rattle.list.proofs.Demanded.{third}
use Rattle.list.proofs.Picking.{passes_too, only_at}

-- The sample and the lines after it: twenty-four records.
abbrev pub whole : List Bytes
whole = records ++ further

abbrev Then : ℕ → View
Then = before initial whole

-- ---- Every object has an owner

abbrev last : Policy
last = policy_at initial whole (end initial whole)

-- At the end the objects 0 to 7 and 63 are in use, and one appointment is an owner's: that of 1, at place 0.
at_end : (some 64 (λ x. (ltb x 8 || eqb x 63) && not (in_use last x)) ≡ false)
    × (some 32 (λ i. eqb (appointment last i).kind owner && not (eqb i 0)) ≡ false)
    × ((appointment last 0).holder ≡ 1)
unfolding computed run
at_end = (refl, refl, refl)

-- Whoever owns anything at the end is 1.
only_1_owns : {u x : ℕ} → Owns (Then (end initial whole)) u x → u ≡ 1
only_1_owns {u} o =
    let i = o.by.place in
    let e : i ≡ 0 =
    only_at 32 0 (λ i. eqb (appointment last i).kind owner) at_end.1 i o.by.low ((decides_eqb _ owner).complete o.by.at.is_kind) in
    sym o.by.at.is_holder ∙ ap (λ (n : ℕ). (appointment last n).holder) e ∙ at_end.2

-- Each of those objects has an owner, and he is 1.
pub owned_by_1 : (x : ℕ) → (x < 8) ⊎ (x ≡ 63) → Owns (Then (end initial whole)) 1 x
owned_by_1 x c =
    let o = (third whole).demand.owners x ((decides_in_use last x).sound used) in
    subst (λ (u : ℕ). Owns (Then (end initial whole)) u x) (only_1_owns o.at) o.at
  where
    low : x < 64
    low = ⊎_elim (λ l. omega arith) (λ e. omega arith) c

    used : in_use last x ≡ true
    used =
        passes_too
        64
        (λ x. ltb x 8 || eqb x 63)
        (in_use last)
        at_end.0
        x
        low
        ((decides_or (ltb x 8) (eqb x 63) (decides_ltb x 8) (decides_eqb x 63)).complete c)

-- ---- What was not done changed nothing

unchanged : (i : ℕ) → i < end initial whole → (code_of (judge (policy_at initial whole i) (record_at initial whole i)).verdict ≡ 0 → ⊥)
    → policy_at initial whole (suc i) ≡ policy_at initial whole i
unchanged i l n = policy_next initial whole i l ∙ refused_same _ _ (refused_code (policy_at initial whole i) (record_at initial whole i) n)

-- ---- Record 13: 1 would make himself manager of 0

abbrev at_13 : Policy
at_13 = policy_at initial whole 13

asked_13 : (sender (record_at initial whole 13) ≡ 1) × (request (record_at initial whole 13) ≡ Appoint 3 2 1 0 0)
unfolding computed
asked_13 = (refl, refl)

read_13 : (sort at_13 1 ≡ 2) × (sort at_13 0 ≡ 1) × (manages at_13 1 0 ≡ false)
unfolding computed run
read_13 = (refl, refl, refl)

-- It would give its sender the management of 0.
would_give : Gives (Then 13) (view_after (Then 13) (Appoint 3 2 1 0 0)) 1
would_give =
    record {
      what = managing 0;
      there = omega (arith, read_13.1);
      has =
          record {
            user = read_13.0;
            by =
                record {
                  place = 3;
                  low = omega arith;
                  at = record { is_kind = refl; is_holder = refl; covers = itself {x = 0} (omega (arith, read_13.1)) };
                };
          };
      lacked = refuted (holds_decides at_13 manager 1 0) read_13.2;
    }

-- So it was not accepted.
pub own_gain_refused : code_of (judge at_13 (record_at initial whole 13)).verdict ≡ 0 → ⊥
own_gain_refused e =
    let d : Done initial whole 13 1 (Appoint 3 2 1 0 0) =
    record { within = omega arith; by = asked_13.0; asks = asked_13.1; accepted = e } in
    (third whole).demand.no_own_gain 13 1 (Appoint 3 2 1 0 0) d
    (subst (λ (n : View). Gives (Then 13) n 1) (sym (as_allowed initial whole sized_initial d).1) would_give)

pub own_gain_unchanged : policy_at initial whole 14 ≡ policy_at initial whole 13
own_gain_unchanged = unchanged 13 (omega arith) own_gain_refused

-- ---- Record 17: 2, who owns nothing, would put 3 into 5, which 7 manages

abbrev at_17 : Policy
at_17 = policy_at initial whole 17

asked_17 : (sender (record_at initial whole 17) ≡ 2) × (request (record_at initial whole 17) ≡ Put 3 5)
unfolding computed
asked_17 = (refl, refl)

read_17 : (sort at_17 3 ≡ 2) × (sort at_17 5 ≡ 1) × (sort at_17 7 ≡ 2)
    × (appointment at_17 3 ≡ record { kind = manager; holder = 7; a = 5; b = 0 })
    × (manages at_17 7 3 ≡ false)
    × (owns at_17 2 3 ≡ false)
unfolding computed run
read_17 = (refl, refl, refl, refl, refl, refl)

-- It would hand the management of 3 over to 7.
would_hand_over : HandsOver (Then 17) (view_after (Then 17) (Put 3 5)) 2
would_hand_over =
    record {
      who = 7;
      what = 3;
      comes =
          record {
            there = omega (arith, read_17.0);
            gain = inr (manages_after, refuted (holds_decides at_17 manager 7 3) read_17.4);
          };
      not_own = refuted (holds_decides at_17 owner 2 3) read_17.5;
    }
  where
    into_5 : Under (view_after (Then 17) (Put 3 5)) 3 5
    into_5 =
        up {x = 3} {h = 5}
        (record { object = omega (arith, read_17.0); group = read_17.1; is_stored = refl })
        (itself {x = 5} (omega (arith, read_17.1)))

    manages_after : Manages (view_after (Then 17) (Put 3 5)) 7 3
    manages_after =
        record {
          user = read_17.2;
          by =
              record {
                place = 3;
                low = omega arith;
                at =
                    record {
                      is_kind = ap (λ (w : Appointment). w.kind) read_17.3;
                      is_holder = ap (λ (w : Appointment). w.holder) read_17.3;
                      covers =
                          subst
                          (λ (w : Appointment). Under (view_after (Then 17) (Put 3 5)) 3 w.a)
                          (sym read_17.3)
                          into_5;
                    };
              };
        }

-- So it was not accepted.
pub hand_over_refused : code_of (judge at_17 (record_at initial whole 17)).verdict ≡ 0 → ⊥
hand_over_refused e =
    let d : Done initial whole 17 2 (Put 3 5) =
    record { within = omega arith; by = asked_17.0; asks = asked_17.1; accepted = e } in
    (third whole).demand.no_hand_over 17 (omega arith)
    (subst (λ (n : View). HandsOver (Then 17) n 2) (sym (as_allowed initial whole sized_initial d).1) would_hand_over)

pub hand_over_unchanged : policy_at initial whole 18 ≡ policy_at initial whole 17
hand_over_unchanged = unchanged 17 (omega arith) hand_over_refused
