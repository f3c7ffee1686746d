-- Demand 3: for every list from every start in which each object has an owner and every holder is a user, and so for every list from the
-- founding. The four parts from what one request keeps and does not do, along the list.
use mathlib.Core.Path.{sym, subst}
use mathlib.Core.List.{List}
use native.Mathlib.Nat.{le_refl, le_of_lt}
use native.Mathlib.Omega.{arith}
use Rattle.reach.specs.declared.Policy.{Policy}
use Rattle.reach.specs.Tables.{View, Sized, view, initial}
use Rattle.reach.specs.Reach.{User}
use Rattle.reach.proofs.Sizes.{sized_initial}
use Rattle.reach.proofs.Founding.{initial_user, initial_appointment, initial_direct, initial_rule, initial_owns}
use Rattle.rules.specs.Records.{sender}
use Rattle.reach.specs.Privileges.{Owns, Manages}
use mathlib.Core.Logic.{◌⊎◌, ⊎_elim}
use Prim.Native.Nat.{ℕ, suc, ◌<◌}
use Rattle.rules.specs.Allowing.{Gives, HandsOver, Owned, view_after}
use Rattle.rules.proofs.Steps.{Holders, step_owned, step_holders, step_no_gain, step_no_hand}
use Rattle.text.specs.Text.{Bytes}
use Rattle.list.specs.Runs.{run, before, end, record_at}
use Rattle.list.specs.Demand.{Demand3, FoundingDemand3}
use Rattle.list.proofs.Positions.{Next, did, turned_away, next, kept, as_allowed}
use Rattle.list.proofs.Tracing.{permission_line}

-- Whoever sent request i, accepted or refused, handed nothing over.
handed_over_none : (start : Policy) (list : List Bytes) (z : Sized start) → Holders (view start) → (i : ℕ) → Next start list z i
    → i < end start list → HandsOver (before start list i) (before start list (suc i)) (sender (record_at start list i)) → ⊥
handed_over_none start list z hs i (did u q d ok e) h =
    subst
    (λ (n : View). HandsOver (before start list i) n (sender (record_at start list i)) → ⊥)
    (sym e)
    (subst
    (λ (w : ℕ). HandsOver (before start list i) (view_after (before start list i) q) w → ⊥)
    (sym d.by)
    (step_no_hand (before start list i) u q ok (kept start list z Holders step_holders hs i (le_of_lt h))))
handed_over_none start list z hs i (turned_away n e) h =
    subst (λ (n : View). HandsOver (before start list i) n (sender (record_at start list i)) → ⊥) (sym e) (λ o. nothing o.comes.gain)
  where
    nothing : {v : View} {u x : ℕ} → (Owns v u x × (Owns v u x → ⊥)) ⊎ (Manages v u x × (Manages v u x → ⊥)) → ⊥
    nothing g = ⊎_elim (λ a. a.1 a.0) (λ a. a.1 a.0) g

-- The general theorem: what stood at the start is where lines end.
pub demand3 : (start : Policy) → Sized start → Owned (view start) → Holders (view start) → (list : List Bytes) → Demand3 start list
demand3 start z own hs list =
    record {
      owners = kept start list z Owned step_owned own (end start list) (le_refl (end start list));
      lines = permission_line start list z;
      no_own_gain = λ i u q d.
          let h = as_allowed start list z d in
          subst (λ (n : View). Gives (before start list i) n u → ⊥) (sym h.1) (step_no_gain (before start list i) u q h.0);
      no_hand_over = λ i h. handed_over_none start list z hs i (next start list z i h) h;
    }

-- DEMAND 3, for every list of byte strings from the founding.
pub third : (list : List Bytes) → FoundingDemand3 list
unfolding run
third list =
    record {
      demand =
          demand3
          initial
          sized_initial
          (λ x i. record { place = 1; low = omega arith; at = initial_owns x i })
          (λ i s. subst (λ w. User (view initial) w.holder) (sym (initial_appointment i s).1) initial_user)
          list;
      one_appointment = λ p s. initial_appointment p s;
      one_membership = λ x g d. initial_direct x g d;
      no_rule = λ p e. initial_rule p e;
    }
