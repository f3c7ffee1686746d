-- Lines are tight: what has a line stands. An appointment with a line to request i is at its place just before request i, and so are a
-- membership and a rule with theirs: nothing undid them since they were put there, and nothing else can.
use mathlib.Core.Path.{◌≡◌, sym, subst}
use mathlib.Core.Bool.{true}
use mathlib.Core.Logic.{◌⊎◌, inl, inr}
use mathlib.Core.List.{List}
use Prim.Native.Nat.{ℕ, zero, suc, ◌≤◌, ◌<◌}
use native.Mathlib.Nat.{eq-or-lt_of_le, le_of_suc-le-suc, le_refl}
use native.Mathlib.Omega.{arith}
use Rattle.reach.specs.declared.Policy.{Policy}
use Rattle.reach.specs.declared.Appointment.{Appointment}
use Rattle.reach.specs.declared.AccessRule.{AccessRule}
use Rattle.reach.specs.Tables.{View, Sized}
use Rattle.reach.specs.Reach.{Direct}
use Rattle.rules.specs.declared.Request.{Request}
use Rattle.rules.specs.declared.Request.TheVariants.{Take, Dismiss, Withdraw}
use Rattle.rules.specs.Allowing.{Standing, Allowed, view_after}
use Rattle.rules.proofs.Staying.{appointment_stays, rule_stays, direct_stays, appointing_appoints, granting_grants, made_in, put_in}
use Rattle.text.specs.Text.{Bytes}
use Rattle.list.specs.Runs.{before, end, Done, NotDone}
use Rattle.list.specs.Lines.{AppointmentLine, MembershipLine, RuleLine}
use Rattle.list.proofs.Positions.{Next, did, turned_away, next, as_allowed}

module _ (start : Policy) (list : List Bytes) (sized : Sized start) where
  abbrev Then : ℕ → View
  Then = before start list

  abbrev Did : ℕ → ℕ → Request → Type 0
  Did = Done start list

  -- What holds at lo, and what every allowed request but the one that undoes it keeps, holds at hi.
  stays : (P : View → Type 0) (undo : Request)
      → ((v : View) (u : ℕ) (q : Request) → Allowed v u q → (q ≡ undo → ⊥) → P v → P (view_after v q))
      → (lo hi : ℕ) → lo ≤ hi → hi ≤ end start list → NotDone start list undo lo hi → P (Then lo) → P (Then hi)
  stays P undo keep lo zero l h n x = let e : lo ≡ 0 = omega arith in subst (λ (k : ℕ). P (Then k)) e x
  stays P undo keep lo (suc hi) l h n x =
      go (eq-or-lt_of_le l) (λ m. stays P undo keep lo hi m (omega arith) (λ k u a b. n k u a (omega arith)) x)
    where
      step : P (Then hi) → lo ≤ hi → Next start list sized hi → P (Then (suc hi))
      step y m (did u q d ok e) =
          subst P (sym e)
          (keep (Then hi) u q ok (λ z. n hi u m (le_refl (suc hi)) (subst (Did hi u) z d)) y)
      step y m (turned_away t e) = subst P (sym e) y

      go : (lo ≡ suc hi) ⊎ (lo < suc hi) → (lo ≤ hi → P (Then hi)) → P (Then (suc hi))
      go (inl e) again = subst (λ (k : ℕ). P (Then k)) e x
      go (inr m) again = let m' : lo ≤ hi = le_of_suc-le-suc m in step (again m') m' (next start list sized hi h)

  -- What an accepted request leaves.
  left : (P : View → Type 0) {j u : ℕ} {q : Request} → Did j u q → ((v : View) → Allowed v u q → P (view_after v q)) → P (Then (suc j))
  left P {j} d f = let h = as_allowed start list sized d in subst P (sym h.1) (f (Then j) h.0)

  -- The appointment at p is w, and stands.
  abbrev Holds : ℕ → Appointment → View → Type 0
  Holds p w v = (v.appointment p ≡ w) × Standing w

  pub appointment_holds : {i p : ℕ} {w : Appointment} → i ≤ end start list → AppointmentLine start list i p w → Holds p w (Then i)
  appointment_holds {i} {p} {w} h (AppointmentLine.stood e s n) =
      stays (Holds p w) (Dismiss p) (λ v u q ok m x. appointment_stays v u q p w ok m x) 0 i (omega arith) h n (e, s)
  appointment_holds {i} {p} {w} h (AppointmentLine.from_owner j u l d n k o z) =
      stays (Holds p w) (Dismiss p) (λ v u q ok m x. appointment_stays v u q p w ok m x) (suc j) i l h n
      (left (Holds p w) d (λ v ok. appointing_appoints v _ p w ok))
  appointment_holds {i} {p} {w} h (AppointmentLine.from_manager j u l d n k a z b y) =
      stays (Holds p w) (Dismiss p) (λ v u q ok m x. appointment_stays v u q p w ok m x) (suc j) i l h n
      (left (Holds p w) d (λ v ok. appointing_appoints v _ p w ok))

  pub membership_holds : {i x g : ℕ} → i ≤ end start list → MembershipLine start list i x g → Direct (Then i) x g
  membership_holds {i} {x} {g} h (MembershipLine.stood d n) =
      stays (λ v. Direct v x g) (Take x g) (λ v u q ok m d. direct_stays v u q x g ok m d) 0 i (omega arith) h n d
  membership_holds {i} {x} {g} h (MembershipLine.by_make j u s l d n z) =
      stays (λ v. Direct v x g) (Take x g) (λ v u q ok m d. direct_stays v u q x g ok m d) (suc j) i l h n
      (left (λ v. Direct v x g) d (λ v ok. made_in v _ x s g ok))
  membership_holds {i} {x} {g} h (MembershipLine.by_put j u l d n z y) =
      stays (λ v. Direct v x g) (Take x g) (λ v u q ok m d. direct_stays v u q x g ok m d) (suc j) i l h n
      (left (λ v. Direct v x g) d (λ v ok. put_in v _ x g ok))

  pub rule_holds : {i p : ℕ} {r : AccessRule} → i ≤ end start list → r.used ≡ true → RuleLine start list i p r → (Then i).rule p ≡ r
  rule_holds {i} {p} {r} h s (RuleLine.stood e _ n) =
      stays (λ v. v.rule p ≡ r) (Withdraw p) (λ v u q ok m x. rule_stays v u q p r s ok m x) 0 i (omega arith) h n e
  rule_holds {i} {p} {r} h s (RuleLine.by_grant j u l d n o z) =
      stays (λ v. v.rule p ≡ r) (Withdraw p) (λ v u q ok m x. rule_stays v u q p r s ok m x) (suc j) i l h n
      (left (λ v. v.rule p ≡ r) d (λ v ok. granting_grants v _ p r s ok))
