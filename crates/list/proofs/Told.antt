-- What lines in the first thirteen records of the sample say, record by record, back to the founding: those of the appointments at places 0,
-- 1 and 2, of the rule at 0, and of 3 in 4 and 6 in 5. Each is the only one, as no other record and no other place could stand in it.
use mathlib.Core.Path.{◌≡◌, sym, ap, ◌∙◌, subst}
use Prim.Native.Nat.{ℕ}
use native.Mathlib.Omega.{arith}
use Rattle.reach.specs.declared.Appointment.{Appointment}
use Rattle.reach.specs.declared.AccessRule.{AccessRule}
use Rattle.reach.specs.Tables.{initial}
use Rattle.reach.specs.Privileges.{owner}
use Rattle.rules.specs.declared.Request.TheVariants.{Make, Put}
use Rattle.rules.specs.Allowing.{Standing, appointing, granting}
use Rattle.list.specs.Runs.{before, Done}
use Rattle.list.specs.Lines.{AppointmentLine, GovernsLine, MembershipLine, RuleLine}
use Rattle.list.specs.Telling.{Appointing, Membership, Granting, tell_appointing, tell_governing, tell_membership, tell_granting}
use Rattle.list.proofs.Demanded.{third}
use Rattle.list.proofs.Example.{thirteen}
use Rattle.list.proofs.Thirteen.{manager_2, administrator_3, no_appoint_0, only_appoint_1, only_appoint_2, only_grant_0}
use Rattle.list.proofs.Thirteen.{only_put_3_4, no_make_3_4, only_make_6_5, no_put_6_5, owner_place_6, manager_place_7, owner_place_4}
use Rattle.list.proofs.Thirteen.{not_manager_4, manager_place_11, not_owner_11, administrator_place_8}

-- ---- The posts

-- The founder's: the owner's appointment of 1 at place 0 stood at the founding.
abbrev pub founder's : Appointing
founder's = Appointing.stood 0 (record { kind = owner; holder = 1; a = 0; b = 0 })

-- The manager's: record 6, by 1, who owned 0 by the founder's.
abbrev pub manager's : Appointing
manager's = Appointing.by_owner 1 manager_2 6 1 founder's

-- The administrator's: record 7, by 2, who managed 4 and 5, each by the manager's.
abbrev pub administrator's : Appointing
administrator's = Appointing.by_manager 2 administrator_3 7 2 manager's manager's

-- What stood at the founding with a line is the founder's.
founding : {p : ℕ} {w : Appointment} → (before initial thirteen 0).appointment p ≡ w → Standing w
    → (p ≡ 0) × (w ≡ record { kind = owner; holder = 1; a = 0; b = 0 })
founding {p} e s = let o = (third thirteen).one_appointment p (subst Standing (sym e) s) in (o.0, sym e ∙ o.1)

module _ {i p : ℕ} {w : Appointment} where
  told_0 : p ≡ 0 → (l : AppointmentLine initial thirteen i p w) → tell_appointing l ≡ founder's
  unfolding tell_appointing
  told_0 z (AppointmentLine.stood e s n) = let o = founding e s in let a = o.0 in let b = o.1 in cc
  told_0 z (AppointmentLine.from_owner j u l d n k o y) =
      absurd (no_appoint_0 w (subst (λ (q : ℕ). Done initial thirteen j u (appointing q w)) z d))
  told_0 z (AppointmentLine.from_manager j u l d n k a x b y) =
      absurd (no_appoint_0 w (subst (λ (q : ℕ). Done initial thirteen j u (appointing q w)) z d))

module _ {i p : ℕ} {w : Appointment} where
  told_1 : p ≡ 1 → (l : AppointmentLine initial thirteen i p w) → tell_appointing l ≡ manager's
  unfolding tell_appointing
  told_1 z (AppointmentLine.stood e s n) = absurd (omega (arith, z, (founding e s).0))
  told_1 z (AppointmentLine.from_owner j u l d n k o y) =
      let a = only_appoint_1 w (subst (λ (q : ℕ). Done initial thirteen j u (appointing q w)) z d) in
      let a0 = a.0 in
      let a1 = a.1 in
      let a2 = a.2 in
      let t = told_0 (owner_place_6 a0 a1 o) y in
      cc
  told_1 z (AppointmentLine.from_manager j u l d n k a x b y) =
      let c = only_appoint_1 w (subst (λ (q : ℕ). Done initial thirteen j u (appointing q w)) z d) in
      absurd (omega (arith, k, ap (λ (v : Appointment). v.kind) c.2))

module _ {i p : ℕ} {w : Appointment} where
  told_2 : p ≡ 2 → (l : AppointmentLine initial thirteen i p w) → tell_appointing l ≡ administrator's
  unfolding tell_appointing
  told_2 z (AppointmentLine.stood e s n) = absurd (omega (arith, z, (founding e s).0))
  told_2 z (AppointmentLine.from_owner j u l d n k o y) =
      let c = only_appoint_2 w (subst (λ (q : ℕ). Done initial thirteen j u (appointing q w)) z d) in
      absurd (k (ap (λ (v : Appointment). v.kind) c.2))
  told_2 z (AppointmentLine.from_manager j u l d n k a x b y) =
      let c = only_appoint_2 w (subst (λ (q : ℕ). Done initial thirteen j u (appointing q w)) z d) in
      let c0 = c.0 in
      let c1 = c.1 in
      let c2 = c.2 in
      let s = told_1 (manager_place_7 c0 c1 a) x in
      let t = told_1 (manager_place_7 c0 c1 b) y in
      cc

-- ---- The rule

-- The rule of U 4, T 5 and set 6 at place 0: record 8, by 3, who administered (4, 5) by the administrator's.
abbrev pub rule_0 : Granting
rule_0 = Granting.granted 0 4 5 6 8 3 administrator's

pub rule_told : {i p : ℕ} {r : AccessRule} → p ≡ 0 → (l : RuleLine initial thirteen i p r) → tell_granting l ≡ rule_0
unfolding tell_granting
rule_told {i} {p} {r} z (RuleLine.stood e s n) =
    absurd ((third thirteen).no_rule p (ap (λ (t : AccessRule). t.used) e ∙ s))
rule_told {i} {p} {r} z (RuleLine.by_grant j u l d n o y) =
    let c = only_grant_0 r (subst (λ (q : ℕ). Done initial thirteen j u (granting q r)) z d) in
    let c0 = c.0 in
    let c1 = c.1 in
    let c2 = c.2 in
    let c3 = c.3 in
    let c4 = c.4 in
    let t = told_2 (administrator_place_8 c0 c1 o) y in
    cc

-- ---- The memberships

governing_11 : {j u x : ℕ} → j ≡ 11 → u ≡ 2 → (l : GovernsLine initial thirteen j u x) → tell_governing l ≡ manager's
unfolding tell_governing
governing_11 e f (GovernsLine.as_owner o l) = absurd (not_owner_11 e f o)
governing_11 e f (GovernsLine.as_manager o l) = told_1 (manager_place_11 e f o) l

governing_4 : {j u x : ℕ} → j ≡ 4 → u ≡ 1 → (l : GovernsLine initial thirteen j u x) → tell_governing l ≡ founder's
unfolding tell_governing
governing_4 e f (GovernsLine.as_owner o l) = told_0 (owner_place_4 e f o) l
governing_4 e f (GovernsLine.as_manager o l) = absurd (not_manager_4 e f o)

-- 3 is in 4 by record 11, a PUT by 2, who managed both.
abbrev pub 3-in-4 : Membership
3-in-4 = Membership.put 3 4 11 2 manager's manager's

-- 6 is in 5 by record 4, a MAKE by 1, who owned 5.
abbrev pub 6-in-5 : Membership
6-in-5 = Membership.made 6 5 4 1 founder's

pub told_3_4 : {i x g : ℕ} → x ≡ 3 → g ≡ 4 → (l : MembershipLine initial thirteen i x g) → tell_membership l ≡ 3-in-4
unfolding tell_membership
told_3_4 {i} {x} {g} e f (MembershipLine.stood d n) = let h : x ≡ 1 = ((third thirteen).one_membership x g d).0 in absurd (omega arith)
told_3_4 {i} {x} {g} e f (MembershipLine.by_make j u s l d n y) =
    let d' : Done initial thirteen j u (Make 3 s 4) = rw (e, f) at d in absurd (no_make_3_4 d')
told_3_4 {i} {x} {g} e f (MembershipLine.by_put j u l d n y z) =
    let d' : Done initial thirteen j u (Put 3 4) = rw (e, f) at d in
    let c = only_put_3_4 d' in
    let c0 = c.0 in
    let c1 = c.1 in
    let s = governing_11 c0 c1 y in
    let t = governing_11 c0 c1 z in
    cc

pub told_6_5 : {i x g : ℕ} → x ≡ 6 → g ≡ 5 → (l : MembershipLine initial thirteen i x g) → tell_membership l ≡ 6-in-5
unfolding tell_membership
told_6_5 {i} {x} {g} e f (MembershipLine.stood d n) = let h : g ≡ 0 = ((third thirteen).one_membership x g d).1 in absurd (omega arith)
told_6_5 {i} {x} {g} e f (MembershipLine.by_make j u s l d n y) =
    let d' : Done initial thirteen j u (Make 6 s 5) = rw (e, f) at d in
    let c = only_make_6_5 d' in
    let c0 = c.0 in
    let c1 = c.1 in
    let t = governing_4 c0 c1 y in
    cc
told_6_5 {i} {x} {g} e f (MembershipLine.by_put j u l d n y z) =
    let d' : Done initial thirteen j u (Put 6 5) = rw (e, f) at d in absurd (no_put_6_5 d')
