-- What fits stays fitting, table by table, where no object in use changes its sort; and what a request writes fits.
-- Every question of soundness is one of sorts: MAKE fills an empty place only, and no other request writes a sort.
use mathlib.Core.Path.{◌≡◌, refl, sym, ◌∙◌, subst}
use mathlib.Core.Bool.{Bool, true, false, ◌&&◌, false≢true}
use mathlib.Core.Logic.{⊎_elim}
use Prim.Native.Nat.{ℕ, ◌<◌}
use native.Mathlib.Omega.{arith}
use lib.Dec.{eqb}
use borrow.Author.Tests.{eqb-true}
use Rattle.reach.specs.declared.Appointment.{Appointment}
use Rattle.reach.specs.declared.AccessRule.{AccessRule}
use Rattle.reach.specs.Tests.{◌⇒◌∥◌}
use Rattle.reach.specs.Tables.{View, counted}
use Rattle.reach.specs.Reach.{InUse, Group, User}
use Rattle.reach.specs.Changes.{view_made, view_put, view_taken, view_appointed, view_ruled}
use Rattle.reach.proofs.Testing.{written-cases}
use Rattle.rules.specs.Allowing.{Appointable}
use Rattle.soundness.specs.Soundness.{Grantable, AppointmentFits, RuleFits, MembersFit, AppointmentsFit, RulesFit}

-- ---- What fits stays fitting where sorts stay

-- No object in use changes its sort.
abbrev pub SortsStay : View → View → Type 0
SortsStay v n = (x : ℕ) → InUse v x → n.sort x ≡ v.sort x

module _ (v n : View) (stay : SortsStay v n) where
  used_stays : (x : ℕ) → InUse v x → InUse n x
  used_stays x i = omega (arith, stay x i, i)

  group_stays : (g : ℕ) → Group v g → Group n g
  group_stays g e = stay g (omega (arith, e)) ∙ e

  user_stays : (u : ℕ) → User v u → User n u
  user_stays u e = stay u (omega (arith, e)) ∙ e

  -- What APPOINT and GRANT could ask for before, they can after.
  pub appointable_stays : {k h a b : ℕ} → Appointable v k h a b → Appointable n k h a b
  appointable_stays f =
      record {
        known = f.known;
        holder = user_stays _ f.holder;
        group_a = group_stays _ f.group_a;
        group_b = λ e. group_stays _ (f.group_b e);
        unread_b = f.unread_b;
      }

  pub grantable_stays : (r : AccessRule) → Grantable v r → Grantable n r
  grantable_stays r f =
      record {
        group_users = group_stays _ f.group_users;
        group_targets = group_stays _ f.group_targets;
        some_operation = f.some_operation;
      }

-- ---- Tables that a change writes

-- An appointment, or a rule, that is written at a place fits: all of the table does, where the rest did.
pub appointed_fits : (v : View) (i : ℕ) (w : Appointment) → AppointmentFits v w → AppointmentsFit v
    → AppointmentsFit (view_appointed v i w)
appointed_fits v i w new old j =
    ⊎_elim
    (λ e. subst (AppointmentFits (view_appointed v i w)) (sym e.1) (λ s. appointable_stays v _ (λ x u. refl) (new s)))
    (λ e. subst (AppointmentFits (view_appointed v i w)) (sym e.1) (λ s. appointable_stays v _ (λ x u. refl) (old j s)))
    (written-cases w (v.appointment j) j i)

pub ruled_fits : (v : View) (i : ℕ) (r : AccessRule) → RuleFits v r → RulesFit v → RulesFit (view_ruled v i r)
ruled_fits v i r new old j =
    ⊎_elim
    (λ e. subst (RuleFits (view_ruled v i r)) (sym e.1) (λ s. grantable_stays v _ (λ x u. refl) _ (new s)))
    (λ e. subst (RuleFits (view_ruled v i r)) (sym e.1) (λ s. grantable_stays v _ (λ x u. refl) _ (old j s)))
    (written-cases r (v.rule j) j i)

-- A membership that is added fits; to take one away needs nothing.
pub put_fits : (v : View) (x g : ℕ) → InUse v x → Group v g → MembersFit v → MembersFit (view_put v x g)
put_fits v x g i k old y h = go (eqb y x) (eqb h g) refl refl
  where
    go : (s t : Bool) → eqb y x ≡ s → eqb h g ≡ t → (s && t ⇒ true ∥ v.stored y h) ≡ true → InUse v y × Group v h
    go true true p q e = (subst (InUse v) (sym (eqb-true y x p)) i, subst (Group v) (sym (eqb-true h g q)) k)
    go true false p q e = old y h e
    go false t p q e = old y h e

pub taken_fits : (v : View) (x g : ℕ) → MembersFit v → MembersFit (view_taken v x g)
taken_fits v x g old y h = go (eqb y x && eqb h g)
  where
    go : (t : Bool) → (t ⇒ false ∥ v.stored y h) ≡ true → InUse v y × Group v h
    go true e = absurd (false≢true e)
    go false e = old y h e

-- MAKE fills an empty place, and so changes no sort of an object in use; the one membership that it stores is of the new object.
pub made_stays : (v : View) (i s g : ℕ) → v.sort i ≡ 0 → SortsStay v (view_made v i s g)
made_stays v i s g free x u =
    ⊎_elim
    (λ e. absurd (omega (arith, u, subst (λ (y : ℕ). v.sort y ≡ 0) (sym e.0) free)))
    (λ e. e.1)
    (written-cases (counted s) (v.sort x) x i)

pub made_fits : (v : View) (i s g : ℕ) → v.sort i ≡ 0 → 0 < counted s → Group v g → MembersFit v → MembersFit (view_made v i s g)
made_fits v i s g free c k old y h = go (eqb y i) (eqb h i) refl refl
  where
    n : View
    n = view_made v i s g

    st : SortsStay v n
    st = made_stays v i s g free

    go : (a b : Bool) → eqb y i ≡ a → eqb h i ≡ b → (a ⇒ eqb h g ∥ b ⇒ false ∥ v.stored y h) ≡ true → InUse n y × Group n h
    go true b p q e = (
      rw (p) c,
      subst (Group n) (sym (eqb-true h g e)) (group_stays v n st g k),
    )
    go false true p q e = absurd (false≢true e)
    go false false p q e = let w = old y h e in (used_stays v n st y w.0, group_stays v n st h w.1)
