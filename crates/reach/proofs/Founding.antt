-- What stands on the founding's policy: one group and one user in it, one appointment, one membership, no rule; and the user owns all.
-- Read off its tables.
use mathlib.Core.Path.{◌≡◌, refl, sym, ap, ◌∙◌, subst}
use mathlib.Core.Bool.{Bool, true, false, true≢false}
use mathlib.Core.Logic.{◌⊎◌, inl, inr, ⊎_elim}
use Prim.Native.Nat.{ℕ, zero, suc, ◌<◌}
use native.Mathlib.Omega.{arith}
use lib.Dec.{ltb}
use lib.ListN.{get_or, replicate}
use borrow.Author.Tests.{eqb-true}
use Rattle.reach.specs.declared.Appointment.{Appointment}
use Rattle.reach.specs.declared.AccessRule.{AccessRule}
use Rattle.reach.specs.Words.{bit, has}
use Rattle.reach.specs.Tests.{◌⇒◌∥◌}
use Rattle.reach.specs.Tables.{counted, sort, stored, appointment, rule, no_appointment, no_rule, view, initial}
use Rattle.reach.specs.Reach.{InUse, Group, User, Direct, Under, itself, up}
use Rattle.reach.specs.Privileges.{owner, Owns}
use Rattle.reach.proofs.Bits.{bit_none, bit_one_only}
use Rattle.reach.proofs.Sorts.{counted_known}

-- A table of one value holds it everywhere.
pub repeated {ℓ} : {A : Type ℓ} (d : A) (n i : ℕ) → get_or (replicate n d) i d ≡ d
repeated d zero i = refl
repeated d (suc n) zero = refl
repeated d (suc n) (suc i) = repeated d n i

empty_sort : (t : Bool) (n : ℕ) → n ≡ 0 → (t ⇒ counted n ∥ 0) ≡ 0
empty_sort true n e = ap counted e ∙ counted_known 0 (omega arith)
empty_sort false n e = refl

-- The objects are 0, a group, and 1, a user.
pub initial_group : Group (view initial) 0
unfolding initial sort counted
initial_group = refl

pub initial_user : User (view initial) 1
unfolding initial sort counted
initial_user = refl

pub initial_in_use : (x : ℕ) → InUse (view initial) x → (x ≡ 0) ⊎ (x ≡ 1)
unfolding initial sort
initial_in_use zero i = inl refl
initial_in_use (suc zero) i = inr refl
initial_in_use (suc (suc x)) i =
    absurd (omega (arith, i, empty_sort (ltb (suc (suc x)) 64) (get_or (replicate 62 0) x 0) (repeated {A = ℕ} 0 62 x)))

pub initial_appointment : (i : ℕ) → 0 < counted ((view initial).appointment i).kind
    → (i ≡ 0) × ((view initial).appointment i ≡ record { kind = owner; holder = 1; a = 0; b = 0 })
unfolding initial appointment
initial_appointment zero s = (refl, refl)
initial_appointment (suc i) s =
    absurd
    (omega (arith, s, ap (λ (w : Appointment). counted w.kind) (repeated no_appointment 31 i), counted_known 0 (omega arith)))

pub initial_rule : (i : ℕ) → ((view initial).rule i).used ≡ true → ⊥
unfolding initial rule
initial_rule i e = true≢false (sym e ∙ ap (λ (r : AccessRule). r.used) (repeated no_rule 64 i))

-- 1 is directly in 0, and nothing else is in anything.
pub initial_stored : (view initial).stored 1 0 ≡ true
unfolding initial stored has bit
initial_stored = refl

pub initial_stored_only : (x g : ℕ) → (view initial).stored x g ≡ true → (x ≡ 1) × (g ≡ 0)
unfolding initial stored has
initial_stored_only zero g e = absurd (bit_none g (eqb-true _ _ e))
initial_stored_only (suc zero) g e = (refl, bit_one_only 0 g (eqb-true _ _ e))
initial_stored_only (suc (suc x)) g e =
    absurd (bit_none g (ap (λ (w : ℕ). bit w g) (sym (repeated {A = ℕ} 0 62 x)) ∙ eqb-true _ _ e))

pub initial_direct : (x g : ℕ) → Direct (view initial) x g → (x ≡ 1) × (g ≡ 0)
initial_direct x g d = initial_stored_only x g d.is_stored

first : (view initial).appointment 0 ≡ record { kind = owner; holder = 1; a = 0; b = 0 }
unfolding initial appointment
first = refl

pub initial_owns : (x : ℕ) → InUse (view initial) x → Owns (view initial) 1 x
initial_owns x i =
    record {
      user = initial_user;
      by =
          record {
            place = 0;
            low = omega arith;
            at = record { is_kind = held.0; is_holder = held.1; covers = under (initial_in_use x i) };
          };
    }
  where
    held : (((view initial).appointment 0).kind ≡ owner) × (((view initial).appointment 0).holder ≡ 1)
    held = (ap (λ (w : Appointment). w.kind) first, ap (λ (w : Appointment). w.holder) first)

    base : Under (view initial) 0 0
    base = let i : InUse (view initial) 0 = omega (arith, initial_group) in itself i

    under : (x ≡ 0) ⊎ (x ≡ 1) → Under (view initial) x ((view initial).appointment 0).a
    under e =
        subst
        (λ (w : Appointment). Under (view initial) x w.a)
        (sym first)
        (⊎_elim
        (λ z. subst (λ (y : ℕ). Under (view initial) y 0) (sym z) base)
        (λ o.
        subst
        (λ (y : ℕ). Under (view initial) y 0)
        (sym o)
        (up (record { object = omega (arith, initial_user); group = initial_group; is_stored = initial_stored }) base))
        e)
