-- What a user holds over two objects, told by the single tables at once: each part is the test of the policy's own question.
use mathlib.Core.Path.{◌≡◌, refl, sym}
use mathlib.Core.Bool.{Bool, true, false, not, ◌&&◌}
use Prim.Native.Nat.{ℕ}
use lib.Bits.{bit_and}
use lib.Dec.{eqb}
use lib.ListN.{get_or}
use Rattle.reach.specs.declared.Policy.{Policy}
use Rattle.reach.specs.Words.{SetOf}
use Rattle.reach.specs.Tests.{Some, Decides}
use Rattle.reach.specs.Tables.{no_appointment, view}
use Rattle.reach.specs.Reach.{User, direct}
use Rattle.reach.specs.Privileges.{owner, manager, owns, manages, administers}
use Rattle.reach.specs.Asking.{UnderBy, AppointedOver, CoversPair, held_of}
use Rattle.reach.proofs.Testing.{decides_same, fails, refuted}
use Rattle.reach.proofs.Deciding.{holds_decides, administers_decides}
use Rattle.reach.proofs.Meeting.{climbed, over_held, holds_meets, pair_covered}

module _ (p : Policy) (u x y : ℕ) where
  -- The answers, each that of its question.
  held_is : {a b c d e f : Bool} → a ≡ owns p u x → b ≡ manages p u x → c ≡ owns p u y → d ≡ manages p u y → e ≡ administers p u x y
      → f ≡ direct p x y
      → record {
        first = record { owned = a; managed = b };
        second = record { owned = c; managed = d };
        pair = e;
        direct = f;
      }
      ≡ held_of p u x y
  held_is a b c d e f = λ t.
      record {
        first = record { owned = a t; managed = b t };
        second = record { owned = c t; managed = d t };
        pair = e t;
        direct = f t;
      }

  -- Who is no user holds nothing.
  pub held_none : {d : Bool} → (User (view p) u → ⊥) → d ≡ direct p x y
      → record {
        first = record { owned = false; managed = false };
        second = record { owned = false; managed = false };
        pair = false;
        direct = d;
      }
      ≡ held_of p u x y
  held_none n e =
      held_is
      (sym (fails _ (holds_decides _ _ _ _) (λ h. n h.user)))
      (sym (fails _ (holds_decides _ _ _ _) (λ h. n h.user)))
      (sym (fails _ (holds_decides _ _ _ _) (λ h. n h.user)))
      (sym (fails _ (holds_decides _ _ _ _) (λ h. n h.user)))
      (sym (fails _ (administers_decides _ _ _ _) (λ h. n h.user)))
      e

  -- What a user holds is what he is appointed over, met with what each object is under, and the pair that one appointment covers.
  pub held_some : {o m a b : ℕ} {c d : Bool} → User (view p) u
      → SetOf o (AppointedOver p.appointments owner u) → SetOf m (AppointedOver p.appointments manager u)
      → SetOf a (λ g. UnderBy p.sorts p.memberships x g) → SetOf b (λ g. UnderBy p.sorts p.memberships y g)
      → Decides c (Some 32 (λ i. CoversPair (get_or p.appointments i no_appointment) u a b)) → d ≡ direct p x y
      → record {
        first = record { owned = not (eqb (bit_and o a) 0); managed = not (eqb (bit_and m a) 0) };
        second = record { owned = not (eqb (bit_and o b) 0); managed = not (eqb (bit_and m b) 0) };
        pair = c;
        direct = d;
      }
      ≡ held_of p u x y
  held_some user h k s t covered e =
      let ours = over_held p user h in
      let theirs = over_held p user k in
      let over = climbed p s in
      let other = climbed p t in
      held_is
      (decides_same _ _ (holds_meets p ours over) (holds_decides _ _ _ _))
      (decides_same _ _ (holds_meets p theirs over) (holds_decides _ _ _ _))
      (decides_same _ _ (holds_meets p ours other) (holds_decides _ _ _ _))
      (decides_same _ _ (holds_meets p theirs other) (holds_decides _ _ _ _))
      (pair_covered p user over _ other covered)
      e

  -- So it is whoever asks: the test of u tells which.
  pub held_by : {t : Bool} {o m a b : ℕ} {c d : Bool} → Decides t (User (view p) u)
      → SetOf o (AppointedOver p.appointments owner u) → SetOf m (AppointedOver p.appointments manager u)
      → SetOf a (λ g. UnderBy p.sorts p.memberships x g) → SetOf b (λ g. UnderBy p.sorts p.memberships y g)
      → Decides c (Some 32 (λ i. CoversPair (get_or p.appointments i no_appointment) u a b)) → d ≡ direct p x y
      → record {
        first = record { owned = t && not (eqb (bit_and o a) 0); managed = t && not (eqb (bit_and m a) 0) };
        second = record { owned = t && not (eqb (bit_and o b) 0); managed = t && not (eqb (bit_and m b) 0) };
        pair = t && c;
        direct = d;
      }
      ≡ held_of p u x y
  held_by {t = true} e h k l r covered f = held_some (e.sound refl) h k l r covered f
  held_by {t = false} e h k l r covered f = held_none (refuted e refl) f
