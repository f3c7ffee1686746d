-- By PUT he comes to administer a pair exactly if some appointment of his has a side above g and not above x and he lacks the pair of x
-- and its other side. Where both sides, A and B, are above g and not above x, he lacks (x, x); so if he has (x, B) by another appointment,
-- he lacks (A, x).
use mathlib.Core.Path.{◌≡◌, refl}
use mathlib.Core.Logic.{◌⊎◌, inl, inr, ⊎_elim}
use mathlib.Core.Bool.{Bool, true, false}
use Prim.Native.Nat.{ℕ, ◌<◌}
use Rattle.reach.specs.declared.Policy.{Policy}
use Rattle.reach.specs.Tests.{Some, Decides}
use Rattle.reach.specs.Tables.{View, view}
use Rattle.reach.specs.Reach.{InUse, Group, User, Under, itself}
use Rattle.reach.specs.Privileges.{administrator, AdministersBy, Administers}
use Rattle.reach.specs.Changes.{view_put}
use Rattle.reach.proofs.Reaching.{under_trans, under_upper}
use Rattle.reach.proofs.Frames.{put_keeps, put_adds, put_adds_only}
use Rattle.reach.proofs.Testing.{refuted}
use Rattle.reach.proofs.Deciding.{administers_decides}
use Rattle.gains.specs.Lacking.{LacksA, LacksB, LacksPair}
use Rattle.gains.proofs.Downward.{administers_down}

-- A pair that he has after a change and lacked before.
pub record PairGained (v n : View) (u a b : ℕ) : Type 0 where
  pub there : InUse v a × InUse v b
  pub has : Administers n u a b
  pub lacked : Administers v u a b → ⊥

module _ (v : View) (u x g : ℕ) where
  -- An administrator's appointment of his covers what is under its sides.
  pub record His (i : ℕ) : Type 0 where
    pub low : i < 32
    pub user : User v u
    pub is_kind : (v.appointment i).kind ≡ administrator
    pub is_holder : (v.appointment i).holder ≡ u

  by_his : {i y z : ℕ} → His i → Under v y (v.appointment i).a → Under v z (v.appointment i).b → Administers v u y z
  by_his {i} h l m =
      record {
        user = h.user;
        by =
            record {
              place = i;
              low = h.low;
              at = record { is_kind = h.is_kind; is_holder = h.is_holder; covers_a = l; covers_b = m };
            };
      }

  -- An appointment with A above g, B in use, and the pair of x and B lacked; and its mirror. That A is not above x follows.
  fires_a : {i : ℕ} → His i → Under v g (v.appointment i).a → InUse v (v.appointment i).b
      → (Administers v u x (v.appointment i).b → ⊥) → LacksPair v u x g
  fires_a {i} h l o n =
      record {
        place = i;
        low = h.low;
        at =
            record {
              is_kind = h.is_kind;
              is_holder = h.is_holder;
              side = inl (record { above = l; not_above = λ m. n (by_his h m (itself o)); other = o; lacks = n });
            };
      }

  fires_b : {i : ℕ} → His i → Under v g (v.appointment i).b → InUse v (v.appointment i).a
      → (Administers v u (v.appointment i).a x → ⊥) → LacksPair v u x g
  fires_b {i} h l o n =
      record {
        place = i;
        low = h.low;
        at =
            record {
              is_kind = h.is_kind;
              is_holder = h.is_holder;
              side = inr (record { above = l; not_above = λ m. n (by_his h (itself o) m); other = o; lacks = n });
            };
      }

  -- Where both sides are new: he lacks (x, x). If he lacks (x, B), the side A of this appointment tells, and if he has it by another, the
  -- side B of that other.
  both : InUse v x → {i : ℕ} → His i → Under v g (v.appointment i).a → Under v g (v.appointment i).b
      → (Administers v u x x → ⊥) → Dec (Administers v u x (v.appointment i).b) → LacksPair v u x g
  both e h l m n (no o) = fires_a h l (under_upper m) o
  both e h l m n (yes o) =
      let s = o.by in
      fires_b
      (record { low = s.low; user = o.user; is_kind = s.at.is_kind; is_holder = s.at.is_holder })
      (under_trans m s.at.covers_b)
      (under_upper s.at.covers_a)
      (λ q. n (administers_down q s.at.covers_a (itself e)))

  -- A pair that is gained shows such an appointment. It is decided which pairs with x he has.
  pub put_gains_pair : InUse v x → ((y : ℕ) → Dec (Administers v u x y)) → {a b : ℕ} → Administers (view_put v x g) u a b
      → (Administers v u a b → ⊥) → LacksPair v u x g
  put_gains_pair e dec {a} {b} h n = go (put_adds_only v x g s.at.covers_a) (put_adds_only v x g s.at.covers_b)
    where
      s : Some 32 (AdministersBy (view_put v x g) u a b)
      s = h.by

      his : His h.by.place
      his = record { low = h.by.low; user = h.user; is_kind = h.by.at.is_kind; is_holder = h.by.at.is_holder }

      go : Under v a (v.appointment h.by.place).a ⊎ (Under v a x × Under v g (v.appointment h.by.place).a)
          → Under v b (v.appointment h.by.place).b ⊎ (Under v b x × Under v g (v.appointment h.by.place).b)
          → LacksPair v u x g
      go (inl l) (inl m) = absurd (n (by_his his l m))
      go (inr l) (inl m) = fires_a his l.1 (under_upper m) (λ q. n (administers_down q l.0 m))
      go (inl l) (inr m) = fires_b his m.1 (under_upper l) (λ q. n (administers_down q l m.0))
      go (inr l) (inr m) = both e his l.1 m.1 (λ q. n (administers_down q l.0 m.0)) (dec _)

  -- And such an appointment gives the pair of x and its other side.
  pub pair_gained_put : User v u → InUse v x → Group v g → LacksPair v u x g
      → (a : ℕ) × (b : ℕ) × PairGained v (view_put v x g) u a b
  pair_gained_put user e j w = ⊎_elim left right w.at.side
    where
      by_new : {a b : ℕ} → Under (view_put v x g) a (v.appointment w.place).a
          → Under (view_put v x g) b (v.appointment w.place).b → Administers (view_put v x g) u a b
      by_new l m =
          record {
            user = user;
            by =
                record {
                  place = w.place;
                  low = w.low;
                  at = record { is_kind = w.at.is_kind; is_holder = w.at.is_holder; covers_a = l; covers_b = m };
                };
          }

      left : LacksA v u x g (v.appointment w.place).a (v.appointment w.place).b
          → (a : ℕ) × (b : ℕ) × PairGained v (view_put v x g) u a b
      left l = (
        x,
        (v.appointment w.place).b,
        record {
          there = (e, l.other);
          has = by_new (put_adds v x g j (itself e) l.above) (put_keeps v x g (itself l.other));
          lacked = l.lacks;
        },
      )

      right : LacksB v u x g (v.appointment w.place).a (v.appointment w.place).b
          → (a : ℕ) × (b : ℕ) × PairGained v (view_put v x g) u a b
      right l = (
        (v.appointment w.place).a,
        x,
        record {
          there = (l.other, e);
          has = by_new (put_keeps v x g (itself l.other)) (put_adds v x g j (itself e) l.above);
          lacked = l.lacks;
        },
      )

-- A test that decides gives a decision.
pub decided : {P : Type 0} (t : Bool) → Decides t P → Dec P
decided true d = yes (d.sound refl)
decided false d = no (refuted d refl)

pub administers_decided : (p : Policy) (u a b : ℕ) → Dec (Administers (view p) u a b)
administers_decided p u a b = decided _ (administers_decides p u a b)
