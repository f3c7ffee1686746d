-- By PUT somebody comes to own something exactly if he owns g and not x, to manage likewise, and x is what he comes to hold; and PUT hands
-- something over exactly if it hands over x. PUT adds to who has g just what is under x, and what one holds is closed downward.
use mathlib.Core.Logic.{inl, inr, ⊎_elim}
use Prim.Native.Nat.{ℕ}
use Rattle.reach.specs.Tables.{View}
use Rattle.reach.specs.Reach.{InUse, Group, itself}
use Rattle.reach.specs.Privileges.{Holds, Owns}
use Rattle.reach.specs.Changes.{view_put}
use Rattle.reach.proofs.Carrying.{holds_put, holds_put_new}
use Rattle.rules.specs.Allowing.{HandsOver}
use Rattle.gains.specs.Lacking.{LacksHeld, LacksOver}
use Rattle.gains.proofs.Downward.{holds_down}

module _ (v : View) (x g : ℕ) where
  -- What is gained is under x, and shows that he holds g and lacks x.
  pub put_gains_held : {kind u y : ℕ} → Holds (view_put v x g) kind u y → (Holds v kind u y → ⊥) → LacksHeld v kind u x g
  put_gains_held h n =
      ⊎_elim
      (λ o. absurd (n o))
      (λ l. record { has = l.1; lacks = λ o. n (holds_down o l.0) })
      (holds_put v x g h)

  pub put_holds_x : {kind u : ℕ} → InUse v x → Group v g → LacksHeld v kind u x g → Holds (view_put v x g) kind u x
  put_holds_x i j l = holds_put_new v x g j (itself i) l.has

  -- ---- Hand-over

  pub put_hands_over : {u : ℕ} → HandsOver v (view_put v x g) u → LacksOver v u x g
  put_hands_over {u} h =
      record {
        not_own = λ o. ⊎_elim (λ z. not_x z.0 z.1 o) (λ z. not_x z.0 z.1 o) h.comes.gain;
        who = h.who;
        lacks =
            ⊎_elim (λ z. inl (put_gains_held z.0 z.1)) (λ z. inr (put_gains_held z.0 z.1)) h.comes.gain;
      }
    where
      not_x : {kind : ℕ} → Holds (view_put v x g) kind h.who h.what → (Holds v kind h.who h.what → ⊥)
          → Owns v u x → ⊥
      not_x a n o = ⊎_elim n (λ l. h.not_own (holds_down o l.0)) (holds_put v x g a)

  pub hands_over_put : {u : ℕ} → InUse v x → Group v g → LacksOver v u x g → HandsOver v (view_put v x g) u
  hands_over_put i j l =
      record {
        who = l.who;
        what = x;
        comes =
            record {
              there = i;
              gain = ⊎_elim (λ a. inl (put_holds_x i j a, a.lacks)) (λ a. inr (put_holds_x i j a, a.lacks)) l.lacks;
            };
        not_own = l.not_own;
      }
