-- Where x is under g already, a PUT of x into g gives nothing: x is under all that g is under.
use mathlib.Core.Logic.{inl, inr, ⊎_elim}
use Prim.Native.Nat.{ℕ}
use Rattle.reach.specs.Tables.{View}
use Rattle.reach.specs.Reach.{User, Under}
use Rattle.reach.proofs.Reaching.{under_trans}
use Rattle.gains.specs.Lacking.{LacksHeld, LacksPair, LacksOver, UnderPut, LacksPermit, LacksPut}
use Rattle.gains.proofs.Downward.{holds_down}
use Rattle.gains.proofs.PutGives.{none_lacks_put}

module _ {v : View} {x g : ℕ} (under : Under v x g) where
  held_again : {kind who : ℕ} → LacksHeld v kind who x g → ⊥
  held_again l = l.lacks (holds_down l.has under)

  pair_again : {u : ℕ} → LacksPair v u x g → ⊥
  pair_again l =
      ⊎_elim (λ a. a.not_above (under_trans under a.above)) (λ b. b.not_above (under_trans under b.above)) l.at.side

  covered : {y a : ℕ} → UnderPut v x g y a → Under v y a
  covered (inl c) = c
  covered (inr c) = under_trans c.0 (under_trans under c.1)

  permit_again : {u : ℕ} → User v u → LacksPermit v u x g → ⊥
  permit_again user l =
      l.lacks
      (record {
        user = user;
        target = l.target;
        number = l.number;
        by =
            record {
              place = l.place;
              low = l.low;
              at =
                  record {
                    used = l.used;
                    operation = l.has;
                    covers_user = covered l.covers_user;
                    covers_target = covered l.covers_gear;
                  };
            };
      })

  -- He gains nothing,
  pub put_again_gains : {u : ℕ} → User v u → LacksPut v u x g → ⊥
  put_again_gains user = none_lacks_put (λ l. held_again l) (λ l. held_again l) (λ l. pair_again l) (permit_again user)

  -- and nothing is handed over.
  pub put_again_hands : {u : ℕ} → LacksOver v u x g → ⊥
  put_again_hands l = ⊎_elim (λ h. held_again h) (λ h. held_again h) l.lacks
