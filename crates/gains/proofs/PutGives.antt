-- PUT gives its sender something exactly if he holds g and not x in one of the two ways, or lacks a pair with x, or lacks a permission
-- that a rule has for him once x is in g. By the laws of what is held and of pairs.
use Prim.Native.Nat.{ℕ}
use native.Mathlib.Omega.{arith}
use Rattle.reach.specs.declared.Policy.{Policy}
use Rattle.reach.specs.Tables.{View, view}
use Rattle.reach.specs.Reach.{InUse, Group, User}
use Rattle.reach.specs.Privileges.{owner, manager, Administers, Permitted}
use Rattle.reach.specs.Changes.{view_put}
use Rattle.rules.specs.Allowing.{Privilege, owning, managing, administering, permission, Has, Gives}
use Rattle.gains.specs.Lacking.{LacksHeld, LacksPair, LacksPermit, LacksPut, held_owner, held_manager, pair, permit}
use Rattle.gains.proofs.Downward.{put_under}
use Rattle.gains.proofs.PutHeld.{put_gains_held, put_holds_x}
use Rattle.gains.proofs.PutPair.{put_gains_pair, pair_gained_put, administers_decided}

module _ (v : View) (u x g : ℕ) (user : User v u) (i : InUse v x) (j : Group v g) where
  pub put_gains_permit : {k y : ℕ} → Permitted (view_put v x g) u k y → (Permitted v u k y → ⊥) → LacksPermit v u x g
  put_gains_permit {k} {y} h n =
      record {
        place = h.by.place;
        low = h.by.low;
        used = h.by.at.used;
        operation = k;
        number = h.number;
        has = h.by.at.operation;
        gear = y;
        target = h.target;
        covers_user = (put_under v x g j _ _).only h.by.at.covers_user;
        covers_gear = (put_under v x g j _ _).only h.by.at.covers_target;
        lacks = n;
      }

  pub permitted_put : (l : LacksPermit v u x g) → Permitted (view_put v x g) u l.operation l.gear
  permitted_put l =
      record {
        user = user;
        target = l.target;
        number = l.number;
        by =
            record {
              place = l.place;
              low = l.low;
              at =
                  record {
                    used = l.used;
                    operation = l.has;
                    covers_user = (put_under v x g j _ _).all l.covers_user;
                    covers_target = (put_under v x g j _ _).all l.covers_gear;
                  };
            };
      }

  pub put_gives : ((y : ℕ) → Dec (Administers v u x y)) → Gives v (view_put v x g) u → LacksPut v u x g
  put_gives dec w = go w.what w.has w.lacked
    where
      go : (p : Privilege) → Has (view_put v x g) u p → (Has v u p → ⊥) → LacksPut v u x g
      go (owning y) h n = held_owner (put_gains_held v x g h n)
      go (managing y) h n = held_manager (put_gains_held v x g h n)
      go (administering a b) h n = pair (put_gains_pair v u x g i dec h n)
      go (permission k y) h n = permit (put_gains_permit h n)

  pub gives_put : LacksPut v u x g → Gives v (view_put v x g) u
  gives_put (held_owner l) = record { what = owning x; there = i; has = put_holds_x v x g i j l; lacked = l.lacks }
  gives_put (held_manager l) = record { what = managing x; there = i; has = put_holds_x v x g i j l; lacked = l.lacks }
  gives_put (pair l) =
      let w = pair_gained_put v u x g user i j l in
      record { what = administering w.0 w.1; there = w.2.there; has = w.2.has; lacked = w.2.lacked }
  gives_put (permit l) =
      record {
        what = permission l.operation l.gear;
        there = omega (arith, l.target);
        has = permitted_put l;
        lacked = l.lacks;
      }

-- On a policy it is decided which pairs he has.
pub policy_put_gives : (p : Policy) (u x g : ℕ) → User (view p) u → InUse (view p) x → Group (view p) g
    → Gives (view p) (view_put (view p) x g) u → LacksPut (view p) u x g
policy_put_gives p u x g user i j w = put_gives (view p) u x g user i j (administers_decided p u x) w

-- None of the four ways.
pub none_lacks_put : {v : View} {u x g : ℕ} → (LacksHeld v owner u x g → ⊥) → (LacksHeld v manager u x g → ⊥) → (LacksPair v u x g → ⊥)
    → (LacksPermit v u x g → ⊥) → LacksPut v u x g → ⊥
none_lacks_put a b c d (held_owner l) = a l
none_lacks_put a b c d (held_manager l) = b l
none_lacks_put a b c d (pair l) = c l
none_lacks_put a b c d (permit l) = d l
