-- What one holds is closed downward: whoever owns, manages or administers something has all that is under it; and PUT adds to what is
-- under g just what is under x. Both because chains can be joined.
use mathlib.Core.Logic.{◌⊎◌, ⊎_elim}
use Prim.Native.Nat.{ℕ}
use Rattle.reach.specs.Tables.{View}
use Rattle.reach.specs.Reach.{Group, Under}
use Rattle.reach.specs.Privileges.{Holds, Administers}
use Rattle.reach.specs.Changes.{view_put}
use Rattle.reach.proofs.Testing.{some_map}
use Rattle.reach.proofs.Reaching.{under_trans}
use Rattle.reach.proofs.Frames.{put_keeps, put_adds, put_adds_only}

pub holds_down : {v : View} {kind u x y : ℕ} → Holds v kind u x → Under v y x → Holds v kind u y
holds_down h l =
    record {
      user = h.user;
      by = some_map (λ i b. record { is_kind = b.is_kind; is_holder = b.is_holder; covers = under_trans l b.covers }) h.by;
    }

pub administers_down : {v : View} {u a b x y : ℕ} → Administers v u a b → Under v x a → Under v y b → Administers v u x y
administers_down h l m =
    record {
      user = h.user;
      by =
          some_map
          (λ i s.
          record {
            is_kind = s.is_kind;
            is_holder = s.is_holder;
            covers_a = under_trans l s.covers_a;
            covers_b = under_trans m s.covers_b;
          })
          h.by;
    }

-- What is under what after PUT, both ways.
pub record PutUnder (v : View) (x g y a : ℕ) : Type 0 where
  pub only : Under (view_put v x g) y a → Under v y a ⊎ (Under v y x × Under v g a)
  pub all : Under v y a ⊎ (Under v y x × Under v g a) → Under (view_put v x g) y a

pub put_under : (v : View) (x g : ℕ) → Group v g → (y a : ℕ) → PutUnder v x g y a
put_under v x g j y a =
    record { only = put_adds_only v x g; all = λ w. ⊎_elim (λ l. put_keeps v x g l) (λ l. put_adds v x g j l.0 l.1) w }
