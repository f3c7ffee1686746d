-- PUT gives and hands over nothing unless its object is in use and its group is a group: what it stores counts for nothing else. By
-- induction on the chain, a step that is new is the one from the object to the group.
use mathlib.Core.Path.{subst}
use mathlib.Core.Logic.{◌⊎◌, inl, inr, ⊎_elim}
use Prim.Native.Nat.{ℕ}
use Rattle.reach.specs.Tables.{View}
use Rattle.reach.specs.Reach.{InUse, Group, User, Under, itself, up}
use Rattle.reach.specs.Privileges.{Holds, Administers, Permitted}
use Rattle.reach.specs.Changes.{view_put}
use Rattle.reach.proofs.Frames.{put_direct}
use Rattle.rules.specs.Allowing.{Privilege, owning, managing, administering, permission, Has, Gives, HandsOver}

module _ (v : View) (x g : ℕ) where
  -- What PUT names is as it must be.
  abbrev pub Fits : Type 0
  Fits = InUse v x × Group v g

  under_put : {y k : ℕ} → Under (view_put v x g) y k → Under v y k ⊎ Fits
  under_put (itself i) = inl (itself i)
  under_put (up {x = y} {h = h} d l) =
      ⊎_elim
      (λ m.
      ⊎_elim
      (λ e. inr (subst (InUse v) e.0 d.object, subst (Group v) e.1 d.group))
      (λ c. inl (up c m))
      (put_direct v x g d))
      (λ f. inr f)
      (under_put l)

  module _ {u : ℕ} where
    held : {kind y : ℕ} → Holds (view_put v x g) kind u y → Holds v kind u y ⊎ Fits
    held h =
        let b = h.by in
        ⊎_elim
        (λ l.
        inl
        (record {
          user = h.user;
          by =
              record {
                place = b.place;
                low = b.low;
                at = record { is_kind = b.at.is_kind; is_holder = b.at.is_holder; covers = l };
              };
        }))
        (λ f. inr f)
        (under_put b.at.covers)

    pair : {y z : ℕ} → Administers (view_put v x g) u y z → Administers v u y z ⊎ Fits
    pair h =
        let b = h.by in
        ⊎_elim
        (λ l.
        ⊎_elim
        (λ m.
        inl
        (record {
          user = h.user;
          by =
              record {
                place = b.place;
                low = b.low;
                at = record { is_kind = b.at.is_kind; is_holder = b.at.is_holder; covers_a = l; covers_b = m };
              };
        }))
        (λ f. inr f)
        (under_put b.at.covers_b))
        (λ f. inr f)
        (under_put b.at.covers_a)

    use_of : {k y : ℕ} → Permitted (view_put v x g) u k y → Permitted v u k y ⊎ Fits
    use_of h =
        let b = h.by in
        ⊎_elim
        (λ l.
        ⊎_elim
        (λ m.
        inl
        (record {
          user = h.user;
          target = h.target;
          number = h.number;
          by =
              record {
                place = b.place;
                low = b.low;
                at = record { used = b.at.used; operation = b.at.operation; covers_user = l; covers_target = m };
              };
        }))
        (λ f. inr f)
        (under_put b.at.covers_target))
        (λ f. inr f)
        (under_put b.at.covers_user)

    pub gives_fits : Gives v (view_put v x g) u → User v u × Fits
    gives_fits w = go w.what w.has w.lacked
      where
        go : (p : Privilege) → Has (view_put v x g) u p → (Has v u p → ⊥) → User v u × Fits
        go (owning y) h n = (h.user, ⊎_elim (λ o. absurd (n o)) (λ f. f) (held h))
        go (managing y) h n = (h.user, ⊎_elim (λ o. absurd (n o)) (λ f. f) (held h))
        go (administering a b) h n = (h.user, ⊎_elim (λ o. absurd (n o)) (λ f. f) (pair h))
        go (permission k y) h n = (h.user, ⊎_elim (λ o. absurd (n o)) (λ f. f) (use_of h))

  pub hands_fits : {u : ℕ} → HandsOver v (view_put v x g) u → Fits
  hands_fits w =
      ⊎_elim
      (λ z. ⊎_elim (λ o. absurd (z.1 o)) (λ f. f) (held z.0))
      (λ z. ⊎_elim (λ o. absurd (z.1 o)) (λ f. f) (held z.0))
      w.comes.gain
