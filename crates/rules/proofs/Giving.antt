-- The tests of what a change gives, hands over and leaves without an owner decide those relations. Each law has the shape of its
-- definition.
use mathlib.Core.Path.{◌≡◌, refl}
use mathlib.Core.Bool.{Bool, true, false, not, ◌&&◌}
use mathlib.Core.Logic.{◌⊎◌, inl, inr, ⊎_elim}
use Prim.Native.Nat.{ℕ}
use Rattle.reach.specs.declared.Policy.{Policy}
use Rattle.reach.specs.Tests.{some, Some, Decides}
use Rattle.reach.specs.Tables.{view}
use Rattle.reach.specs.Reach.{InUse, in_use}
use Rattle.reach.specs.Privileges.{owner, manager, Holds, Owns, Manages, Administers, Permitted, holds, owns, orphaned}
use Rattle.reach.proofs.Testing.{decides_as, decides_and, decides_or, decides_not, decides_some, fails, refuted}
use Rattle.reach.proofs.Chains.{in_use_below, decides_in_use}
use Rattle.reach.proofs.Deciding.{user_below, holds_decides, administers_decides, permitted_decides, orphaned_decides}
use Rattle.rules.specs.Gains.{gives, hands_over}
use Rattle.rules.specs.Allowing.{Privilege, owning, managing, administering, permission, Has, There, Gives, HandsOver, Owned}
use Rattle.rules.proofs.Passing.{Passes}

module _ (p n : Policy) where
  -- He has it after and lacked it before.
  abbrev New : ℕ → ℕ → ℕ → Type 0
  New kind u x = (InUse (view p) x × Holds (view n) kind u x) × (Holds (view p) kind u x → ⊥)

  decides_new : (kind u x : ℕ) → Decides (in_use p x && holds n kind u x && not (holds p kind u x)) (New kind u x)
  decides_new kind u x =
      decides_and _ _ (decides_and _ _ (decides_in_use p x) (holds_decides n kind u x)) (decides_not _ (holds_decides p kind u x))

  abbrev NewPair : ℕ → ℕ → ℕ → Type 0
  NewPair u a b =
      ((InUse (view p) a × InUse (view p) b) × Administers (view n) u a b) × (Administers (view p) u a b → ⊥)

  abbrev NewUse : ℕ → ℕ → ℕ → Type 0
  NewUse u x k = (InUse (view p) x × Permitted (view n) u k x) × (Permitted (view p) u k x → ⊥)

  abbrev Given : ℕ → Type 0
  Given u =
      ((Some 64 (New owner u) ⊎ Some 64 (New manager u)) ⊎ Some 64 (λ a. Some 64 (NewPair u a))) ⊎ Some 64 (λ x. Some 8 (NewUse u x))

  given_gives : (u : ℕ) → Given u → Gives (view p) (view n) u
  given_gives u (inl (inl (inl w))) =
      record { what = owning w.place; there = w.at.0.0; has = w.at.0.1; lacked = w.at.1 }
  given_gives u (inl (inl (inr w))) =
      record { what = managing w.place; there = w.at.0.0; has = w.at.0.1; lacked = w.at.1 }
  given_gives u (inl (inr w)) =
      let f = w.at in
      record { what = administering w.place f.place; there = f.at.0.0; has = f.at.0.1; lacked = f.at.1 }
  given_gives u (inr w) =
      let f = w.at in
      record { what = permission f.place w.place; there = f.at.0.0; has = f.at.0.1; lacked = f.at.1 }

  gives_given : (u : ℕ) → Gives (view p) (view n) u → Given u
  gives_given u g = go g.what g.there g.has g.lacked
    where
      go : (w : Privilege) → There (view p) w → Has (view n) u w → (Has (view p) u w → ⊥) → Given u
      go (owning x) t h l = inl (inl (inl (record { place = x; low = in_use_below p x t; at = ((t, h), l) })))
      go (managing x) t h l = inl (inl (inr (record { place = x; low = in_use_below p x t; at = ((t, h), l) })))
      go (administering a b) t h l =
          inl
          (inr
          (record {
            place = a;
            low = in_use_below p a t.0;
            at = record { place = b; low = in_use_below p b t.1; at = ((t, h), l) };
          }))
      go (permission k x) t h l =
          inr (record { place = x; low = in_use_below p x t; at = record { place = k; low = h.number; at = ((t, h), l) } })

  pub gives_decides : (u : ℕ) → Decides (gives p n u) (Gives (view p) (view n) u)
  unfolding gives
  gives_decides u =
      decides_as
      (decides_or _ _
      (decides_or _ _
      (decides_or _ _ (decides_some 64 _ _ (λ x l. decides_new owner u x)) (decides_some 64 _ _ (λ x l. decides_new manager u x)))
      (decides_some 64 _ _
      (λ a l.
      decides_some 64 _ _
      (λ b m.
      decides_and _ _
      (decides_and _ _ (decides_and _ _ (decides_in_use p a) (decides_in_use p b)) (administers_decides n u a b))
      (decides_not _ (administers_decides p u a b))))))
      (decides_some 64 _ _
      (λ x l.
      decides_some 8 _ _
      (λ k m.
      decides_and _ _
      (decides_and _ _ (decides_in_use p x) (permitted_decides n u k x))
      (decides_not _ (permitted_decides p u k x))))))
      (given_gives u)
      (gives_given u)

  pub hands_over_decides : (u : ℕ) → Decides (hands_over p n u) (HandsOver (view p) (view n) u)
  unfolding hands_over
  hands_over_decides u =
      decides_as
      (decides_some 64 _ _
      (λ x l.
      decides_and _ _
      (decides_not _ (holds_decides p owner u x))
      (decides_some 64 _ _ (λ w m. decides_or _ _ (decides_new owner w x) (decides_new manager w x)))))
      (λ w.
      let f = w.at.1 in
      record {
        who = f.place;
        what = w.place;
        comes =
            ⊎_elim
            (λ a. record { there = a.0.0; gain = inl (a.0.1, a.1) })
            (λ a. record { there = a.0.0; gain = inr (a.0.1, a.1) })
            f.at;
        not_own = w.at.0;
      })
      (λ h. over h h.comes.gain)
    where
      over : (h : HandsOver (view p) (view n) u)
          → (Owns (view n) h.who h.what × (Owns (view p) h.who h.what → ⊥))
          ⊎ (Manages (view n) h.who h.what × (Manages (view p) h.who h.what → ⊥))
          → Some 64 (λ x. (Owns (view p) u x → ⊥) × Some 64 (λ w. New owner w x ⊎ New manager w x))
      over h (inl g) =
          let t = h.comes.there in
          record {
            place = h.what;
            low = in_use_below p h.what t;
            at = (h.not_own, record { place = h.who; low = user_below n h.who g.0.user; at = inl ((t, g.0), g.1) });
          }
      over h (inr g) =
          let t = h.comes.there in
          record {
            place = h.what;
            low = in_use_below p h.what t;
            at = (h.not_own, record { place = h.who; low = user_below n h.who g.0.user; at = inr ((t, g.0), g.1) });
          }

-- No orphan is left exactly if every object in use has an owner.
pub orphaned_passes : (p : Policy) → Passes (orphaned p) (Owned (view p))
orphaned_passes p =
    record {
      sound = λ e x i. go x i e (some 64 (λ u. owns p u x)) (decides_some 64 _ _ (λ u l. holds_decides p owner u x));
      complete = λ o.
          fails _ (orphaned_decides p)
          (λ w. let s = o w.place w.at.object in w.at.nobody s.place s.at);
    }
  where
    go : (x : ℕ) → InUse (view p) x → orphaned p ≡ false → (t : Bool) → Decides t (Some 64 (λ u. Owns (view p) u x))
        → Some 64 (λ u. Owns (view p) u x)
    go x i e true d = d.sound refl
    go x i e false d =
        absurd
        (refuted (orphaned_decides p) e
        (record {
          place = x;
          low = in_use_below p x i;
          at = record { object = i; nobody = λ u o. refuted d refl (record { place = u; low = user_below p u o.user; at = o }) };
        }))
