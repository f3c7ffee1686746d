-- The tests of the privileges decide them, for every policy. Each law has the shape of its definition.
use mathlib.Core.Path.{◌≡◌, refl, sym, ◌∙◌}
use mathlib.Core.Bool.{Bool, true, false, ◌&&◌, true≢false, and-eq-true_iff}
use mathlib.Core.Logic.{◌⊎◌, inl, inr, ⊎_elim}
use Prim.Native.Nat.{ℕ, ◌<◌}
use native.Mathlib.Omega.{arith}
use lib.ListN.{get_or}
use Rattle.reach.specs.declared.Policy.{Policy}
use Rattle.reach.specs.declared.Appointment.{Appointment}
use Rattle.std.specs.Prelude.{Option, None}
use Rattle.reach.specs.Words.{bit, has}
use Rattle.reach.specs.Tests.{some, Some, Decides, ◌⇒◌∥◌, lowest}
use Rattle.reach.specs.Tables.{counted, sort, stored, appointment, standing, rule, view}
use Rattle.reach.specs.Reach.{User, Target, in_use, is_group, is_user, direct}
use Rattle.reach.specs.Privileges.{HoldsBy, Holds, AdministersBy, Administers, PermitsBy, Permitted, Orphan, administrator, holds_by}
use Rattle.reach.specs.Privileges.{holds, administers_by, administers, permits_by, askable, permitted, permitting, orphaned}
use Rattle.reach.proofs.Testing.{decides_as, decides_and, decides_not, decides_some, decides_eqb, decides_ltb}
use Rattle.reach.proofs.Testing.{decides_true, lowest_none, lowest_found, LowestAt, lowest_cases, fails, some_found}
use Rattle.reach.proofs.Chains.{in_use_below, decides_in_use, under_decides}

-- What decides that a place is not empty: the kind that counts.
pub standing_decides : (w : Appointment) → Decides (standing w) (0 < counted w.kind)
unfolding standing
standing_decides w = decides_ltb 0 (counted w.kind)

-- Direct membership is asked of the sorts and of the object's row.
pub direct_of_row : (p : Policy) (x g : ℕ) → in_use p x && is_group p g && has (get_or p.memberships x 0) g ≡ direct p x g
unfolding direct stored
direct_of_row p x g = refl

-- What decides a user and an object: the sort that counts.
pub decides_user : (p : Policy) (u : ℕ) → Decides (is_user p u) (User (view p) u)
decides_user p u = decides_eqb (sort p u) 2

pub user_below : (p : Policy) (u : ℕ) → User (view p) u → u < 64
user_below p u e = in_use_below p u (omega (arith, e))

pub decides_holds_by : (p : Policy) (kind u x i : ℕ) → Decides (holds_by p kind u x i) (HoldsBy (view p) kind u x i)
unfolding holds_by
decides_holds_by p kind u x i =
    decides_as
    (decides_and _ _ (decides_and _ _ (decides_eqb _ kind) (decides_eqb _ u)) (under_decides p x (appointment p i).a))
    (λ w. record { is_kind = w.0.0; is_holder = w.0.1; covers = w.1 })
    (λ h. ((h.is_kind, h.is_holder), h.covers))

-- Owning and managing are this law at owner and manager.
pub holds_decides : (p : Policy) (kind u x : ℕ) → Decides (holds p kind u x) (Holds (view p) kind u x)
unfolding holds
holds_decides p kind u x =
    decides_as
    (decides_and _ _ (decides_user p u) (decides_some 32 _ _ (λ i l. decides_holds_by p kind u x i)))
    (λ w. record { user = w.0; by = w.1 })
    (λ h. (h.user, h.by))

pub decides_administers_by : (p : Policy) (u a b i : ℕ) → Decides (administers_by p u a b i) (AdministersBy (view p) u a b i)
unfolding administers_by
decides_administers_by p u a b i =
    decides_as
    (decides_and _ _
    (decides_and _ _ (decides_and _ _ (decides_eqb _ administrator) (decides_eqb _ u)) (under_decides p a (appointment p i).a))
    (under_decides p b (appointment p i).b))
    (λ w. record { is_kind = w.0.0.0; is_holder = w.0.0.1; covers_a = w.0.1; covers_b = w.1 })
    (λ h. (((h.is_kind, h.is_holder), h.covers_a), h.covers_b))

pub administers_decides : (p : Policy) (u a b : ℕ) → Decides (administers p u a b) (Administers (view p) u a b)
unfolding administers
administers_decides p u a b =
    decides_as
    (decides_and _ _ (decides_user p u) (decides_some 32 _ _ (λ i l. decides_administers_by p u a b i)))
    (λ w. record { user = w.0; by = w.1 })
    (λ h. (h.user, h.by))

pub decides_permits_by : (p : Policy) (u k x i : ℕ) → Decides (permits_by p u k x i) (PermitsBy (view p) u k x i)
unfolding permits_by has
decides_permits_by p u k x i =
    decides_as
    (decides_and _ _
    (decides_and _ _
    (decides_and _ _ (decides_true (rule p i).used) (decides_eqb (bit (rule p i).operations k) 1))
    (under_decides p u (rule p i).users))
    (under_decides p x (rule p i).targets))
    (λ w. record { used = w.0.0.0; operation = w.0.0.1; covers_user = w.0.1; covers_target = w.1 })
    (λ h. (((h.used, h.operation), h.covers_user), h.covers_target))

pub decides_askable : (p : Policy) (u k x : ℕ) → Decides (askable p u k x) ((User (view p) u × Target (view p) x) × (k < 8))
unfolding askable
decides_askable p u k x = decides_and _ _ (decides_and _ _ (decides_user p u) (decides_eqb (sort p x) 3)) (decides_ltb k 8)

pub permitted_decides : (p : Policy) (u k x : ℕ) → Decides (permitted p u k x) (Permitted (view p) u k x)
unfolding permitted
permitted_decides p u k x =
    decides_as
    (decides_and _ _ (decides_askable p u k x) (decides_some 64 _ _ (λ i l. decides_permits_by p u k x i)))
    (λ w. record { user = w.0.0.0; target = w.0.0.1; number = w.0.1; by = w.1 })
    (λ h. (((h.user, h.target), h.number), h.by))

-- Some object in use has no owner.
pub orphaned_decides : (p : Policy) → Decides (orphaned p) (Some 64 (Orphan (view p)))
unfolding orphaned
orphaned_decides p =
    decides_as
    (decides_some 64 _ _
    (λ x l. decides_and _ _ (decides_in_use p x) (decides_not _ (decides_some 64 _ _ (λ u m. holds_decides p 1 u x)))))
    (λ w.
    record {
      place = w.place;
      low = w.low;
      at = record { object = w.at.0; nobody = λ u o. w.at.1 (record { place = u; low = user_below p u o.user; at = o }) };
    })
    (λ w. record { place = w.place; low = w.low; at = (w.at.object, λ s. w.at.nobody s.place s.at) })

-- ---- The place of a rule that permits

module _ (p : Policy) (u k x : ℕ) where
  pub permitting_not : askable p u k x ≡ false → None ≡ permitting p u k x
  unfolding permitting
  permitting_not e = rw e

  -- Who is permitted it is so by the lowest of the places that permit it.
  pub permitted_lowest : permitted p u k x ≡ true → Some 64 (λ i. (permitting p u k x ≡ Option.Some i) × LowestAt 64 (permits_by p u k x) i)
  unfolding permitted permitting
  permitted_lowest e =
      let a : (askable p u k x ≡ true) × (some 64 (permits_by p u k x) ≡ true) = simp and-eq-true_iff at e in
      ⊎_elim
      (λ n. absurd (true≢false (sym a.1 ∙ n)))
      (λ w.
      let f = w.at in
      record {
        place = w.place;
        low = w.low;
        at = (rw a.0 (lowest_found 64 (permits_by p u k x) w.place f.low f.none f.here), f);
      })
      (lowest_cases 64 (permits_by p u k x))

  -- The answer at a place is a permission, and none is none.
  pub permitted_nothing : permitting p u k x ≡ None → permitted p u k x ≡ false
  permitted_nothing e =
      fails (permitted p u k x) (decides_true _)
      (λ f. let w = permitted_lowest f in let q = w.at.0 in let z : ◌≡◌ {A = ℕ} 0 1 = cc in omega arith)

  pub permitted_at : (i : ℕ) → permitting p u k x ≡ Option.Some i → permitted p u k x ≡ true
  unfolding permitted permitting
  permitted_at i e = go (askable p u k x) e (lowest_cases 64 (permits_by p u k x))
    where
      go : (t : Bool) → (t ⇒ lowest 64 (permits_by p u k x) ∥ None) ≡ Option.Some i
          → (some 64 (permits_by p u k x) ≡ false) ⊎ Some 64 (LowestAt 64 (permits_by p u k x))
          → (t && some 64 (permits_by p u k x)) ≡ true
      go true f (inl n) =
          let q = lowest_none 64 (permits_by p u k x) n in absurd (let z : ◌≡◌ {A = ℕ} 0 1 = cc in omega arith)
      go true f (inr w) = some_found 64 (permits_by p u k x) w.place w.low w.at.here
      go false f c = absurd (let z : ◌≡◌ {A = ℕ} 0 1 = cc in omega arith)
