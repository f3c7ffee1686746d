-- One target and one operation of the search: what the words tell is whether the pair is fresh.
use mathlib.Core.Path.{◌≡◌, refl, subst}
use mathlib.Core.Bool.{true}
use mathlib.Core.List.{List}
use mathlib.Core.Logic.{◌⊎◌, inl, inr, ⊎_elim}
use Prim.Native.Nat.{ℕ, ◌<◌}
use native.Mathlib.Omega.{arith}
use lib.Bits.{bit_or}
use lib.ListN.{get_or}
use Rattle.reach.specs.declared.Policy.{Policy}
use Rattle.reach.specs.Words.{bit, SetOf, Meet}
use Rattle.reach.specs.Tests.{Decides}
use Rattle.reach.specs.Tables.{sort_in, view}
use Rattle.reach.specs.Reach.{Under}
use Rattle.reach.specs.Asking.{reach_of, UnderBy, HeldOver}
use Rattle.reach.proofs.Testing.{some_map}
use Rattle.reach.proofs.Chains.{in_use_below}
use Rattle.reach.proofs.WordSets.{set_as, set_or}
use Rattle.reach.proofs.Meeting.{target_of_sort, meet_holds, holds_meet}
use Rattle.gains.specs.Lacking.{Above, Grows, LacksHeld, UnderPut}
use Rattle.gains.specs.Searching.{Fresh}

module _ {s m had got : List ℕ} {x over y k before after : ℕ} (b : SetOf before (λ g. UnderBy s m y g))
    (a : SetOf after (λ t. (bit before t ≡ 1) ⊎ ((bit before x ≡ 1) × (bit over t ≡ 1)))) where
  pub fresh_at : Fresh s m had got x over y k → Meet (get_or got k 0) after × (Meet (get_or had k 0) before → ⊥)
  fresh_at f = (
    some_map
        (λ t w. (w.0, a.all t (⊎_elim (λ u. inl (b.all t u)) (λ u. inr (b.all x u.0, u.1)) w.1)))
        f.now,
    λ w. f.lacked (some_map (λ t v. (v.0, b.only t v.1)) w),
  )

  pub at_fresh : sort_in s y ≡ 3 → Meet (get_or got k 0) after × (Meet (get_or had k 0) before → ⊥) → Fresh s m had got x over y k
  at_fresh e w =
      record {
        target = e;
        now =
            some_map
            (λ t v. (v.0, ⊎_elim (λ u. inl (b.only t u)) (λ u. inr (b.only x u.0, u.1)) (a.only t v.1)))
            w.0;
        lacked = λ h. w.1 (some_map (λ t v. (v.0, b.all t v.1)) h);
      }

pub target_below : {s m had got : List ℕ} {x over y k : ℕ} → Fresh s m had got x over y k → y < 64
target_below {s} {m} {y = y} f = in_use_below (reach_of s m) y (omega (arith, target_of_sort (reach_of s m) y f.target))

pub fresh_move : {s m had got : List ℕ} {x over y z k : ℕ} → z ≡ y → Fresh s m had got x over z k → Fresh s m had got x over y k
fresh_move {s} {m} {had} {got} {x} {over} {k = k} e f = subst (λ (v : ℕ). Fresh s m had got x over v k) e f

-- A test that passed decides what is so.
pub decides_found : {P : Type 0} → P → Decides true P
decides_found h = record { sound = λ e. h; complete = λ w. refl }

-- What somebody is under once x is put into g: what he was under, if he is not under x, and else what g is under too.
pub over_not : (p : Policy) {u x g over : ℕ} → Above p u over → (Under (view p) u x → ⊥) → SetOf over (λ t. UnderPut (view p) x g u t)
over_not p o n = set_as o (λ t l. inl l) (λ t w. ⊎_elim (λ l. l) (λ l. absurd (n l.0)) w)

pub over_too : (p : Policy) {u x g over group : ℕ} → Above p u over → Above p g group → Under (view p) u x
    → SetOf (bit_or over group) (λ t. UnderPut (view p) x g u t)
over_too p o s l =
    set_as
    (set_or o s)
    (λ t w. ⊎_elim (λ c. inl c) (λ c. inr (l, c)) w)
    (λ t w. ⊎_elim (λ c. inl c) (λ c. inr c.1) w)

-- He holds the group and not the object, exactly if what he is appointed over grows.
module _ (p : Policy) {kind u x g held object group : ℕ} (h : SetOf held (HeldOver (view p) kind u)) (o : Above p x object)
    (s : Above p g group) where
  pub grows_lacks : Grows held object group → LacksHeld (view p) kind u x g
  grows_lacks w = record { has = meet_holds p h s w.0; lacks = λ l. w.1 (holds_meet p h o l) }

  pub lacks_grows : LacksHeld (view p) kind u x g → Grows held object group
  lacks_grows l = (holds_meet p h s l.has, λ m. l.lacks (meet_holds p h o m))
