-- Reach after each change: PUT adds what leads through the new membership, MAKE what the new object is under, others none.
-- By induction on the chain: each of its direct memberships was there before, or is the new one.
use mathlib.Core.Path.{◌≡◌, refl, sym, ◌∙◌, subst}
use mathlib.Core.Bool.{Bool, true, false, ◌&&◌, and-eq-true_iff, false≢true}
use mathlib.Core.Logic.{◌⊎◌, inl, inr, ⊎_elim}
use Prim.Native.Nat.{ℕ, ◌<◌}
use native.Mathlib.Decide.{ℕ_discrete}
use native.Mathlib.Omega.{arith}
use lib.Dec.{eqb}
use borrow.Author.Tests.{eqb-true, eq-eqb, ne_eqb}
use Rattle.reach.specs.declared.Appointment.{Appointment}
use Rattle.reach.specs.declared.AccessRule.{AccessRule}
use Rattle.reach.specs.Tests.{◌⇒◌∥◌}
use Rattle.reach.specs.Tables.{counted, View}
use Rattle.reach.specs.Reach.{InUse, Group, Direct, Under, itself, up}
use Rattle.reach.specs.Changes.{view_made, view_put, view_taken, view_appointed, view_ruled}
use Rattle.reach.proofs.Reaching.{group_in_use, under_trans, under_map, under_upper}

-- A stored membership is the new one, or an old one.
new_or_old : (t s : Bool) → (t ⇒ true ∥ s) ≡ true → (t ≡ true) ⊎ (s ≡ true)
new_or_old true s e = inl refl
new_or_old false s e = inr e

-- An object stays in use with its sort, and a membership counts with what it is made of.
in_use_same : {m n : ℕ} → m ≡ n → 0 < m → 0 < n
in_use_same e i = omega arith

direct_map : (v w : View) {x g : ℕ} → v.sort x ≡ w.sort x → v.sort g ≡ w.sort g
    → (v.stored x g ≡ true → w.stored x g ≡ true) → Direct v x g → Direct w x g
direct_map v w a b c d = record { object = in_use_same a d.object; group = sym b ∙ d.group; is_stored = c d.is_stored }

-- ---- Appointments and rules

-- Reach reads the sorts and the stored memberships, and nothing else.
pub under_same : (v w : View) → ((x : ℕ) → v.sort x ≡ w.sort x) → ((x g : ℕ) → v.stored x g ≡ w.stored x g)
    → {x g : ℕ} → Under v x g → Under w x g
under_same v w s m u = under_map (λ x i. in_use_same (s x) i) (λ x g d. direct_map v w (s x) (s g) (λ e. sym (m x g) ∙ e) d) u

pub under_appointed : (v : View) (i : ℕ) (w : Appointment) {x g : ℕ} → Under v x g → Under (view_appointed v i w) x g
under_appointed v i w = under_same v (view_appointed v i w) (λ x. refl) (λ x g. refl)

pub under_appointed_back : (v : View) (i : ℕ) (w : Appointment) {x g : ℕ} → Under (view_appointed v i w) x g → Under v x g
under_appointed_back v i w = under_same (view_appointed v i w) v (λ x. refl) (λ x g. refl)

pub under_ruled : (v : View) (i : ℕ) (r : AccessRule) {x g : ℕ} → Under v x g → Under (view_ruled v i r) x g
under_ruled v i r = under_same v (view_ruled v i r) (λ x. refl) (λ x g. refl)

pub under_ruled_back : (v : View) (i : ℕ) (r : AccessRule) {x g : ℕ} → Under (view_ruled v i r) x g → Under v x g
under_ruled_back v i r = under_same (view_ruled v i r) v (λ x. refl) (λ x g. refl)

-- ---- PUT and TAKE

pub put_keeps : (v : View) (x g : ℕ) {y k : ℕ} → Under v y k → Under (view_put v x g) y k
put_keeps v x g u =
    under_map (λ y i. i)
    (λ y h d. direct_map v (view_put v x g) refl refl (still (eqb y x && eqb h g) (v.stored y h)) d) u
  where
    still : (t s : Bool) → s ≡ true → (t ⇒ true ∥ s) ≡ true
    still true s e = refl
    still false s e = e

-- What is under x comes under all that g is under.
pub put_adds : (v : View) (x g : ℕ) → Group v g → {y k : ℕ} → Under v y x → Under v g k → Under (view_put v x g) y k
put_adds v x g j a b =
    under_trans (put_keeps v x g a)
    (up (record { object = under_upper a; group = j; is_stored = rw (eq-eqb x x refl, eq-eqb g g refl) }) (put_keeps v x g b))

pub put_adds_only : (v : View) (x g : ℕ) {y k : ℕ} → Under (view_put v x g) y k → Under v y k ⊎ (Under v y x × Under v g k)
put_adds_only v x g (itself i) = inl (itself i)
put_adds_only v x g (up {x = y} {h = h} {g = k} d l) =
    ⊎_elim
    (λ e. let t : (eqb y x ≡ true) × (eqb h g ≡ true) = simp and-eq-true_iff at e in
    inr (through (eqb-true y x t.0) (eqb-true h g t.1) (put_adds_only v x g l)))
    (λ e. further (direct_map (view_put v x g) v refl refl (λ _. e) d) (put_adds_only v x g l))
    (new_or_old (eqb y x && eqb h g) (v.stored y h) d.is_stored)
  where
    through : y ≡ x → h ≡ g → Under v h k ⊎ (Under v h x × Under v g k) → Under v y x × Under v g k
    through e f r = (subst (Under v y) e (itself d.object), ⊎_elim (λ u. subst (λ z. Under v z k) f u) (λ u. u.1) r)

    further : Direct v y h → Under v h k ⊎ (Under v h x × Under v g k) → Under v y k ⊎ (Under v y x × Under v g k)
    further d (inl u) = inl (up d u)
    further d (inr u) = inr (up d u.0, u.1)

pub taken_removes_only : (v : View) (x g : ℕ) {y k : ℕ} → Under (view_taken v x g) y k → Under v y k
taken_removes_only v x g u =
    under_map (λ y i. i)
    (λ y h d. direct_map (view_taken v x g) v refl refl (was (eqb y x && eqb h g) (v.stored y h)) d) u
  where
    was : (t s : Bool) → (t ⇒ false ∥ s) ≡ true → s ≡ true
    was true s e = absurd (false≢true e)
    was false s e = e

-- ---- MAKE

module _ (v : View) (x s g : ℕ) where
  abbrev after : View
  after = view_made v x s g

  -- What is read of the other numbers is as it was.
  other_sort : {y : ℕ} → (y ≡ x → ⊥) → after.sort y ≡ v.sort y
  other_sort {y} n = rw (ne_eqb y x n)

  other_stored : {y h : ℕ} → (y ≡ x → ⊥) → (h ≡ x → ⊥) → after.stored y h ≡ v.stored y h
  other_stored {y} {h} n m = rw (ne_eqb y x n, ne_eqb h x m)

  -- No other number is stored in the new one.
  none_in : {y h : ℕ} → (y ≡ x → ⊥) → after.stored y h ≡ true → h ≡ x → ⊥
  none_in {y} {h} n e q = false≢true (rw (ne_eqb y x n, eq-eqb h x q) at e)

  -- The new number has nothing in it, so that reach from any other object is as it was.
  pub made_adds_none : {y k : ℕ} → (y ≡ x → ⊥) → Under (view_made v x s g) y k → Under v y k
  made_adds_none n (itself i) = itself (in_use_same (other_sort n) i)
  made_adds_none n (up {h = h} d l) =
      let m : h ≡ x → ⊥ = none_in n d.is_stored in
      up (direct_map after v (other_sort n) (other_sort m) (λ e. sym (other_stored n m) ∙ e) d) (made_adds_none m l)

  module _ (free : InUse v x → ⊥) where
    not_new : {y : ℕ} → InUse v y → y ≡ x → ⊥
    not_new i e = free (subst (InUse v) e i)

    pub made_keeps : {y k : ℕ} → Under v y k → Under (view_made v x s g) y k
    made_keeps u =
        under_map (λ y i. in_use_same (sym (other_sort (not_new i))) i)
        (λ y h d.
        let n : y ≡ x → ⊥ = not_new d.object in
        let m : h ≡ x → ⊥ = not_new (group_in_use v h d.group) in
        direct_map v after (sym (other_sort n)) (sym (other_sort m)) (λ e. other_stored n m ∙ e) d)
        u

    -- The new object is under all that its group is under.
    pub made_under : 0 < counted s → Group v g → {k : ℕ} → Under v g k → Under (view_made v x s g) x k
    made_under c j u =
        let d : Direct after x g =
        record {
          object = rw (eq-eqb x x refl) c;
          group = other_sort (not_new (group_in_use v g j)) ∙ j;
          is_stored = rw (eq-eqb x x refl) (eq-eqb g g refl);
        } in
        up d (made_keeps u)

  only : {y k : ℕ} → y ≡ x → Under after y k → (k ≡ x) ⊎ Under v g k
  only e (itself i) = inl e
  only {k = k} e (up {x = y} {h = h} d l) = go (ℕ_discrete h x) (λ q. only q l)
    where
      go : Dec (h ≡ x) → (h ≡ x → (k ≡ x) ⊎ Under v g k) → (k ≡ x) ⊎ Under v g k
      go (yes q) again = again q
      go (no n) again =
          let f : h ≡ g = eqb-true h g (rw (eq-eqb y x e) at d.is_stored) in
          inr (subst (λ z. Under v z k) f (made_adds_none n l))

  -- And under nothing else but itself.
  pub made_under_only : {k : ℕ} → Under (view_made v x s g) x k → (k ≡ x) ⊎ Under v g k
  made_under_only u = only refl u

-- ---- Direct memberships after each change: the new one, or an old one

pub direct_same : (v w : View) → ((x : ℕ) → v.sort x ≡ w.sort x) → ((x g : ℕ) → v.stored x g ≡ w.stored x g)
    → {x g : ℕ} → Direct v x g → Direct w x g
direct_same v w s m {x} {g} d = direct_map v w (s x) (s g) (λ e. sym (m x g) ∙ e) d

pub put_direct : (v : View) (x g : ℕ) {y h : ℕ} → Direct (view_put v x g) y h → ((y ≡ x) × (h ≡ g)) ⊎ Direct v y h
put_direct v x g {y} {h} d =
    ⊎_elim
    (λ e. let t : (eqb y x ≡ true) × (eqb h g ≡ true) = simp and-eq-true_iff at e in inl (eqb-true y x t.0, eqb-true h g t.1))
    (λ e. inr (record { object = d.object; group = d.group; is_stored = e }))
    (new_or_old (eqb y x && eqb h g) (v.stored y h) d.is_stored)

pub taken_direct : (v : View) (x g : ℕ) {y h : ℕ} → Direct (view_taken v x g) y h → Direct v y h × ((y ≡ x) × (h ≡ g) → ⊥)
taken_direct v x g {y} {h} d = go (eqb y x && eqb h g) refl d.is_stored
  where
    go : (t : Bool) → (eqb y x && eqb h g) ≡ t → (t ⇒ false ∥ v.stored y h) ≡ true → Direct v y h × ((y ≡ x) × (h ≡ g) → ⊥)
    go true q e = absurd (false≢true e)
    go false q e = (
      record { object = d.object; group = d.group; is_stored = e },
      λ w. false≢true (sym q ∙ rw (eq-eqb y x w.0, eq-eqb h g w.1)),
    )

pub made_direct : (v : View) (x s g : ℕ) {y h : ℕ} → Direct (view_made v x s g) y h → ((y ≡ x) × (h ≡ g)) ⊎ Direct v y h
made_direct v x s g {y} {h} d = go (ℕ_discrete y x)
  where
    go : Dec (y ≡ x) → ((y ≡ x) × (h ≡ g)) ⊎ Direct v y h
    go (yes e) = inl (e, eqb-true h g (rw (eq-eqb y x e) at d.is_stored))
    go (no n) =
        let m : h ≡ x → ⊥ = none_in v x s g n d.is_stored in
        inr (direct_map (view_made v x s g) v (other_sort v x s g n) (other_sort v x s g m) (λ e. sym (other_stored v x s g n m) ∙ e) d)

-- ---- And what each change keeps of them

pub direct_put : (v : View) (x g : ℕ) {y h : ℕ} → Direct v y h → Direct (view_put v x g) y h
direct_put v x g {y} {h} d = record { object = d.object; group = d.group; is_stored = still (eqb y x && eqb h g) d.is_stored }
  where
    still : (t : Bool) → v.stored y h ≡ true → (t ⇒ true ∥ v.stored y h) ≡ true
    still true e = refl
    still false e = e

pub direct_new_put : (v : View) (x g : ℕ) → InUse v x → Group v g → Direct (view_put v x g) x g
direct_new_put v x g i j = record { object = i; group = j; is_stored = rw (eq-eqb x x refl, eq-eqb g g refl) }

pub direct_taken : (v : View) (x g : ℕ) {y h : ℕ} → ((y ≡ x) × (h ≡ g) → ⊥) → Direct v y h → Direct (view_taken v x g) y h
direct_taken v x g {y} {h} n d =
    record { object = d.object; group = d.group; is_stored = go (eqb y x) (eqb h g) refl refl }
  where
    go : (s t : Bool) → eqb y x ≡ s → eqb h g ≡ t → (s && t ⇒ false ∥ v.stored y h) ≡ true
    go true true p q = absurd (n (eqb-true y x p, eqb-true h g q))
    go true false p q = d.is_stored
    go false t p q = d.is_stored

pub direct_made : (v : View) (x s g : ℕ) → (InUse v x → ⊥) → {y h : ℕ} → Direct v y h → Direct (view_made v x s g) y h
direct_made v x s g free d =
    let n = not_new v x s g free d.object in
    let m = not_new v x s g free (group_in_use v _ d.group) in
    direct_map v (view_made v x s g) (sym (other_sort v x s g n)) (sym (other_sort v x s g m)) (λ e. other_stored v x s g n m ∙ e) d

pub direct_new_made : (v : View) (x s g : ℕ) → (InUse v x → ⊥) → 0 < counted s → Group v g → Direct (view_made v x s g) x g
direct_new_made v x s g free c j =
    record {
      object = rw (eq-eqb x x refl) c;
      group = other_sort v x s g (not_new v x s g free (group_in_use v g j)) ∙ j;
      is_stored = rw (eq-eqb x x refl) (eq-eqb g g refl);
    }
