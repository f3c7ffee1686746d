-- A record that is stored stands at its place, and every other place is as it was. By the laws of reach on each successor, as it is read.
use mathlib.Core.Path.{◌≡◌, refl, ap, ◌∙◌}
use mathlib.Core.Bool.{Bool, true, false, ◌&&◌, false≢true}
use mathlib.Core.Logic.{◌≢◌}
use Prim.Native.Nat.{ℕ, ◌-◌, ◌/◌, ◌%◌, ◌<◌}
use native.Mathlib.Decide.{ℕ_discrete}
use native.Mathlib.Omega.{arith}
use lib.Dec.{eqb, leb, ltb}
use lib.ListN.{get_or, set, length-set}
use lib.Seq.{get_or-set_same, get_or-set_other}
use borrow.Author.Tests.{eqb-true, eq-eqb, ne_eqb, ltb-true, ltb-false, lt-ltb}
use Rattle.std.specs.Prelude.{Option, Some, None}
use Rattle.reach.specs.declared.Policy.{Policy}
use Rattle.reach.specs.Tests.{◌⇒◌∥◌}
use Rattle.reach.specs.Tables.{View, view, Sized, sort, stored, appointment, rule, counted, standing}
use Rattle.reach.specs.Successors.{with_sorts}
use Rattle.reach.specs.Changes.{view_put, view_appointed, view_granted}
use Rattle.reach.proofs.AsRead.{view_of_put, view_of_appointed, view_of_granted}
use Rattle.reach.proofs.Sizes.{sized_put, sized_appointed, sized_ruled}
use Rattle.snapshot.specs.declared.Entry.{Entry}
use Rattle.snapshot.specs.declared.Entry.TheVariants.{Object, Membership, Appointed, Granted}
use Rattle.snapshot.specs.Card.{known, object_at, membership_at, appointed_at, granted_at}
use Rattle.snapshot.specs.Loading.{number_of, entry, valid, store}
use Rattle.snapshot.proofs.Records.{and_both}
use Rattle.snapshot.proofs.Places.{entry_by, at_object, at_membership, at_appointed, at_granted}

-- ---- As it is read

abbrev view_sorted : View → ℕ → ℕ → View
view_sorted v x s =
    record {
      sort = λ y. eqb y x ⇒ counted s ∥ v.sort y;
      stored = v.stored;
      appointment = v.appointment;
      rule = v.rule;
    }

abbrev pub view_stored : View → Option Entry → View
view_stored v (Some (Object x s)) = view_sorted v x s
view_stored v (Some (Membership x g)) = view_put v x g
view_stored v (Some (Appointed i k h a b)) = view_appointed v i (record { kind = k; holder = h; a = a; b = b })
view_stored v (Some (Granted i u t o)) = view_granted v i u t o
view_stored v None = v

view_of_sorted : (p : Policy) (x s : ℕ) → Sized p → x < 64 → view (with_sorts p (set p.sorts x s)) ≡ view_sorted (view p) x s
unfolding sort stored appointment rule
view_of_sorted p x s z l = λ t. record { sort = λ y. at y (ℕ_discrete y x) t; stored = stored p; appointment = appointment p; rule = rule p }
  where
    at : (y : ℕ) → Dec (y ≡ x)
        → (ltb y 64 ⇒ counted (get_or (set p.sorts x s) y 0) ∥ 0) ≡ (eqb y x ⇒ counted s ∥ ltb y 64 ⇒ counted (get_or p.sorts y 0) ∥ 0)
    at y (yes e) = rw (e, lt-ltb x 64 l, eq-eqb x x refl, get_or-set_same p.sorts x s 0 (omega (arith, z.sorts)))
    at y (no n) = rw (ne_eqb y x n, get_or-set_other p.sorts x y s 0 n)

pub view_store : (p : Policy) (e : Option Entry) → Sized p → valid e ≡ true → view (store p e) ≡ view_stored (view p) e
view_store p (Some (Object x s)) z v = view_of_sorted p x s z (ltb-true x 64 (and_both (ltb x 64) (known s) v).0)
view_store p (Some (Membership x g)) z v =
    let w = and_both (ltb x 64) (ltb g 64) v in view_of_put p z x g (ltb-true x 64 w.0) (ltb-true g 64 w.1)
view_store p (Some (Appointed i k h a b)) z v = view_of_appointed p z i _ (ltb-true i 32 (and_both (ltb i 32) (known k) v).0)
view_store p (Some (Granted i u t o)) z v = view_of_granted p z i u t o (ltb-true i 64 v)
view_store p None z v = refl

pub store_sized : (p : Policy) (e : Option Entry) → Sized p → Sized (store p e)
store_sized p (Some (Object x s)) z =
    record { sorts = simp length-set z.sorts; memberships = z.memberships; appointments = z.appointments; rules = z.rules }
store_sized p (Some (Membership x g)) z = sized_put p z x g
store_sized p (Some (Appointed i k h a b)) z = sized_appointed p z i _
store_sized p (Some (Granted i u t o)) z = sized_ruled p z i _
store_sized p None z = z

-- ---- At its place, and elsewhere

known_counted : (n : ℕ) → known n ≡ true → counted n ≡ n
unfolding counted
known_counted n = go (leb n 3)
  where
    go : (t : Bool) → ltb 0 (t ⇒ n ∥ 0) ≡ true → (t ⇒ n ∥ 0) ≡ n
    go true e = refl
    go false e = absurd (omega (arith, ltb-true 0 0 e))

module _ (v : View) where
  object_same : (x s : ℕ) → known s ≡ true → object_at (view_stored v (Some (Object x s))) x ≡ Some (Object x s)
  unfolding object_at
  object_same x s e = rw (eq-eqb x x refl, known_counted s e, e)

  object_other : (x s y : ℕ) → y ≢ x → object_at (view_stored v (Some (Object x s))) y ≡ object_at v y
  unfolding object_at
  object_other x s y n = rw (ne_eqb y x n)

  membership_same : (x g : ℕ) → membership_at (view_stored v (Some (Membership x g))) x g ≡ Some (Membership x g)
  unfolding membership_at
  membership_same x g = rw (eq-eqb x x refl, eq-eqb g g refl)

  membership_other : (x g y h : ℕ) → (y ≡ x → h ≡ g → ⊥) → membership_at (view_stored v (Some (Membership x g))) y h ≡ membership_at v y h
  unfolding membership_at
  membership_other x g y h n = go (eqb y x) refl (eqb h g) refl
    where
      go : (t : Bool) → eqb y x ≡ t → (u : Bool) → eqb h g ≡ u
          → ((t && u ⇒ true ∥ v.stored y h) ⇒ Some (Membership y h) ∥ None) ≡ (v.stored y h ⇒ Some (Membership y h) ∥ None)
      go true e true f = absurd (n (eqb-true y x e) (eqb-true h g f))
      go true e false f = refl
      go false e u f = refl

  appointed_same : (i k h a b : ℕ) → known k ≡ true → appointed_at (view_stored v (Some (Appointed i k h a b))) i ≡ Some (Appointed i k h a b)
  unfolding appointed_at standing
  appointed_same i k h a b e = rw (eq-eqb i i refl, e)

  appointed_other : (i k h a b j : ℕ) → j ≢ i → appointed_at (view_stored v (Some (Appointed i k h a b))) j ≡ appointed_at v j
  unfolding appointed_at
  appointed_other i k h a b j n = rw (ne_eqb j i n)

  granted_same : (i u t o : ℕ) → granted_at (view_stored v (Some (Granted i u t o))) i ≡ Some (Granted i u t o)
  unfolding granted_at
  granted_same i u t o = rw (eq-eqb i i refl)

  granted_other : (i u t o j : ℕ) → j ≢ i → granted_at (view_stored v (Some (Granted i u t o))) j ≡ granted_at v j
  unfolding granted_at
  granted_other i u t o j n = rw (ne_eqb j i n)

  entry_same : (e : Option Entry) → valid e ≡ true → entry (view_stored v e) (number_of e) ≡ e
  unfolding number_of
  entry_same (Some (Object x s)) h =
      let w = and_both (ltb x 64) (known s) h in
      at_object (view_stored v (Some (Object x s))) x (ltb-true x 64 w.0) ∙ object_same x s w.1
  entry_same (Some (Membership x g)) h =
      let w = and_both (ltb x 64) (ltb g 64) h in
      at_membership (view_stored v (Some (Membership x g))) x g (ltb-true x 64 w.0) (ltb-true g 64 w.1) ∙ membership_same x g
  entry_same (Some (Appointed i k u a b)) h =
      let w = and_both (ltb i 32) (known k) h in
      at_appointed (view_stored v (Some (Appointed i k u a b))) i (ltb-true i 32 w.0) ∙ appointed_same i k u a b w.1
  entry_same (Some (Granted i u t o)) h = at_granted (view_stored v (Some (Granted i u t o))) i (ltb-true i 64 h) ∙ granted_same i u t o
  entry_same None h = absurd (false≢true h)

  entry_other : (e : Option Entry) (k : ℕ) → valid e ≡ true → k ≢ number_of e → entry (view_stored v e) k ≡ entry v k
  unfolding entry number_of object_at membership_at appointed_at granted_at
  entry_other (Some (Object x s)) k h n = go (ltb k 64)
    where
      go : (t : Bool) → entry_by t (ltb k 4160) (ltb k 4192) (view_stored v (Some (Object x s))) k ≡ entry_by t (ltb k 4160) (ltb k 4192) v k
      go true = object_other x s k n
      go false = refl
  entry_other (Some (Membership x g)) k h n = go (ltb k 64) refl (ltb k 4160) refl
    where
      go : (t : Bool) → ltb k 64 ≡ t → (u : Bool) → ltb k 4160 ≡ u
          → entry_by t u (ltb k 4192) (view_stored v (Some (Membership x g))) k ≡ entry_by t u (ltb k 4192) v k
      go true e u f = refl
      go false e true f = let a = ltb-false k 64 e in membership_other x g ((k - 64) / 64) ((k - 64) % 64) (λ i j. n (omega arith))
      go false e false f = refl
  entry_other (Some (Appointed i c u a b)) k h n = go (ltb k 64) (ltb k 4160) refl (ltb k 4192)
    where
      go : (t u' : Bool) → ltb k 4160 ≡ u' → (w : Bool) → entry_by t u' w (view_stored v (Some (Appointed i c u a b))) k ≡ entry_by t u' w v k
      go true u' f w = refl
      go false true f w = refl
      go false false f true = let l = ltb-false k 4160 f in appointed_other i c u a b (k - 4160) (λ j. n (omega arith))
      go false false f false = refl
  entry_other (Some (Granted i u t o)) k h n = go (ltb k 64) (ltb k 4160) (ltb k 4192) refl
    where
      go : (t' u' w : Bool) → ltb k 4192 ≡ w → entry_by t' u' w (view_stored v (Some (Granted i u t o))) k ≡ entry_by t' u' w v k
      go true u' w f = refl
      go false true w f = refl
      go false false true f = refl
      go false false false f = let l = ltb-false k 4192 f in granted_other i u t o (k - 4192) (λ j. n (omega arith))
  entry_other None k h n = refl

module _ (p : Policy) (e : Option Entry) (z : Sized p) (v : valid e ≡ true) where
  pub stored_same : entry (view (store p e)) (number_of e) ≡ e
  stored_same = ap (λ (w : View). entry w (number_of e)) (view_store p e z v) ∙ entry_same (view p) e v

  pub stored_other : (k : ℕ) → k ≢ number_of e → entry (view (store p e)) k ≡ entry (view p) k
  stored_other k n = ap (λ (w : View). entry w k) (view_store p e z v) ∙ entry_other (view p) e k v n
