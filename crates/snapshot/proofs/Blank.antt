-- The policy with nothing in it has no record, and holds zeros; a store of a record keeps zeros in every other empty place, and stores no
-- membership past the table.
use mathlib.Core.Path.{◌≡◌, refl, sym, ap, ◌∙◌, subst}
use mathlib.Core.Bool.{Bool, true, false, ◌&&◌, true≢false, false≢true}
use mathlib.Core.List.{List}
use Prim.Native.Nat.{ℕ, ◌-◌, ◌/◌, ◌%◌, ◌^◌, ◌<◌}
use native.Mathlib.Nat.{zero-div}
use native.Mathlib.Decide.{ℕ_discrete}
use native.Mathlib.Omega.{arith}
use lib.Dec.{eqb, ltb}
use lib.ListN.{length, get_or, set, replicate}
use lib.Seq.{get_or-set_same, get_or-set_other}
use borrow.Author.Tests.{eqb-true, ltb-true}
use Rattle.std.specs.Prelude.{Option, Some, None}
use Rattle.reach.specs.declared.Policy.{Policy}
use Rattle.reach.specs.Tests.{◌⇒◌∥◌}
use Rattle.reach.specs.Words.{bit, has}
use Rattle.reach.specs.Tables.{View, view, Sized, sort, stored, appointment, rule, counted, standing, no_appointment, no_rule}
use Rattle.reach.specs.Successors.{put, appointed, ruled}
use Rattle.reach.proofs.Sorts.{counted_known}
use Rattle.reach.proofs.Founding.{repeated}
use Rattle.snapshot.specs.declared.Entry.{Entry}
use Rattle.snapshot.specs.declared.Entry.TheVariants.{Object, Membership, Appointed, Granted}
use Rattle.snapshot.specs.Card.{known, object_at, membership_at, appointed_at, granted_at, Zeroed}
use Rattle.snapshot.specs.Loading.{entry, valid, store, blank}
use Rattle.snapshot.proofs.Records.{and_both}
use Rattle.snapshot.proofs.Places.{entry_by}
use Rattle.snapshot.proofs.Storing.{view_stored, view_store}

-- ---- Nothing in it

pub blank_sized : Sized blank
unfolding blank
blank_sized = record { sorts = refl; memberships = refl; appointments = refl; rules = refl }

blank_sort : (x : ℕ) → sort blank x ≡ 0
unfolding blank sort
blank_sort x = go (ltb x 64)
  where
    go : (t : Bool) → (t ⇒ counted (get_or (replicate 64 0) x 0) ∥ 0) ≡ 0
    go true = ap counted (repeated {A = ℕ} 0 64 x) ∙ counted_known 0 (omega arith)
    go false = refl

blank_object : (x : ℕ) → object_at (view blank) x ≡ None
unfolding object_at
blank_object x = rw (blank_sort x, counted_known 0 (omega arith))

blank_membership : (x g : ℕ) → membership_at (view blank) x g ≡ None
unfolding blank membership_at stored has bit
blank_membership x g = rw (repeated {A = ℕ} 0 64 x, zero-div (2 ^ g))

blank_appointed : (i : ℕ) → appointed_at (view blank) i ≡ None
unfolding blank appointed_at appointment standing
blank_appointed i = rw (repeated no_appointment 32 i, counted_known 0 (omega arith))

blank_granted : (i : ℕ) → granted_at (view blank) i ≡ None
unfolding blank granted_at rule
blank_granted i = rw (repeated no_rule 64 i)

pub blank_none : (k : ℕ) → entry (view blank) k ≡ None
unfolding entry
blank_none k = go (ltb k 64) (ltb k 4160) (ltb k 4192)
  where
    go : (t u w : Bool) → entry_by t u w (view blank) k ≡ None
    go true u w = blank_object k
    go false true w = blank_membership ((k - 64) / 64) ((k - 64) % 64)
    go false false true = blank_appointed (k - 4160)
    go false false false = blank_granted (k - 4192)

-- ---- Zeros in every empty place

pub blank_zeroed : Zeroed blank
unfolding blank appointment rule
blank_zeroed =
    record { sorts = λ x e. repeated 0 64 x; appointments = λ i e. repeated no_appointment 32 i; rules = λ i e. repeated no_rule 64 i }

-- Something in use, stored in a table.
zeros-kept {ℓ} : {A : Type ℓ} (l : List A) (i : ℕ) (a d : A) (on : A → Bool) → i < length l → on a ≡ true
    → ((j : ℕ) → on (get_or l j d) ≡ false → get_or l j d ≡ d) → (j : ℕ) → on (get_or (set l i a) j d) ≡ false → get_or (set l i a) j d ≡ d
zeros-kept {A = A} l i a d on h o k j = go (ℕ_discrete j i)
  where
    go : Dec (j ≡ i) → on (get_or (set l i a) j d) ≡ false → get_or (set l i a) j d ≡ d
    go (yes e) f =
        absurd (true≢false (sym o ∙ ap on (sym (get_or-set_same l i a d h)) ∙ ap (λ (n : ℕ). on (get_or (set l i a) n d)) (sym e) ∙ f))
    go (no n) f = get_or-set_other l i j a d n ∙ k j (ap on (sym (get_or-set_other l i j a d n)) ∙ f)

pub store_zeroed : (p : Policy) (e : Option Entry) → Sized p → valid e ≡ true → Zeroed p → Zeroed (store p e)
unfolding put appointed ruled appointment rule standing
store_zeroed p (Some (Object x s)) z h t =
    let w = and_both (ltb x 64) (known s) h in
    record {
      sorts = zeros-kept p.sorts x s 0 (λ n. known n) (omega (arith, z.sorts, ltb-true x 64 w.0)) w.1 t.sorts;
      appointments = t.appointments;
      rules = t.rules;
    }
store_zeroed p (Some (Membership x g)) z h t =
    let w = and_both (ltb x 64) (ltb g 64) h in
    rw (w.0, w.1) (record { sorts = t.sorts; appointments = t.appointments; rules = t.rules })
store_zeroed p (Some (Appointed i k u a b)) z h t =
    let w = and_both (ltb i 32) (known k) h in
    record {
      sorts = t.sorts;
      appointments =
          zeros-kept p.appointments i (record { kind = k; holder = u; a = a; b = b }) no_appointment (λ n. known n.kind)
          (omega (arith, z.appointments, ltb-true i 32 w.0)) w.1 t.appointments;
      rules = t.rules;
    }
store_zeroed p (Some (Granted i u g o)) z h t =
    record {
      sorts = t.sorts;
      appointments = t.appointments;
      rules =
          zeros-kept p.rules i (record { used = true; users = u; targets = g; operations = o }) no_rule (λ n. n.used)
          (omega (arith, z.rules, ltb-true i 64 h)) refl t.rules;
    }
store_zeroed p None z h t = t

-- ---- No membership past the table

abbrev pub Inside : View → Type 0
Inside v = (x g : ℕ) → v.stored x g ≡ true → (x < 64) × (g < 64)

pub blank_inside : Inside (view blank)
unfolding blank stored has bit
blank_inside x g e = absurd (false≢true (rw (repeated {A = ℕ} 0 64 x, zero-div (2 ^ g)) at e))

inside_stored : (v : View) (e : Option Entry) → valid e ≡ true → Inside v → Inside (view_stored v e)
inside_stored v (Some (Object x s)) h n y k = n y k
inside_stored v (Some (Membership x g)) h n y k = go (eqb y x) refl (eqb k g) refl
  where
    w : (ltb x 64 ≡ true) × (ltb g 64 ≡ true)
    w = and_both (ltb x 64) (ltb g 64) h

    go : (t : Bool) → eqb y x ≡ t → (u : Bool) → eqb k g ≡ u → (t && u ⇒ true ∥ v.stored y k) ≡ true → (y < 64) × (k < 64)
    go true e true f c = (
      subst (λ (n : ℕ). n < 64) (sym (eqb-true y x e)) (ltb-true x 64 w.0),
      subst (λ (n : ℕ). n < 64) (sym (eqb-true k g f)) (ltb-true g 64 w.1),
    )
    go true e false f c = n y k c
    go false e u f c = n y k c
inside_stored v (Some (Appointed i c u a b)) h n y k = n y k
inside_stored v (Some (Granted i u t o)) h n y k = n y k
inside_stored v None h n y k = n y k

pub store_inside : (p : Policy) (e : Option Entry) → Sized p → valid e ≡ true → Inside (view p) → Inside (view (store p e))
store_inside p e z h n = subst Inside (sym (view_store p e z h)) (inside_stored (view p) e h n)
