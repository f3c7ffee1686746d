-- What the reader takes is the file of the policy that it gives. By induction on the records: each rises above those before it, so the places
-- between are empty, and a later store leaves it as it is.
use mathlib.Core.Path.{◌≡◌, refl, sym, ap, ◌∙◌}
use mathlib.Core.Bool.{Bool, true, false, ◌&&◌}
use mathlib.Core.Logic.{◌⊎◌, inl, inr}
use mathlib.Core.List.{[], ◌∷◌, ◌++◌}
use Prim.Native.Nat.{ℕ, zero, suc, ◌+◌, ◌-◌, ◌≤◌, ◌<◌}
use native.Mathlib.Nat.{le_refl}
use native.Mathlib.Omega.{arith}
use lib.Dec.{eqb, leb}
use lib.ListN.{length, drop}
use borrow.Author.Tests.{eqb-true, leb-true}
use Rattle.std.specs.Prelude.{Option, None, Result, Ok, Err}
use Rattle.frame.proofs.Steps.{clash}
use Rattle.reach.specs.declared.Policy.{Policy}
use Rattle.reach.specs.Tests.{◌⇒◌∥◌}
use Rattle.reach.specs.Tables.{view, Sized}
use Rattle.text.specs.Text.{Bytes}
use Rattle.snapshot.specs.declared.Entry.{Entry}
use Rattle.snapshot.specs.declared.CardError.{CardError}
use Rattle.snapshot.specs.declared.CardError.TheVariants.{Damaged}
use Rattle.snapshot.specs.Card.{bytes_of, from, file_of, Zeroed}
use Rattle.snapshot.specs.Loading.{places, number_of, entry, front, valid, size_of, store, blank, load}
use Rattle.snapshot.proofs.Records.{front_whole, number_low}
use Rattle.snapshot.proofs.Runs.{from_skip, from_none, from_next}
use Rattle.snapshot.proofs.Places.{each, file_is}
use Rattle.snapshot.proofs.Storing.{store_sized, stored_same, stored_other}
use Rattle.snapshot.proofs.Blank.{blank_sized, blank_none, blank_zeroed, store_zeroed}

-- The policy t, read from the bytes b after what p has below place n.
pub record Took (p : Policy) (n : ℕ) (b : Bytes) (t : Policy) : Type 0 where
  pub zeroed : Zeroed t
  pub sized : Sized t
  pub file : from (places - n) n (each bytes_of (view t)) ≡ b
  pub before : (k : ℕ) → k < n → entry (view t) k ≡ entry (view p) k

-- Nothing stands at n or a later place.
abbrev pub Open : Policy → ℕ → Type 0
Open p n = (k : ℕ) → n ≤ k → k < places → entry (view p) k ≡ None

took_end : (p : Policy) (n : ℕ) (b : Bytes) → Sized p → Zeroed p → Open p n → n ≤ places → length b ≡ 0 → Took p n b p
took_end p n [] z d o l e =
    record {
      zeroed = d;
      sized = z;
      file = from_none (places - n) n (each bytes_of (view p)) (λ k a b. ap bytes_of (o k a (omega arith)));
      before = λ k a. refl;
    }
took_end p n (x ∷ b) z d o l e = absurd (omega arith)

took_step : (p t : Policy) (n : ℕ) (b : Bytes) → Open p n → Sized p → valid (front b) ≡ true → n ≤ number_of (front b)
    → Took (store p (front b)) (suc (number_of (front b))) (drop (size_of (front b)) b) t → Took p n b t
took_step p t n b o z v h w =
    record {
      zeroed = w.zeroed;
      sized = w.sized;
      file =
          ap (λ (l : ℕ). from l n (each bytes_of (view t))) long
          ∙ from_skip (m - n) (suc (places - suc m)) n (each bytes_of (view t)) skip
          ∙ ap (λ (k : ℕ). from (suc (places - suc m)) k (each bytes_of (view t))) here
          ∙ whole;
      before = λ k a. w.before k (omega arith) ∙ stored_other p (front b) z v k (λ q. omega arith);
    }
  where
    m : ℕ
    m = number_of (front b)

    long : places - n ≡ (m - n) + suc (places - suc m)
    long = omega (arith, number_low (front b) v)

    here : n + (m - n) ≡ m
    here = omega arith

    skip : (k : ℕ) → n ≤ k → k < n + (m - n) → bytes_of (entry (view t) k) ≡ []
    skip k a c =
        ap bytes_of
        (w.before k (omega arith)
        ∙ stored_other p (front b) z v k (λ q. omega arith)
        ∙ o k a (omega (arith, number_low (front b) v)))

    whole : from (suc (places - suc m)) m (each bytes_of (view t)) ≡ b
    whole =
        from_next (places - suc m) m (each bytes_of (view t))
        ∙ ap (λ (x : Option Entry). bytes_of x ++ from (places - suc m) (suc m) (each bytes_of (view t)))
        (w.before m (le_refl (suc m)) ∙ stored_same p (front b) z v)
        ∙ ap (λ (x : Bytes). bytes_of (front b) ++ x) w.file
        ∙ sym (front_whole b v)

open_step : (p : Policy) (n : ℕ) (e : Option Entry) → Sized p → Open p n → valid e ≡ true → n ≤ number_of e → Open (store p e) (suc (number_of e))
open_step p n e z o v h k a b = stored_other p e z v k (λ q. omega arith) ∙ o k (omega arith) b

abbrev Taking : Policy → ℕ → Bytes → Result Policy CardError → Type 0
Taking p n b r = (t : Policy) → r ≡ Ok t → Took p n b t

taking_end : (p : Policy) (n : ℕ) (b : Bytes) → Sized p → Zeroed p → Open p n → n ≤ places → length b ≡ 0 → Taking p n b (Ok p)
taking_end p n b z d o l e t c = let same : p ≡ t = cc in rw (← same) (took_end p n b z d o l e)

taking_none : (p : Policy) (n : ℕ) (b : Bytes) → Taking p n b (Err Damaged)
taking_none p n b t c = clash cc

took : (l : ℕ) (p : Policy) (n : ℕ) (b : Bytes) → Sized p → Zeroed p → Open p n → n ≤ places → Taking p n b (load l p n b)
unfolding load
took zero p n b z d o l = go (eqb (length b) 0) refl
  where
    go : (t : Bool) → eqb (length b) 0 ≡ t → Taking p n b (t ⇒ Ok p ∥ Err Damaged)
    go true e = taking_end p n b z d o l (eqb-true _ _ e)
    go false e = taking_none p n b
took (suc i) p n b z d o l =
    go (load i (store p (front b)) (suc (number_of (front b))) (drop (size_of (front b)) b))
    (took i (store p (front b)) (suc (number_of (front b))) (drop (size_of (front b)) b))
    (eqb (length b) 0) refl (valid (front b)) refl (leb n (number_of (front b))) refl
  where
    go : (r : Result Policy CardError)
        → (Sized (store p (front b)) → Zeroed (store p (front b)) → Open (store p (front b)) (suc (number_of (front b)))
        → suc (number_of (front b)) ≤ places
        → Taking (store p (front b)) (suc (number_of (front b))) (drop (size_of (front b)) b) r)
        → (t : Bool) → eqb (length b) 0 ≡ t → (u : Bool) → valid (front b) ≡ u → (w : Bool) → leb n (number_of (front b)) ≡ w
        → Taking p n b (t ⇒ Ok p ∥ u && w ⇒ r ∥ Err Damaged)
    go r more true e u f w g t c = taking_end p n b z d o l (eqb-true _ _ e) t c
    go r more false e true f true g t c =
        let h = leb-true n (number_of (front b)) g in
        took_step p t n b o z f h
        (more (store_sized p (front b) z) (store_zeroed p (front b) z f d) (open_step p n (front b) z o f h) (number_low (front b) f) t c)
    go r more false e true f false g t c = taking_none p n b t c
    go r more false e false f w g t c = taking_none p n b t c

pub load_took : (b : Bytes) (t : Policy) → load (length b) blank 0 b ≡ Ok t → Took blank 0 b t
unfolding places
load_took b = took (length b) blank 0 b blank_sized blank_zeroed (λ k c d. blank_none k) (omega arith)

-- Its file, whole.
pub took_file : (b : Bytes) (t : Policy) → Took blank 0 b t → file_of (view t) ≡ b
unfolding places
took_file b t w = sym (file_is (view t)) ∙ w.file

-- What is not taken is turned away as damaged.
pub taken_or_damage : (l : ℕ) (p : Policy) (n : ℕ) (b : Bytes) → (load l p n b ≡ Err Damaged) ⊎ ((t : Policy) × (load l p n b ≡ Ok t))
unfolding load
taken_or_damage zero p n b = go (eqb (length b) 0)
  where
    go : (t : Bool) → ((t ⇒ Ok p ∥ Err Damaged) ≡ Err Damaged) ⊎ ((q : Policy) × ((t ⇒ Ok p ∥ Err Damaged) ≡ Ok q))
    go true = inr (p, refl)
    go false = inl refl
taken_or_damage (suc l) p n b =
    go (load l (store p (front b)) (suc (number_of (front b))) (drop (size_of (front b)) b))
    (taken_or_damage l (store p (front b)) (suc (number_of (front b))) (drop (size_of (front b)) b))
    (eqb (length b) 0) (valid (front b) && leb n (number_of (front b)))
  where
    go : (r : Result Policy CardError) → (r ≡ Err Damaged) ⊎ ((q : Policy) × (r ≡ Ok q)) → (t u : Bool)
        → ((t ⇒ Ok p ∥ u ⇒ r ∥ Err Damaged) ≡ Err Damaged) ⊎ ((q : Policy) × ((t ⇒ Ok p ∥ u ⇒ r ∥ Err Damaged) ≡ Ok q))
    go r h true u = inr (p, refl)
    go r h false true = h
    go r h false false = inl refl
