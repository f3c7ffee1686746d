-- What is penned one after the other is penned as one text; so a loop over places pens their run. By the laws of text on what is written, and
-- lengths that add up.
use mathlib.Core.Path.{◌≡◌, refl, sym, ap, ◌∙◌, subst}
use mathlib.Core.Bool.{Bool, true, false}
use mathlib.Core.Logic.{◌⊎◌, inl, inr, ⊎_elim}
use mathlib.Core.List.{List, [], ◌∷◌, ◌++◌}
use Prim.Native.Nat.{ℕ, zero, suc, ◌+◌, ◌^◌, ◌≤◌, ◌<◌}
use native.Mathlib.Omega.{arith}
use lib.Dec.{leb, ltb}
use lib.ListN.{length, get_or, take, drop, length-append}
use lib.Seq.{take_all}
use Rattle.std.specs.Prelude.{Option, Some, None}
use Rattle.reach.specs.declared.Policy.{Policy}
use Rattle.reach.specs.Tests.{◌⇒◌∥◌}
use Rattle.reach.specs.Tables.{standing, view, counted, stored, appointment, rule, no_appointment, no_rule}
use Rattle.reach.proofs.Sorts.{sort_at}
use Rattle.text.specs.Text.{Bytes}
use Rattle.text.proofs.Paging.{puts_none, puts_then, printed_page}
use Rattle.list.specs.Filling.{over}
use Rattle.snapshot.specs.declared.Entry.{Entry}
use Rattle.snapshot.specs.declared.writing.Writer.{Writer}
use Rattle.snapshot.specs.declared.Entry.TheVariants.{Object}
use Rattle.snapshot.specs.Card.{bytes_of, object_of, appointed_of, granted_of, object_at, membership_at, appointed_at, granted_at, from}
use Rattle.snapshot.specs.Writing.{Penned, page_of, entry_in, row_of}
use Rattle.std.specs.List.{slice_get}
use Rattle.std.proofs.lemmas.Option.{slice_get-get_or}
use Rattle.snapshot.proofs.Runs.{from_end, from_same, from_more}

pub penned_as : {v w : Bytes} {a b : Writer} → v ≡ w → Penned a v b → Penned a w b
penned_as {a = a} {b} e p = subst (λ (t : Bytes). Penned a t b) e p

pub penned_then : {v w : Bytes} {a b c : Writer} → Penned a v b → Penned b w c → Penned a (v ++ w) c
penned_then {v} {w} p q =
    record {
      puts = puts_then p.puts q.puts;
      count = λ n e. let both = q.count (n + length v) (p.count n e) in omega (arith, both, length-append v w);
    }

-- Nothing is penned where there is nothing.
pub penned_nothing : {v : Bytes} {pen : Writer} → v ≡ [] → Penned pen v pen
penned_nothing {v} {pen} e = penned_as (sym e) (record { puts = puts_none (page_of pen); count = λ n f. omega (arith, f) })

-- No place yet, and one place more.
pub penned_start : {pen : Writer} (f : ℕ → Bytes) → Penned pen (from 0 0 f) pen
penned_start f = penned_nothing (from_end 0 f)

pub penned_more : {a b c : Writer} (f : ℕ → Bytes) (k : ℕ) → Penned a (from k 0 f) b → Penned b (f k) c → Penned a (from (k + 1) 0 f) c
penned_more f k p q = penned_as (sym (from_more k f)) (penned_then p q)

-- ---- The tables of a policy

pub entry_within : {A : Type 0} (f : A → ℕ → Option Entry) (l : List A) (i : ℕ) (d : A) → i < length l → entry_in f l i ≡ f (get_or l i d) i
entry_within f l i d h = rw (slice_get-get_or l i d h)

-- The same at every number, where an empty place has no record.
entry_in_is : {A : Type 0} (f : A → ℕ → Option Entry) (l : List A) (i : ℕ) (d : A) → f d i ≡ None → entry_in f l i ≡ f (get_or l i d) i
entry_in_is {A} f l i d e = ⊎_elim (λ h. rw h) (λ h. rw (h.0, h.1) (sym e)) (read l i)
  where
    read : (m : List A) (k : ℕ) → (slice_get m k ≡ Some (get_or m k d)) ⊎ ((slice_get m k ≡ None) × (get_or m k d ≡ d))
    read [] k = inr (refl, refl)
    read (x ∷ m) zero = inl refl
    read (x ∷ m) (suc k) = read m k

-- What a table holds is what is read of it.
module _ (p : Policy) where
  known_of_counted : (n x : ℕ) → object_of n x ≡ object_of (counted n) x
  unfolding counted
  known_of_counted n x = go (leb n 3) refl
    where
      go : (t : Bool) → leb n 3 ≡ t → (ltb 0 (t ⇒ n ∥ 0) ⇒ Some (Object x n) ∥ None) ≡ (ltb 0 (counted (t ⇒ n ∥ 0)) ⇒ Some (Object x (t ⇒ n ∥ 0)) ∥ None)
      go true e = rw e
      go false e = refl

  object_is : (x : ℕ) → x < 64 → object_of (get_or p.sorts x 0) x ≡ object_at (view p) x
  unfolding object_at
  object_is x l = known_of_counted (get_or p.sorts x 0) x ∙ ap (λ (n : ℕ). object_of n x) (sym (sort_at p x l))

  pub objects_are : from 64 0 (λ x. bytes_of (entry_in object_of p.sorts x)) ≡ from 64 0 (λ x. bytes_of (object_at (view p) x))
  unfolding counted
  objects_are = from_same 64 0 _ _ (λ x a b. ap bytes_of (entry_in_is object_of p.sorts x 0 refl ∙ object_is x (omega arith)))

  pub appointments_are : from 32 0 (λ i. bytes_of (entry_in appointed_of p.appointments i)) ≡ from 32 0 (λ i. bytes_of (appointed_at (view p) i))
  unfolding appointed_at appointment standing counted
  appointments_are = from_same 32 0 _ _ (λ i a b. ap bytes_of (entry_in_is appointed_of p.appointments i no_appointment refl))

  pub rules_are : from 64 0 (λ i. bytes_of (entry_in granted_of p.rules i)) ≡ from 64 0 (λ i. bytes_of (granted_at (view p) i))
  unfolding granted_at rule
  rules_are = from_same 64 0 _ _ (λ i a b. ap bytes_of (entry_in_is granted_of p.rules i no_rule refl))

  pub memberships_are : from 64 0 (λ x. row_of (get_or p.memberships x 0) x)
      ≡ from 64 0 (λ x. from 64 0 (λ g. bytes_of (membership_at (view p) x g)))
  unfolding membership_at stored
  memberships_are = refl

-- ---- The whole file

-- As much of it as there is room for stands at the start, and the rest is as it was.
pub bytes_of_penned : {o w : Bytes} {a b : Writer} → a.pen.at ≡ 0 → a.out.now ≡ o → Penned a w b
    → b.out.now ≡ take (length o) w ++ drop (length w) o
bytes_of_penned e f p = (printed_page e f p.puts).bytes

-- Where there is room for it, all of it.
pub over_of_bytes : (w o : Bytes) {o' : Bytes} → o' ≡ take (length o) w ++ drop (length w) o → length w ≤ length o → o' ≡ over w o
over_of_bytes w o e l = e ∙ ap (λ (t : Bytes). t ++ drop (length w) o) (take_all (length o) w l)

pub length_of_penned : {w : Bytes} {a b : Writer} → a.pen.needed ≡ 0 → Penned a w b → length w < 2 ^ 64 → b.pen.needed ≡ length w
length_of_penned e p fits = let counted = p.count 0 e in omega (arith, counted, fits)
