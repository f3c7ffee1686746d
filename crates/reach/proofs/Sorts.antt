-- The sort of an object as it counts, against the byte that is stored: on the table the two agree on 1, 2 and 3, and whatever is in
-- use has one of these. By the two cases of `counted`.
use mathlib.Core.Path.{◌≡◌, refl, sym, ap, ◌∙◌}
use mathlib.Core.List.{List}
use mathlib.Core.Bool.{Bool, true, false}
use mathlib.Core.Logic.{◌⊎◌, inl, inr, ⊎_elim}
use Prim.Native.Nat.{ℕ, ◌≤◌, ◌<◌, zero-le}
use native.Mathlib.Decide.{dec_lt}
use native.Mathlib.Omega.{arith}
use lib.Dec.{eqb, leb, ltb}
use lib.ListN.{length, get_or}
use borrow.Author.Tests.{eqb-true, eq-eqb, le-leb, leb-true, lt-ltb, le-ltb}
use Rattle.std.specs.Prelude.{Option, Some, None, is_some}
use Rattle.std.specs.Option.{option_eq}
use Rattle.reach.specs.contracts.SortPartialEq.TheImpl.{eq-value}
use Rattle.reach.specs.declared.Policy.{Policy}
use Rattle.reach.specs.declared.Sort.{Sort}
use Rattle.reach.specs.declared.Post.{Post}
use Rattle.reach.specs.declared.Post.TheVariants.{Owner, Manager, Administrator}
use Rattle.reach.specs.Tests.{◌⇒◌∥◌, Decides}
use Rattle.reach.specs.Tables.{counted, sort_number, post_number, sort_in, sort, view}
use Rattle.reach.specs.Reach.{InUse, Group, User, Target, in_use, is_group, is_user, is_target}
use Rattle.reach.specs.Words.{SetOf}
use Rattle.reach.proofs.Lists.{get_d_past}
use Rattle.reach.proofs.Chains.{in_use_below}
use Rattle.reach.proofs.WordSets.{set_as}

-- A known sort or kind counts as it is, and none counts as more than 3.
pub counted_known : (n : ℕ) → n ≤ 3 → counted n ≡ n
unfolding counted
counted_known n l = rw (le-leb n 3 l)

counted_cases : (n : ℕ) → (counted n ≡ 0) ⊎ ((counted n ≡ n) × (n ≤ 3))
unfolding counted
counted_cases n = go (leb n 3) refl
  where
    go : (t : Bool) → leb n 3 ≡ t → ((t ⇒ n ∥ 0) ≡ 0) ⊎ (((t ⇒ n ∥ 0) ≡ n) × (n ≤ 3))
    go true e = inr (refl, leb-true n 3 e)
    go false e = inl refl

pub counted_le : (n : ℕ) → counted n ≤ 3
counted_le n = ⊎_elim (λ e. omega (arith, e)) (λ w. omega (arith, w.0, w.1)) (counted_cases n)

pub counted_unknown : (n : ℕ) → 3 < n → counted n ≡ 0
counted_unknown n l = ⊎_elim (λ e. e) (λ w. absurd (omega (arith, w.1, l))) (counted_cases n)

-- Some sort is a number above 0, and some post too.
pub some_sort : (o : Option Sort) → is_some o ≡ ltb 0 (sort_number o)
some_sort None = refl
some_sort (Some Sort.Group) = refl
some_sort (Some Sort.User) = refl
some_sort (Some Sort.Target) = refl

pub some_post : (o : Option Post) → is_some o ≡ ltb 0 (post_number o)
some_post None = refl
some_post (Some Owner) = refl
some_post (Some Manager) = refl
some_post (Some Administrator) = refl

-- An object is of a sort exactly if its sort has that number.
pub of_sort : (o : Option Sort) (k : Sort) → option_eq eq-value.it o (Some k) ≡ eqb (sort_number o) (sort_number (Some k))
of_sort None Sort.Group = refl
of_sort None Sort.User = refl
of_sort None Sort.Target = refl
of_sort (Some Sort.Group) Sort.Group = refl
of_sort (Some Sort.Group) Sort.User = refl
of_sort (Some Sort.Group) Sort.Target = refl
of_sort (Some Sort.User) Sort.Group = refl
of_sort (Some Sort.User) Sort.User = refl
of_sort (Some Sort.User) Sort.Target = refl
of_sort (Some Sort.Target) Sort.Group = refl
of_sort (Some Sort.Target) Sort.User = refl
of_sort (Some Sort.Target) Sort.Target = refl

-- On a table of 64 bytes the sort is the byte at its place, as it counts; past its end there is none.
pub sort_in_is : (l : List ℕ) (x : ℕ) → length l ≡ 64 → counted (get_or l x 0) ≡ sort_in l x
sort_in_is l x e =
    elim (dec_lt x 64) [
      | yes k ↦ rw (lt-ltb x 64 k)
      | no n ↦ rw (le-ltb x 64 (omega arith), get_d_past l x 0 (omega (arith, e, n)), counted_known 0 (omega arith))
    ]

-- The sort of an object is read of the table of sorts alone.
pub sort_is : (p : Policy) (x : ℕ) → sort_in p.sorts x ≡ sort p x
unfolding sort
sort_is p x = refl

-- And so are the tests of an object: whether it is in use, and of which sort.
pub in_use_is : (p : Policy) (x : ℕ) → in_use p x ≡ ltb 0 (sort_in p.sorts x)
unfolding in_use sort
in_use_is p x = refl

pub is_group_is : (p : Policy) (x : ℕ) → is_group p x ≡ eqb (sort_in p.sorts x) 1
unfolding sort
is_group_is p x = refl

pub is_user_is : (p : Policy) (x : ℕ) → is_user p x ≡ eqb (sort_in p.sorts x) 2
unfolding sort
is_user_is p x = refl

pub is_target_is : (p : Policy) (x : ℕ) → is_target p x ≡ eqb (sort_in p.sorts x) 3
unfolding sort
is_target_is p x = refl

pub sort_at : (p : Policy) (x : ℕ) → x < 64 → sort p x ≡ counted (get_or p.sorts x 0)
unfolding sort
sort_at p x l = rw (lt-ltb x 64 l)

pub sort_le : (p : Policy) (x : ℕ) → sort p x ≤ 3
unfolding sort
sort_le p x = go (ltb x 64)
  where
    go : (t : Bool) → (t ⇒ counted (get_or p.sorts x 0) ∥ 0) ≤ 3
    go true = counted_le (get_or p.sorts x 0)
    go false = zero-le

-- The stored byte decides a sort that is not empty.
pub decides_sort : (p : Policy) (x k : ℕ) → x < 64 → 0 < k → k ≤ 3 → Decides (eqb (get_or p.sorts x 0) k) (sort p x ≡ k)
decides_sort p x k l a b =
    record {
      sound = λ e. let q = eqb-true _ _ e in sort_at p x l ∙ counted_known _ (omega (arith, q, b)) ∙ q;
      complete = λ e.
          let q : counted (get_or p.sorts x 0) ≡ k = sym (sort_at p x l) ∙ e in
          eq-eqb _ _ (⊎_elim (λ z. absurd (omega (arith, z, q, a))) (λ w. sym w.0 ∙ q) (counted_cases _));
    }

-- The objects of a sort, by the stored bytes.
pub sort_set : (p : Policy) (l : List ℕ) → p.sorts ≡ l → (k : ℕ) {s : ℕ} → 0 < k → k ≤ 3
    → SetOf s (λ x. (x < 64) × (get_or l x 0 ≡ k)) → SetOf s (λ x. sort p x ≡ k)
sort_set p l e k a b s =
    set_as
    s
    (λ x w. (decides_sort p x k w.0 a b).sound (eq-eqb _ _ (ap (λ (t : List ℕ). get_or t x 0) e ∙ w.1)))
    (λ x f.
    let n = in_use_below p x (omega (arith, a, f)) in
    (n, ap (λ (t : List ℕ). get_or t x 0) (sym e) ∙ eqb-true _ _ ((decides_sort p x k n a b).complete f)))

-- What is in use is a group, a user or a target.
pub in_use_cases : (p : Policy) (x : ℕ) → InUse (view p) x → (Group (view p) x ⊎ User (view p) x) ⊎ Target (view p) x
in_use_cases p x i =
    elim (dec_lt (sort p x) 2) [
      | yes l ↦ inl (inl (omega (arith, i, l)))
      | no n ↦
          elim (dec_lt (sort p x) 3) [
            | yes l ↦ inl (inr (omega (arith, n, l)))
            | no m ↦ inr (omega (arith, m, sort_le p x))
          ]
    ]

pub in_use_of_sort : (p : Policy) (x : ℕ) → (Group (view p) x ⊎ User (view p) x) ⊎ Target (view p) x → InUse (view p) x
in_use_of_sort p x w = ⊎_elim (λ v. ⊎_elim (λ e. omega (arith, e)) (λ e. omega (arith, e)) v) (λ e. omega (arith, e)) w

-- ---- The masks are those of the sorts

sort_same : (p n : Policy) → n.sorts ≡ p.sorts → (x : ℕ) → sort n x ≡ sort p x
unfolding sort
sort_same p n e x = rw e
