-- The file of a sound policy has at most 25,376 bytes: who owns an object is a user, and a user has no members, so every object is directly in 63
-- groups at the most. A policy without objects has no memberships.
use mathlib.Core.Path.{◌≡◌, refl, ap, ◌∙◌}
use mathlib.Core.Bool.{Bool, true, false}
use mathlib.Core.List.{List, [], ◌++◌}
use Prim.Native.Nat.{ℕ, zero, suc, ◌+◌, ◌-◌, ◌≤◌, ◌<◌, ◌*◌, ◌^◌}
use native.Mathlib.Omega.{arith}
use lib.ListN.{length, length-append}
use Rattle.std.specs.Prelude.{Some, None}
use Rattle.reach.specs.Tests.{◌⇒◌∥◌}
use Rattle.reach.specs.Tables.{View, standing}
use Rattle.reach.specs.declared.Appointment.{Appointment}
use Rattle.reach.specs.declared.AccessRule.{AccessRule}
use Rattle.soundness.specs.Soundness.{Sound}
use Rattle.snapshot.specs.declared.Entry.TheVariants.{Object, Membership, Appointed, Granted}
use Rattle.snapshot.specs.Card.{known, bytes_of, file_of}
use Rattle.snapshot.specs.Card.{object_at, membership_at, appointed_at, granted_at, from, in_order}
use Rattle.snapshot.specs.Answers.{NoneLonger}
use Rattle.snapshot.proofs.Runs.{from_next, from_append, from_length, from_none}

-- ---- The record of a place

object_length : (v : View) (x : ℕ) → length (bytes_of (object_at v x)) ≤ 6
unfolding object_at
object_length v x = go (known (v.sort x))
  where
    go : (t : Bool) → length (bytes_of (t ⇒ Some (Object x (v.sort x)) ∥ None)) ≤ 6
    go true = omega arith
    go false = omega arith

membership_length : (v : View) (x g : ℕ) → length (bytes_of (membership_at v x g)) ≤ 6
unfolding membership_at
membership_length v x g = go (v.stored x g)
  where
    go : (t : Bool) → length (bytes_of (t ⇒ Some (Membership x g) ∥ None)) ≤ 6
    go true = omega arith
    go false = omega arith

appointed_length : (v : View) (i : ℕ) → length (bytes_of (appointed_at v i)) ≤ 9
unfolding appointed_at
appointed_length v i = go (v.appointment i) (standing (v.appointment i))
  where
    go : (w : Appointment) (t : Bool) → length (bytes_of (t ⇒ Some (Appointed i w.kind w.holder w.a w.b) ∥ None)) ≤ 9
    go w true = omega arith
    go w false = omega arith

granted_length : (v : View) (i : ℕ) → length (bytes_of (granted_at v i)) ≤ 8
unfolding granted_at
granted_length v i = go (v.rule i) (v.rule i).used
  where
    go : (r : AccessRule) (t : Bool) → length (bytes_of (t ⇒ Some (Granted i r.users r.targets r.operations) ∥ None)) ≤ 8
    go r true = omega arith
    go r false = omega arith

-- ---- The memberships

not_stored : (v : View) (x g : ℕ) → (v.stored x g ≡ true → ⊥) → bytes_of (membership_at v x g) ≡ []
unfolding membership_at
not_stored v x g n = go (v.stored x g) refl
  where
    go : (t : Bool) → v.stored x g ≡ t → bytes_of (t ⇒ Some (Membership x g) ∥ None) ≡ []
    go true e = absurd (n e)
    go false e = refl

module _ (v : View) (x : ℕ) where
  -- The groups that x is directly in.
  abbrev row : ℕ → ℕ → List ℕ
  row l n = from l n (λ g. bytes_of (membership_at v x g))

  -- One place of 64, that of u, gives nothing.
  row_without : (u : ℕ) → u < 64 → (v.stored x u ≡ true → ⊥) → length (row 64 0) ≤ 378
  row_without u low n =
      let cut : 64 ≡ u + suc (63 - u) = omega arith in
      let zero_plus : 0 + u ≡ u = omega arith in
      let whole : row 64 0 ≡ row u 0 ++ row (suc (63 - u)) u =
      ap (λ (l : ℕ). row l 0) cut
      ∙ from_append u (suc (63 - u)) 0 (λ g. bytes_of (membership_at v x g))
      ∙ ap (λ (k : ℕ). row u 0 ++ row (suc (63 - u)) k) zero_plus in
      let gap : row (suc (63 - u)) u ≡ row (63 - u) (suc u) =
      from_next (63 - u) u (λ g. bytes_of (membership_at v x g))
      ∙ ap (λ (b : List ℕ). b ++ row (63 - u) (suc u)) (not_stored v x u n) in
      let front = from_length u 0 6 (λ g. bytes_of (membership_at v x g)) (λ k a b. membership_length v x k) in
      let back = from_length (63 - u) (suc u) 6 (λ g. bytes_of (membership_at v x g)) (λ k a b. membership_length v x k) in
      let sum : length (row 64 0) ≡ length (row u 0) + length (row (63 - u) (suc u)) =
      ap length whole ∙ length-append (row u 0) (row (suc (63 - u)) u) ∙ ap (λ (b : List ℕ). length (row u 0) + length b) gap in
      omega (arith, front, back, sum)

  row_none : ((g : ℕ) → v.stored x g ≡ true → ⊥) → length (row 64 0) ≤ 378
  row_none n =
      let e = from_none 64 0 (λ g. bytes_of (membership_at v x g)) (λ k a b. not_stored v x k (n k)) in
      omega (arith, ap length e)

-- Who owns it is a user, and no group.
row_length : (v : View) → Sound v → (x : ℕ) → length (from 64 0 (λ g. bytes_of (membership_at v x g))) ≤ 378
row_length v s x = by (v.sort x) refl
  where
    by : (n : ℕ) → v.sort x ≡ n → length (from 64 0 (λ g. bytes_of (membership_at v x g))) ≤ 378
    by zero e = row_none v x (λ g k. omega (arith, (s.memberships x g k).0))
    by (suc n) e =
        let o = s.owners x (omega arith) in
        row_without v x o.place o.low (λ k. omega (arith, (s.memberships x o.place k).1, o.at.user))

-- ---- The whole

-- By how long a row is at most.
file_by_rows : (v : View) (n : ℕ) → ((x : ℕ) → length (from 64 0 (λ g. bytes_of (membership_at v x g))) ≤ n)
    → length (file_of v) ≤ 1184 + n * 64
unfolding in_order
file_by_rows v n rows =
    let o = from_length 64 0 6 (λ x. bytes_of (object_at v x)) (λ k a b. object_length v k) in
    let m = from_length 64 0 n (λ x. from 64 0 (λ g. bytes_of (membership_at v x g))) (λ k a b. rows k) in
    let w = from_length 32 0 9 (λ i. bytes_of (appointed_at v i)) (λ k a b. appointed_length v k) in
    let r = from_length 64 0 8 (λ i. bytes_of (granted_at v i)) (λ k a b. granted_length v k) in
    omega (
      arith,
      o,
      m,
      w,
      r,
      length-append (from 64 0 (λ x. bytes_of (object_at v x))) (from 64 0 (λ x. from 64 0 (λ g. bytes_of (membership_at v x g)))),
      length-append (from 64 0 (λ x. bytes_of (object_at v x)) ++ from 64 0 (λ x. from 64 0 (λ g. bytes_of (membership_at v x g))))
          (from 32 0 (λ i. bytes_of (appointed_at v i))),
      length-append
          (from 64 0 (λ x. bytes_of (object_at v x)) ++ from 64 0 (λ x. from 64 0 (λ g. bytes_of (membership_at v x g)))
          ++ from 32 0 (λ i. bytes_of (appointed_at v i)))
          (from 64 0 (λ i. bytes_of (granted_at v i))),
    )

pub largest_file : NoneLonger
largest_file v s = file_by_rows v 378 (row_length v s)

-- The length of any file, of a sound policy or not, fits a word.
pub file_fits : (v : View) → length (file_of v) < 2 ^ 64
file_fits v =
    let short =
    file_by_rows v 384 (λ x. from_length 64 0 6 (λ g. bytes_of (membership_at v x g)) (λ k a b. membership_length v x k)) in
    omega (arith, short)
