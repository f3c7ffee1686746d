-- Check 5 as a table of limits: a request is off the sheet exactly if one of its numbers is outside its range, whichever and by however
-- much. Kind by kind, each condition by what it lets pass.
use mathlib.Core.Path.{◌≡◌, refl, ap}
use mathlib.Core.Bool.{Bool, true, false, not}
use Prim.Native.Nat.{ℕ, ◌≤◌}
use native.Mathlib.Omega.{arith}
use lib.Dec.{eqb, ltb}
use lib.NonEmpty.{List⁺, one, ◌∷⁺◌, Each⁺}
use Rattle.std.specs.Prelude.{Err}
use Rattle.reach.specs.declared.Policy.{Policy}
use Rattle.reach.specs.Tests.{◌⇒◌∥◌}
use Rattle.reach.specs.Privileges.{administrator}
use Rattle.reach.proofs.Testing.{decides_and, decides_eqb}
use Rattle.rules.specs.declared.Request.{Request}
use Rattle.rules.specs.declared.Request.TheVariants.{Make, Put, Take, Appoint, Dismiss, Grant, Withdraw, Use}
use Rattle.rules.specs.declared.Refusal.TheVariants.{OffTheSheet}
use Rattle.rules.specs.Refusals.{stranger, one_to_three, off_the_sheet}
use Rattle.rules.specs.Judging.{verdict_on, verdict}
use Rattle.rules.proofs.Encoding.{encoded, Read, read_back}
use Rattle.rules.proofs.Passing.{Passes, passes_as, passes_or, passes_not, passes_of, passes_ltb, decides_leb}

-- A number of a record, and the least and the greatest that it may be.
pub record Limit : Type 0 where
  pub least : ℕ
  pub number : ℕ
  pub greatest : ℕ

abbrev pub Within : Limit → Type 0
Within l = (l.least ≤ l.number) × (l.number ≤ l.greatest)

-- [01:keeps.6] "64 objects, numbers 0 to 63"; [01:keeps.14] "64 rules, places 0 to 63".
abbrev pub object : ℕ → Limit
object x = record { least = 0; number = x; greatest = 63 }

abbrev pub rule_place : ℕ → Limit
rule_place i = record { least = 0; number = i; greatest = 63 }

-- [01:keeps.11] "32 warrants, places 0 to 31".
abbrev pub appointment_place : ℕ → Limit
appointment_place i = record { least = 0; number = i; greatest = 31 }

-- [01:no.5] "MAKE sort or APPOINT kind not 1 to 3; B not 0 for kinds 1, 2; operation set 0; operation above 7"
abbrev pub sort_or_kind : ℕ → Limit
sort_or_kind k = record { least = 1; number = k; greatest = 3 }

abbrev pub group_b : ℕ → ℕ → Limit
group_b k b = record { least = 0; number = b; greatest = eqb k administrator ⇒ 63 ∥ 0 }

abbrev pub operation_set : ℕ → Limit
operation_set o = record { least = 1; number = o; greatest = o }

abbrev pub operation : ℕ → Limit
operation k = record { least = 0; number = k; greatest = 7 }

-- The numbers of a request of each kind.
abbrev pub limits_of : Request → List⁺ Limit
limits_of (Make i s g) = object i ∷⁺ sort_or_kind s ∷⁺ one (object g)
limits_of (Put x g) = object x ∷⁺ one (object g)
limits_of (Take x g) = object x ∷⁺ one (object g)
limits_of (Appoint i k h a b) = appointment_place i ∷⁺ sort_or_kind k ∷⁺ object h ∷⁺ object a ∷⁺ one (group_b k b)
limits_of (Dismiss i) = one (appointment_place i)
limits_of (Grant i u t o) = rule_place i ∷⁺ object u ∷⁺ object t ∷⁺ one (operation_set o)
limits_of (Withdraw i) = one (rule_place i)
limits_of (Use x k) = object x ∷⁺ one (operation k)

-- ---- Each limit

most : (n x : ℕ) → Passes (ltb n x) ((0 ≤ x) × (x ≤ n))
most n x = passes_as (passes_ltb n x) (λ h. (omega arith, h)) (λ w. w.1)

one_to_three_passes : (k : ℕ) → Passes (not (one_to_three k)) (Within (sort_or_kind k))
one_to_three_passes k = passes_not _ (decides_and _ _ (decides_leb 1 k) (decides_leb k 3))

b_limit : (k b : ℕ) → Passes (eqb k administrator ⇒ ltb 63 b ∥ not (eqb b 0)) (Within (group_b k b))
b_limit k b = go (eqb k administrator)
  where
    go : (t : Bool) → Passes (t ⇒ ltb 63 b ∥ not (eqb b 0)) ((0 ≤ b) × (b ≤ (t ⇒ 63 ∥ 0)))
    go true = most 63 b
    go false = passes_as (passes_not _ (decides_eqb b 0)) (λ e. (omega arith, omega (arith, e))) (λ w. omega (arith, w.1))

some_set : (o : ℕ) → Passes (eqb o 0) (Within (operation_set o))
some_set o = passes_as (passes_of _ (decides_eqb o 0)) (λ n. (positive o n, omega arith)) (λ w e. omega (arith, w.0, e))
  where
    positive : (o : ℕ) → (o ≡ 0 → ⊥) → 1 ≤ o
    positive o n = omega (arith, n)

-- ---- The whole

-- [01:no.5] off the sheet: within all its limits a request is not.
pub limits : (q : Request) → Passes (off_the_sheet q) (Each⁺ Within (limits_of q))
unfolding off_the_sheet
limits (Make i s g) =
    passes_as
    (passes_or _ _ (passes_or _ _ (most 63 i) (one_to_three_passes s)) (most 63 g))
    (λ w. (w.0.0, (w.0.1, w.1)))
    (λ w. ((w.0, w.1.0), w.1.1))
limits (Put x g) = passes_or _ _ (most 63 x) (most 63 g)
limits (Take x g) = passes_or _ _ (most 63 x) (most 63 g)
limits (Appoint i k h a b) =
    passes_as
    (passes_or _ _ (passes_or _ _ (passes_or _ _ (passes_or _ _ (most 31 i) (one_to_three_passes k)) (most 63 h)) (most 63 a)) (b_limit k b))
    (λ w. (w.0.0.0.0, (w.0.0.0.1, (w.0.0.1, (w.0.1, w.1)))))
    (λ w. ((((w.0, w.1.0), w.1.1.0), w.1.1.1.0), w.1.1.1.1))
limits (Dismiss i) = most 31 i
limits (Grant i u t o) =
    passes_as
    (passes_or _ _ (passes_or _ _ (passes_or _ _ (most 63 i) (most 63 u)) (most 63 t)) (some_set o))
    (λ w. (w.0.0.0, (w.0.0.1, (w.0.1, w.1))))
    (λ w. (((w.0, w.1.0), w.1.1.0), w.1.1.1))
limits (Withdraw i) = most 63 i
limits (Use x k) = passes_or _ _ (most 63 x) (most 7 k)

-- What follows from every number of a list being within its limits fails with any one that is not.
each_needed : (t : Bool) (ls : List⁺ Limit) → (t ≡ false → Each⁺ Within ls)
    → Each⁺ (λ (l : Limit). (Within l → ⊥) → t ≡ true) ls
each_needed true (one l) f = λ n. refl
each_needed false (one l) f = λ n. absurd (n (f refl))
each_needed true (l ∷⁺ ls) f = (λ n. refl, each_needed true ls (λ e. (f e).1))
each_needed false (l ∷⁺ ls) f = (λ n. absurd (n (f refl).0), each_needed false ls (λ e. (f e).1))

-- [01:no.5] "a number outside its table ..": with any one number outside its limits, whatever the others are, it is.
pub outside : (q : Request) → Each⁺ (λ (l : Limit). (Within l → ⊥) → off_the_sheet q ≡ true) (limits_of q)
outside q = each_needed (off_the_sheet q) (limits_of q) (limits q).sound

-- Its record is then answered 5, whoever of the users sends it and whatever the policy is.
pub outside_answered : (p : Policy) (u : ℕ) (q : Request) → stranger p u ≡ false → off_the_sheet q ≡ true
    → verdict p (encoded u q) ≡ Err OffTheSheet
unfolding verdict verdict_on
outside_answered p u q s o =
    let r = read_back u q in
    rw (
      ap (λ (n : Read). n.asks) r,
      ap (λ (n : Read). n.by) r,
      ap (λ (n : Read). n.is_torn) r,
      ap (λ (n : Read). n.is_unknown) r,
      ap (λ (n : Read). n.is_misfit) r,
      s,
      o,
    )
