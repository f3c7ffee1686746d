-- Demand 1, used once for each answer: what `OneAnswer` says of an answer, read off it for the refusal of every number. A statement of it
-- that covers some refusals only does not give these laws. Row by row of the table.
use mathlib.Core.Path.{◌≡◌, refl, ap, ◌∙◌}
use mathlib.Core.Bool.{Bool, true, ◌&&◌}
use mathlib.Core.Logic.{◌⊎◌, inl, inr}
use Prim.Native.Nat.{ℕ, ◌<◌}
use native.Mathlib.Omega.{arith}
use lib.Dec.{eqb, ltb}
use lib.NonEmpty.{List⁺, one, ◌∷⁺◌, Each⁺}
use Rattle.std.specs.Prelude.{Option, Ok, Err, None}
use Rattle.reach.specs.declared.Policy.{Policy}
use Rattle.reach.specs.Tests.{Some}
use Rattle.reach.proofs.Testing.{decides_and, decides_eqb, decides_ltb, decides_true}
use Rattle.rules.specs.declared.Refusal.{Refusal}
use Rattle.rules.specs.declared.Refusal.TheVariants.{Torn, Unknown, Misfit, Stranger, OffTheSheet, Absent, WrongSort, AlreadySo}
use Rattle.rules.specs.declared.Refusal.TheVariants.{NoAuthority, OwnGain, HandOver, Orphan}
use Rattle.rules.specs.declared.Answer.{Answer}
use Rattle.rules.specs.Judging.{Verdict, number_of, code_of, OneAnswer}

-- Document 01's table of refusals: number and word.
abbrev pub refusals : List⁺ (ℕ × Verdict)
refusals =
    (1, Err Torn) ∷⁺
    (2, Err Unknown) ∷⁺
    (3, Err Misfit) ∷⁺
    (4, Err Stranger) ∷⁺
    (5, Err OffTheSheet) ∷⁺
    (6, Err Absent) ∷⁺
    (7, Err WrongSort) ∷⁺
    (8, Err AlreadySo) ∷⁺
    (9, Err NoAuthority) ∷⁺
    (10, Err OwnGain) ∷⁺
    (11, Err HandOver) ∷⁺
    one (12, Err Orphan)

-- The verdict of a row has its number, and that is not 0.
abbrev numbered : ℕ × Verdict → Bool
numbered r = eqb (code_of r.1) r.0 && ltb 0 r.0

abbrev all_numbered : List⁺ (ℕ × Verdict) → Bool
all_numbered (one r) = numbered r
all_numbered (r ∷⁺ rs) = numbered r && all_numbered rs

all_numbered_told : all_numbered refusals ≡ true
all_numbered_told = refl

module _ (p : Policy) (a : Answer) (o : OneAnswer p a) where
  -- What is said of a row: an answer with its verdict has its number, and the policy as it was.
  abbrev pub Keeps : ℕ × Verdict → Type 0
  Keeps r = a.verdict ≡ r.1 → (code_of a.verdict ≡ r.0) × (a.policy ≡ p)

  keeps : (r : ℕ × Verdict) → numbered r ≡ true → Keeps r
  keeps r t h =
      let w = (decides_and _ _ (decides_eqb (code_of r.1) r.0) (decides_ltb 0 r.0)).sound t in
      let c : code_of a.verdict ≡ r.0 = ap code_of h ∙ w.0 in
      (c, o.refusal_keeps (λ z. omega (arith, c, z, w.1)))

  each_keeps : (rs : List⁺ (ℕ × Verdict)) → all_numbered rs ≡ true → Each⁺ Keeps rs
  each_keeps (one r) t = keeps r t
  each_keeps (r ∷⁺ rs) t =
      let w = (decides_and (numbered r) (all_numbered rs) (decides_true _) (decides_true _)).sound t in
      (keeps r w.0, each_keeps rs w.1)

  -- [00:demand.1] ".. one numbered refusal. A refusal leaves the policy exactly as it stood.": said of each of the twelve.
  pub each_refusal_keeps : Each⁺ Keeps refusals
  each_refusal_keeps = each_keeps refusals all_numbered_told

  -- Its number is one of 0 to 12.
  pub number_of_answer : Some 13 (λ n. code_of a.verdict ≡ n)
  number_of_answer = record { place = code_of a.verdict; low = omega (arith, o.numbered); at = refl }

-- The number 0 is that of what is done, by a rule or by none, and of no refusal.
pub zero_of_done : (code_of (Ok None) ≡ 0) × ((i : ℕ) → code_of (Ok (Option.Some i)) ≡ 0)
zero_of_done = (refl, λ i. refl)

-- Every refusal has a number above 0.
pub numbered_above : (r : Refusal) → 0 < number_of r
numbered_above Torn = omega arith
numbered_above Unknown = omega arith
numbered_above Misfit = omega arith
numbered_above Stranger = omega arith
numbered_above OffTheSheet = omega arith
numbered_above Absent = omega arith
numbered_above WrongSort = omega arith
numbered_above AlreadySo = omega arith
numbered_above NoAuthority = omega arith
numbered_above OwnGain = omega arith
numbered_above HandOver = omega arith
numbered_above Orphan = omega arith

pub done_of_zero : (v : Verdict) → code_of v ≡ 0 → (v ≡ Ok None) ⊎ ((i : ℕ) × (v ≡ Ok (Option.Some i)))
done_of_zero (Ok None) e = inl refl
done_of_zero (Ok (Option.Some i)) e = inr (i, refl)
done_of_zero (Err r) e = absurd (omega (arith, e, numbered_above r))
