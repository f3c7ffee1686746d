-- The code determines the answer: a refusal's number gives the refusal, and the policy as it was; 0 gives the policy after, and for an
-- accepted USE the lowest permitting place. By cases on the verdict.
use mathlib.Core.Path.{◌≡◌, refl, sym, ap, ◌∙◌}
use mathlib.Core.Bool.{true, false}
use mathlib.Core.List.{List}
use Prim.Native.Nat.{ℕ}
use lib.Dec.{eqb}
use borrow.Author.Tests.{eq-eqb, ne_eqb}
use Rattle.std.specs.Prelude.{Option, Ok, Err}
use Rattle.reach.specs.declared.Policy.{Policy}
use Rattle.reach.specs.Tests.{◌⇒◌∥◌, Some}
use Rattle.reach.specs.Privileges.{permits_by}
use Rattle.reach.proofs.Testing.{some_map, LowestAt}
use Rattle.reach.proofs.Deciding.{permitted_lowest}
use Rattle.rules.specs.declared.Request.TheVariants.{Use}
use Rattle.rules.specs.declared.Refusal.{Refusal}
use Rattle.rules.specs.declared.Refusal.TheVariants.{Torn, Unknown, Misfit, Stranger, OffTheSheet, Absent, WrongSort, AlreadySo}
use Rattle.rules.specs.declared.Refusal.TheVariants.{NoAuthority, OwnGain, HandOver, Orphan}
use Rattle.rules.specs.Records.{sender, request}
use Rattle.rules.specs.Authority.{may}
use Rattle.rules.specs.Refusals.{no_authority}
use Rattle.rules.specs.Judging.{Verdict, number_of, code_of, done_by, done, verdict, accepted, judge}
use Rattle.rules.proofs.Passing.{passes_not}
use Rattle.reach.proofs.Testing.{decides_true}
use Rattle.rules.proofs.Table.{accepted_decides, accepted_done, judge_verdict}

-- The refusal of each number.
refusal_of : ℕ → Refusal
refusal_of n =
    eqb n 1 ⇒ Torn ∥
    eqb n 2 ⇒ Unknown ∥
    eqb n 3 ⇒ Misfit ∥
    eqb n 4 ⇒ Stranger ∥
    eqb n 5 ⇒ OffTheSheet ∥
    eqb n 6 ⇒ Absent ∥
    eqb n 7 ⇒ WrongSort ∥
    eqb n 8 ⇒ AlreadySo ∥
    eqb n 9 ⇒ NoAuthority ∥
    eqb n 10 ⇒ OwnGain ∥
    eqb n 11 ⇒ HandOver ∥
    Orphan

refusal_of_number : (r : Refusal) → refusal_of (number_of r) ≡ r
unfolding refusal_of
refusal_of_number Torn = refl
refusal_of_number Unknown = refl
refusal_of_number Misfit = refl
refusal_of_number Stranger = refl
refusal_of_number OffTheSheet = refl
refusal_of_number Absent = refl
refusal_of_number WrongSort = refl
refusal_of_number AlreadySo = refl
refusal_of_number NoAuthority = refl
refusal_of_number OwnGain = refl
refusal_of_number HandOver = refl
refusal_of_number Orphan = refl

-- A refusal is the one of its number.
refused_of_code : (v : Verdict) → (code_of v ≡ 0 → ⊥) → Err (refusal_of (code_of v)) ≡ v
refused_of_code (Ok by) n = absurd (n refl)
refused_of_code (Err r) n = ap (λ (s : Refusal). Err s) (refusal_of_number r)

-- Two refusals with the same number are the same.
pub code_determines : (v w : Verdict) → code_of v ≡ code_of w → (code_of v ≡ 0 → ⊥) → v ≡ w
code_determines v w e n =
    sym (refused_of_code v n) ∙ ap (λ (k : ℕ). Err (refusal_of k)) e ∙ refused_of_code w (λ z. n (e ∙ z))

-- The code of an accepted answer is 0, and that of a refusal is not.
pub accepted_code : (p : Policy) (b : List ℕ) → code_of (judge p b).verdict ≡ 0 → accepted (verdict p b) ≡ true
accepted_code p b e = eq-eqb _ _ (ap code_of (sym (judge_verdict p b)) ∙ e)

pub refused_code : (p : Policy) (b : List ℕ) → (code_of (judge p b).verdict ≡ 0 → ⊥) → accepted (verdict p b) ≡ false
refused_code p b n = ne_eqb _ _ (λ e. n (ap code_of (judge_verdict p b) ∙ e))

-- An accepted USE cites the lowest place of a rule that permits it.
pub use_cites : (p : Policy) (b : List ℕ) (x k : ℕ) → accepted (verdict p b) ≡ true → request b ≡ Use x k
    → Some 64 (λ i. (verdict p b ≡ Ok (Option.Some i)) × LowestAt 64 (permits_by p (sender b) k x) i)
unfolding done may no_authority
use_cites p b x k e r =
    let c = ((accepted_decides p b).sound e).authority in
    let m : may p (sender b) (request b) ≡ true = (passes_not _ (decides_true _)).sound c in
    let w = permitted_lowest p (sender b) k x (ap (may p (sender b)) (sym r) ∙ m) in
    some_map
    (λ i f. (accepted_done p b e ∙ ap (done p (sender b)) r ∙ ap done_by f.0, f.1))
    w
