-- Every code is one of document 01's twelve or 0, and every answer cites a byte: 255, or a place of the table of rules. By cases on the
-- verdict and, for an accepted USE, by the place that permits it.
use mathlib.Core.Path.{◌≡◌, refl, sym, ap, subst, ◌∙◌}
use mathlib.Core.List.{List}
use Prim.Native.Nat.{ℕ, ◌≤◌}
use native.Mathlib.Decide.{ℕ_discrete}
use native.Mathlib.Omega.{arith}
use Rattle.std.specs.Prelude.{Option, Some, None, Ok, Err}
use Rattle.reach.specs.declared.Policy.{Policy}
use Rattle.reach.specs.Privileges.{permitting}
use Rattle.reach.proofs.Deciding.{permitted_lowest, permitted_at}
use Rattle.rules.specs.declared.Request.{Request}
use Rattle.rules.specs.declared.Request.TheVariants.{Make, Put, Take, Appoint, Dismiss, Grant, Withdraw, Use}
use Rattle.rules.specs.declared.Refusal.{Refusal}
use Rattle.rules.specs.declared.Refusal.TheVariants.{Torn, Unknown, Misfit, Stranger, OffTheSheet, Absent, WrongSort, AlreadySo}
use Rattle.rules.specs.declared.Refusal.TheVariants.{NoAuthority, OwnGain, HandOver, Orphan}
use Rattle.rules.specs.declared.Answer.{Answer}
use Rattle.rules.specs.Records.{sender, request}
use Rattle.rules.specs.Judging.{Verdict, number_of, code_of, cited_of, done_by, done, judge, OneAnswer}
use Rattle.rules.proofs.Table.{accepted_done, judge_verdict, refused_same}
use Rattle.rules.proofs.Verdicts.{accepted_code, refused_code}

number_bounded : (r : Refusal) → number_of r ≤ 12
number_bounded Torn = omega arith
number_bounded Unknown = omega arith
number_bounded Misfit = omega arith
number_bounded Stranger = omega arith
number_bounded OffTheSheet = omega arith
number_bounded Absent = omega arith
number_bounded WrongSort = omega arith
number_bounded AlreadySo = omega arith
number_bounded NoAuthority = omega arith
number_bounded OwnGain = omega arith
number_bounded HandOver = omega arith
number_bounded Orphan = omega arith

-- Every code is one of document 01's.
pub code_bounded : (v : Verdict) → code_of v ≤ 12
code_bounded (Ok by) = omega arith
code_bounded (Err r) = number_bounded r

-- A refusal cites 255.
pub refused_cites : (v : Verdict) → (code_of v ≡ 0 → ⊥) → cited_of v ≡ 255
refused_cites (Ok by) n = absurd (n refl)
refused_cites (Err Torn) n = refl
refused_cites (Err Unknown) n = refl
refused_cites (Err Misfit) n = refl
refused_cites (Err Stranger) n = refl
refused_cites (Err OffTheSheet) n = refl
refused_cites (Err Absent) n = refl
refused_cites (Err WrongSort) n = refl
refused_cites (Err AlreadySo) n = refl
refused_cites (Err NoAuthority) n = refl
refused_cites (Err OwnGain) n = refl
refused_cites (Err HandOver) n = refl
refused_cites (Err Orphan) n = refl

-- What an accepted request cites is a place of the table, or 255.
done_cited_bounded : (p : Policy) (u : ℕ) (q : Request) → cited_of (done p u q) ≤ 255
unfolding done
done_cited_bounded p u (Make i s g) = omega arith
done_cited_bounded p u (Put x g) = omega arith
done_cited_bounded p u (Take x g) = omega arith
done_cited_bounded p u (Appoint i k h a b) = omega arith
done_cited_bounded p u (Dismiss i) = omega arith
done_cited_bounded p u (Grant i v t o) = omega arith
done_cited_bounded p u (Withdraw i) = omega arith
done_cited_bounded p u (Use x k) = go (permitting p u k x) refl
  where
    go : (found : Option ℕ) → permitting p u k x ≡ found → cited_of (done_by found) ≤ 255
    go None e = omega arith
    go (Some i) e =
        let w = permitted_lowest p u k x (permitted_at p u k x i e) in
        subst (λ (found : Option ℕ). cited_of (done_by found) ≤ 255) (sym w.at.0 ∙ e) (omega (arith, w.low))

-- So every answer cites a byte.
pub cited_bounded : (p : Policy) (b : List ℕ) → cited_of (judge p b).verdict ≤ 255
cited_bounded p b = go (ℕ_discrete (code_of (judge p b).verdict) 0)
  where
    go : Dec (code_of (judge p b).verdict ≡ 0) → cited_of (judge p b).verdict ≤ 255
    go (yes e) =
        subst
        (λ (v : Verdict). cited_of v ≤ 255)
        (sym (judge_verdict p b ∙ accepted_done p b (accepted_code p b e)))
        (done_cited_bounded p (sender b) (request b))
    go (no n) = rw (refused_cites (judge p b).verdict n) (omega arith)

-- Demand 1 of whatever the judge answers.
pub one_answer : (p : Policy) (b : List ℕ) (a : Answer) → a ≡ judge p b → OneAnswer p a
one_answer p b a e = record {
  numbered = omega (arith, code_bounded a.verdict);
  refusal_keeps = λ n.
      let same : code_of a.verdict ≡ code_of (judge p b).verdict = ap (λ (r : Answer). code_of r.verdict) e in
      let refused = refused_code p b (λ z. n (omega (arith, same, z))) in
      ap (λ (r : Answer). r.policy) e ∙ refused_same p b refused;
}
