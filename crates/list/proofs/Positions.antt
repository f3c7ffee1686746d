-- What request i of a list did: it was accepted, and is then allowed on the policy before it and leaves what the rules say; or it was
-- refused, and left that policy. From the judge's laws, with the list fixed and the position moving.
use mathlib.Core.Path.{◌≡◌, refl, sym, ap, ◌∙◌, subst}
use mathlib.Core.List.{List, [], ◌∷◌, ◌++◌}
use Prim.Native.Nat.{ℕ, zero, suc, ◌≤◌, ◌<◌}
use native.Mathlib.Decide.{ℕ_discrete}
use native.Mathlib.Omega.{arith}
use lib.ListN.{take, get_or}
use lib.Seq.{take-suc}
use Rattle.reach.specs.declared.Policy.{Policy}
use Rattle.reach.specs.Tables.{View, Sized, view}
use Rattle.rules.specs.declared.Request.{Request}
use Rattle.rules.specs.Records.{sender, request}
use Rattle.rules.specs.Judging.{code_of, judge, numbers_of, answers}
use Rattle.rules.specs.Allowing.{view_after, Allowed}
use Rattle.rules.proofs.Table.{refused_same, answers_next}
use Rattle.rules.proofs.TwoWordings.{judge_decides, judge_after, judge_sized}
use Rattle.rules.proofs.Verdicts.{accepted_code, refused_code}
use Rattle.text.specs.Text.{Bytes}
use Rattle.list.specs.Runs.{run, policy_at, before, end, record_at, Done}

run_append : (p : Policy) (xs ys : List Bytes) → run p (xs ++ ys) ≡ run (run p xs) ys
unfolding run
run_append p [] ys = refl
run_append p (x ∷ xs) ys = run_append (judge p x).policy xs ys

run_none : (p : Policy) → run p [] ≡ p
unfolding run
run_none p = refl

run_one : (p : Policy) (b : Bytes) → run p (b ∷ []) ≡ (judge p b).policy
unfolding run
run_one p b = refl

-- The tables keep their sizes along a list.
pub run_sized : (p : Policy) (xs : List Bytes) → Sized p → Sized (run p xs)
unfolding run
run_sized p [] z = z
run_sized p (x ∷ xs) z = run_sized (judge p x).policy xs (judge_sized p z x)

-- [01:line.8] "The first is judged on the founding's sheet, each later one on the sheet that the judge returned for the one before": the
-- policy at each position.
pub policy_first : (start : Policy) (list : List Bytes) → policy_at start list 0 ≡ start
policy_first start list = run_none start

pub policy_next : (start : Policy) (list : List Bytes) (i : ℕ) → i < end start list
    → policy_at start list (suc i) ≡ (judge (policy_at start list i) (record_at start list i)).policy
policy_next start list i h =
    ap (run start) (take-suc list i [] h)
    ∙ run_append start (take i list) (record_at start list i ∷ [])
    ∙ run_one (policy_at start list i) (record_at start list i)

-- The answer at each position.
pub answer_at : (start : Policy) (list : List Bytes) (i : ℕ) → i < end start list
    → get_or (answers start list) i (0, 0) ≡ numbers_of (judge (policy_at start list i) (record_at start list i)).verdict
unfolding run
answer_at start [] i h = absurd (omega arith)
answer_at start (b ∷ bs) zero h = rw (answers_next start b bs)
answer_at start (b ∷ bs) (suc i) h = rw (answers_next start b bs) (answer_at (judge start b).policy bs i (omega arith))

module _ (start : Policy) (list : List Bytes) (sized : Sized start) where
  pub data Next (i : ℕ) : Type 0 where
    did : (u : ℕ) (q : Request) → Done start list i u q → Allowed (before start list i) u q
        → before start list (suc i) ≡ view_after (before start list i) q → Next i
    turned_away : ((u : ℕ) (q : Request) → Done start list i u q → ⊥) → before start list (suc i) ≡ before start list i → Next i

  pub next : (i : ℕ) → i < end start list → Next i
  next i h = go (ℕ_discrete (code_of (judge p b).verdict) 0)
    where
      b : Bytes
      b = record_at start list i

      p : Policy
      p = policy_at start list i

      z : Sized p
      z = run_sized start (take i list) sized

      step : policy_at start list (suc i) ≡ (judge p b).policy
      step = policy_next start list i h

      go : Dec (code_of (judge p b).verdict ≡ 0) → Next i
      go (yes e) =
          let a = accepted_code p b e in
          did
          (sender b)
          (request b)
          (record { within = h; by = refl; asks = refl; accepted = e })
          ((judge_decides p z b).sound a).1
          (ap view step ∙ judge_after p z b a)
      go (no n) = turned_away (λ u q d. n d.accepted) (ap view (step ∙ refused_same p b (refused_code p b n)))

  -- One position holds one request.
  pub same_request : {i u w : ℕ} {q r : Request} → Done start list i u q → Done start list i w r → q ≡ r
  same_request d e = sym d.asks ∙ e.asks

  pub same_sender : {i u w : ℕ} {q r : Request} → Done start list i u q → Done start list i w r → u ≡ w
  same_sender d e = sym d.by ∙ e.by

  -- An accepted request, as the rules have it.
  pub as_allowed : {i u : ℕ} {q : Request} → Done start list i u q
      → Allowed (before start list i) u q × (before start list (suc i) ≡ view_after (before start list i) q)
  as_allowed {i} {u} {q} d = go (next i d.within)
    where
      go : Next i → Allowed (before start list i) u q × (before start list (suc i) ≡ view_after (before start list i) q)
      go (turned_away n e) = absurd (n u q d)
      go (did w r d' ok e) = (
        subst
            (λ (v : ℕ). Allowed (before start list i) v q)
            (same_sender d' d)
            (subst (λ (t : Request). Allowed (before start list i) w t) (same_request d' d) ok),
        subst (λ (t : Request). before start list (suc i) ≡ view_after (before start list i) t) (same_request d' d) e,
      )

  -- What every allowed request keeps holds at every position.
  pub kept : (P : View → Type 0) → ((v : View) (u : ℕ) (q : Request) → Allowed v u q → P v → P (view_after v q)) → P (view start)
      → (i : ℕ) → i ≤ end start list → P (before start list i)
  kept P step base zero h = subst (λ (p : Policy). P (view p)) (sym (policy_first start list)) base
  kept P step base (suc i) h = go (next i h) (kept P step base i (omega arith))
    where
      go : Next i → P (before start list i) → P (before start list (suc i))
      go (did u q d ok e) x = subst P (sym e) (step (before start list i) u q ok x)
      go (turned_away n e) x = subst P (sym e) x
