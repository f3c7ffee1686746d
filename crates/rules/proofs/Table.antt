-- The refusal table: a record is accepted exactly if each of the twelve checks lets it pass. Row by row: a row that applies refuses, and
-- one that does not hands on.
use mathlib.Core.Path.{◌≡◌, refl, sym, ◌∙◌}
use mathlib.Core.Bool.{Bool, true, false, true≢false}
use mathlib.Core.List.{List, [], ◌∷◌}
use Prim.Native.Nat.{ℕ}
use lib.Dec.{eqb}
use Rattle.reach.specs.declared.Policy.{Policy}
use Rattle.reach.specs.Tests.{◌⇒◌∥◌, Decides}
use Rattle.reach.specs.Privileges.{permitting}
use Rattle.reach.proofs.Testing.{decides_as}
use Rattle.rules.specs.declared.Request.{Request}
use Rattle.rules.specs.declared.Request.TheVariants.{Make, Put, Take, Appoint, Dismiss, Grant, Withdraw, Use}
use Rattle.rules.specs.Records.{sender, request}
use Rattle.rules.specs.Doing.{after}
use Rattle.rules.specs.Refusals.{torn, unknown, misfit, stranger, off_the_sheet, absent, wrong_sort, already_so, no_authority, own_gain}
use Rattle.rules.specs.Refusals.{hand_over, orphan}
use Rattle.rules.specs.Judging.{Verdict, code_of, done_by, done, verdict_on, verdict, accepted, judge, numbers_of, answers}

-- Each check by its name.
pub record Passed (p : Policy) (b : List ℕ) (u : ℕ) (q : Request) : Type 0 where
  pub not_torn : torn b ≡ false
  pub not_unknown : unknown b ≡ false
  pub not_misfit : misfit b ≡ false
  pub not_stranger : stranger p u ≡ false
  pub not_off : off_the_sheet q ≡ false
  pub not_absent : absent p q ≡ false
  pub not_wrong_sort : wrong_sort p q ≡ false
  pub not_already_so : already_so p q ≡ false
  pub authority : no_authority p u q ≡ false
  pub no_own_gain : own_gain p u q ≡ false
  pub no_hand_over : hand_over p u q ≡ false
  pub no_orphan : orphan p q ≡ false

-- One row of the table.
row : {P : Type 0} (t : Bool) (r v : Verdict) → accepted r ≡ false → Decides (accepted v) P
    → Decides (accepted (t ⇒ r ∥ v)) ((t ≡ false) × P)
row true r v e d = record { sound = λ a. absurd (true≢false (sym a ∙ e)); complete = λ w. absurd (true≢false w.0) }
row false r v e d = record { sound = λ a. (refl, d.sound a); complete = λ w. d.complete w.1 }

-- What has passed the table is accepted.
pub done_accepted : (p : Policy) (u : ℕ) (q : Request) → accepted (done p u q) ≡ true
unfolding done
done_accepted p u (Make i s g) = refl
done_accepted p u (Put x g) = refl
done_accepted p u (Take x g) = refl
done_accepted p u (Appoint i k h a b) = refl
done_accepted p u (Dismiss i) = refl
done_accepted p u (Grant i v t o) = refl
done_accepted p u (Withdraw i) = refl
done_accepted p u (Use x k) = refl

decides_on : (p : Policy) (b : List ℕ) (u : ℕ) (q : Request) → Decides (accepted (verdict_on p b u q)) (Passed p b u q)
unfolding verdict_on
decides_on p b u q =
    decides_as
    (row (torn b) _ _ refl
    (row (unknown b) _ _ refl
    (row (misfit b) _ _ refl
    (row (stranger p u) _ _ refl
    (row (off_the_sheet q) _ _ refl
    (row (absent p q) _ _ refl
    (row (wrong_sort p q) _ _ refl
    (row (already_so p q) _ _ refl
    (row (no_authority p u q) _ _ refl
    (row (own_gain p u q) _ _ refl
    (row (hand_over p u q) _ _ refl
    (row (orphan p q) _ _ refl
    (record { sound = λ e. tt {0}; complete = λ w. done_accepted p u q })))))))))))))
    (λ w.
    record {
      not_torn = w.0;
      not_unknown = w.1.0;
      not_misfit = w.1.1.0;
      not_stranger = w.1.1.1.0;
      not_off = w.1.1.1.1.0;
      not_absent = w.1.1.1.1.1.0;
      not_wrong_sort = w.1.1.1.1.1.1.0;
      not_already_so = w.1.1.1.1.1.1.1.0;
      authority = w.1.1.1.1.1.1.1.1.0;
      no_own_gain = w.1.1.1.1.1.1.1.1.1.0;
      no_hand_over = w.1.1.1.1.1.1.1.1.1.1.0;
      no_orphan = w.1.1.1.1.1.1.1.1.1.1.1.0;
    })
    (λ c. (
      c.not_torn,
      (
        c.not_unknown,
        (
          c.not_misfit,
          (
            c.not_stranger,
            (
              c.not_off,
              (
                c.not_absent,
                (
                  c.not_wrong_sort,
                  (
                    c.not_already_so,
                    (c.authority, (c.no_own_gain, (c.no_hand_over, (c.no_orphan, tt {0})))),
                  ),
                ),
              ),
            ),
          ),
        ),
      ),
    ))

-- Accepted means that each check passed, by name, and the other way round.
pub accepted_decides : (p : Policy) (b : List ℕ) → Decides (accepted (verdict p b)) (Passed p b (sender b) (request b))
unfolding verdict
accepted_decides p b = decides_on p b (sender b) (request b)

passed_done : (p : Policy) (b : List ℕ) (u : ℕ) (q : Request) → Passed p b u q → verdict_on p b u q ≡ done p u q
unfolding verdict_on
passed_done p b u q c =
    rw (
      c.not_torn,
      c.not_unknown,
      c.not_misfit,
      c.not_stranger,
      c.not_off,
      c.not_absent,
      c.not_wrong_sort,
      c.not_already_so,
      c.authority,
      c.no_own_gain,
      c.no_hand_over,
      c.no_orphan,
    )

-- The verdict on an accepted request.
pub accepted_done : (p : Policy) (b : List ℕ) → accepted (verdict p b) ≡ true → verdict p b ≡ done p (sender b) (request b)
unfolding verdict
accepted_done p b e = passed_done p b (sender b) (request b) ((accepted_decides p b).sound e)

-- ---- The answer, from its verdict

pub judge_verdict : (p : Policy) (b : List ℕ) → (judge p b).verdict ≡ verdict p b
unfolding judge
judge_verdict p b = refl

-- [01:no.13] A refusal leaves the policy as it was.
pub refused_same : (p : Policy) (b : List ℕ) → accepted (verdict p b) ≡ false → (judge p b).policy ≡ p
unfolding judge
refused_same p b e = rw e

pub accepted_after : (p : Policy) (b : List ℕ) → accepted (verdict p b) ≡ true → (judge p b).policy ≡ after p (request b)
unfolding judge
accepted_after p b e = rw e

-- The answers of a list, record by record.
pub answers_none : (p : Policy) → answers p [] ≡ []
unfolding answers
answers_none p = refl

pub answers_next : (p : Policy) (b : List ℕ) (bs : List (List ℕ))
    → answers p (b ∷ bs) ≡ numbers_of (judge p b).verdict ∷ answers (judge p b).policy bs
unfolding answers
answers_next p b bs = refl
