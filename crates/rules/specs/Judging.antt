-- The judge. [01:no.13] "Tested in order; the first that applies is returned, cited 255, sheet unchanged."
use Rattle.std.specs.Prelude.{◌≡◌, Bool, List, [], ◌∷◌, ℕ, ◌≤◌, eqb, Option, Some, None, Result, Ok, Err}
use Rattle.reach.specs.declared.Policy.{Policy}
use Rattle.reach.specs.Tests.{◌⇒◌∥◌}
use Rattle.reach.specs.Privileges.{permitting}
use Rattle.rules.specs.declared.Request.{Request}
use Rattle.rules.specs.declared.Request.TheVariants.{Make, Put, Take, Appoint, Dismiss, Grant, Withdraw, Use}
use Rattle.rules.specs.declared.Refusal.{Refusal}
use Rattle.rules.specs.declared.Refusal.TheVariants.{Torn, Unknown, Misfit, Stranger, OffTheSheet, Absent, WrongSort, AlreadySo}
use Rattle.rules.specs.declared.Refusal.TheVariants.{NoAuthority, OwnGain, HandOver, Orphan}
use Rattle.rules.specs.declared.Answer.{Answer}
use Rattle.rules.specs.Records.{sender, request}
use Rattle.rules.specs.Doing.{after}
use Rattle.rules.specs.Refusals.{torn, unknown, misfit, stranger, off_the_sheet, absent, wrong_sort, already_so, no_authority, own_gain}
use Rattle.rules.specs.Refusals.{hand_over, orphan}

-- The answer to a request: done, with the rule that permits an accepted USE, or a refusal. Rattle's alias of that name has none in antt.
abbrev pub Verdict : Type 0
Verdict = Result (Option ℕ) Refusal

-- Document 01's number for each refusal, from its table.
abbrev pub number_of : Refusal → ℕ
number_of Torn = 1
number_of Unknown = 2
number_of Misfit = 3
number_of Stranger = 4
number_of OffTheSheet = 5
number_of Absent = 6
number_of WrongSort = 7
number_of AlreadySo = 8
number_of NoAuthority = 9
number_of OwnGain = 10
number_of HandOver = 11
number_of Orphan = 12

-- Document 01's number for each verdict: 0 done, else the refusal's number in the table.
abbrev pub code_of : Verdict → ℕ
code_of (Ok by) = 0
code_of (Err r) = number_of r

-- [01:records.11] ".. and a cited rule: for an accepted USE the lowest permitting place, otherwise 255."
abbrev pub cited_of : Verdict → ℕ
cited_of (Ok (Some i)) = i
cited_of (Ok None) = 255
cited_of (Err r) = 255

-- An accepted USE is done by the lowest place that permits it; a USE that has passed check 9 has one.
abbrev pub done_by : Option ℕ → Verdict
done_by found = Ok found

unfoldable pub done : Policy → ℕ → Request → Verdict
done p u (Make i s g) = Ok None
done p u (Put x g) = Ok None
done p u (Take x g) = Ok None
done p u (Appoint i k h a b) = Ok None
done p u (Dismiss i) = Ok None
done p u (Grant i v t o) = Ok None
done p u (Withdraw i) = Ok None
done p u (Use x k) = done_by (permitting p u k x)

-- One check: refused where it applies, and else passed.
abbrev pub checked : Bool → Refusal → Result (Unit {0}) Refusal
checked applies r = applies ⇒ Err r ∥ Ok tt

-- The table of refusals, in its order: the verdict on the record b, sent by u, that asks for q.
unfoldable pub verdict_on : Policy → List ℕ → ℕ → Request → Verdict
verdict_on p b u q =
    torn b ⇒ Err Torn ∥
    unknown b ⇒ Err Unknown ∥
    misfit b ⇒ Err Misfit ∥
    stranger p u ⇒ Err Stranger ∥
    off_the_sheet q ⇒ Err OffTheSheet ∥
    absent p q ⇒ Err Absent ∥
    wrong_sort p q ⇒ Err WrongSort ∥
    already_so p q ⇒ Err AlreadySo ∥
    no_authority p u q ⇒ Err NoAuthority ∥
    own_gain p u q ⇒ Err OwnGain ∥
    hand_over p u q ⇒ Err HandOver ∥
    orphan p q ⇒ Err Orphan ∥
    done p u q

unfoldable pub verdict : Policy → List ℕ → Verdict
verdict p b = verdict_on p b (sender b) (request b)

abbrev pub accepted : Verdict → Bool
accepted v = eqb (code_of v) 0

-- [01:records.11] "The judge takes a sheet and one record and returns the sheet after, a code (0 done, else a refusal) and a cited rule"
unfoldable pub judge : Policy → List ℕ → Answer
judge p b =
    let v = verdict p b in record { policy = accepted v ⇒ after p (request b) ∥ p; verdict = v }

-- [00:demand.1] "exactly one answer: done, or one numbered refusal. A refusal leaves the policy exactly as it stood." One answer is what a
-- function returns; that its number is one of the table's, and what a refusal leaves, is said here of an answer on the policy p.
pub record OneAnswer (p : Policy) (a : Answer) : Type 0 where
  pub numbered : code_of a.verdict ≤ 12
  pub refusal_keeps : (code_of a.verdict ≡ 0 → ⊥) → a.policy ≡ p

-- [01:runner.10] ".. per record: .. code, cited." The two numbers of a verdict.
abbrev pub numbers_of : Verdict → ℕ × ℕ
numbers_of v = (code_of v, cited_of v)

-- Those of each record of a list: the first is judged on p, and each later one on the policy that the judge returned for the one before.
unfoldable pub answers : Policy → List (List ℕ) → List (ℕ × ℕ)
answers p [] = []
answers p (b ∷ bs) = let a = judge p b in numbers_of a.verdict ∷ answers a.policy bs
