-- How an answer comes about: the checks in three stages, each of which hands on what has passed.
use Rattle.std.specs.Prelude.{List, ℕ, None, Result, Ok, Err}
use Rattle.reach.specs.declared.Policy.{Policy}
use Rattle.reach.specs.Tests.{◌⇒◌∥◌}
use Rattle.rules.specs.declared.Request.{Request}
use Rattle.rules.specs.declared.Refusal.{Refusal}
use Rattle.rules.specs.declared.Refusal.TheVariants.{Torn, Unknown, Misfit, Stranger, OffTheSheet, Absent, WrongSort, AlreadySo}
use Rattle.rules.specs.declared.Refusal.TheVariants.{NoAuthority, OwnGain, HandOver, Orphan}
use Rattle.rules.specs.declared.Answer.{Answer}
use Rattle.rules.specs.Records.{sender, request}
use Rattle.rules.specs.Refusals.{torn, unknown, misfit, stranger, off_the_sheet, absent, wrong_sort, already_so, no_authority, own_gain}
use Rattle.rules.specs.Refusals.{hand_over, orphan}
use Rattle.rules.specs.Doing.{after}
use Rattle.rules.specs.Judging.{Verdict, done, accepted, judge}
use Rattle.gains.specs.Giving.{given_by}
use Rattle.judge.specs.declared.Decision.{Decision}
use Rattle.judge.specs.Kind.{is_put}

-- What has passed goes on to what comes next, and a refusal stays: Rust's `?`.
abbrev pub passing : {A B : Type 0} → Result A Refusal → (A → Result B Refusal) → Result B Refusal
passing (Ok x) next = next x
passing (Err r) next = Err r

-- Checks 1 to 7.
abbrev pub formed_by : Policy → List ℕ → ℕ → Request → Result (Unit {0}) Refusal
formed_by p b u q =
    torn b ⇒ Err Torn ∥
    unknown b ⇒ Err Unknown ∥
    misfit b ⇒ Err Misfit ∥
    stranger p u ⇒ Err Stranger ∥
    off_the_sheet q ⇒ Err OffTheSheet ∥
    absent p q ⇒ Err Absent ∥
    wrong_sort p q ⇒ Err WrongSort ∥
    Ok tt

-- What follows where checks 8 and 9 have passed: a PUT is asked checks 10 and 11, which go by the same climbs; and a USE is done by its rule.
abbrev pub passed_by : Policy → ℕ → Request → Verdict
passed_by p u q = is_put q ⇒ passing (given_by p u q) (λ _. Ok None) ∥ done p u q

-- Checks 8 and 9, and what follows.
abbrev pub allowed_by : Policy → ℕ → Request → Verdict
allowed_by p u q = already_so p q ⇒ Err AlreadySo ∥ no_authority p u q ⇒ Err NoAuthority ∥ passed_by p u q

-- Checks 10 to 12, of which a PUT has none left.
abbrev pub harmless_by : Policy → ℕ → Request → Result (Unit {0}) Refusal
harmless_by p u q =
    is_put q ⇒ Ok tt ∥ own_gain p u q ⇒ Err OwnGain ∥ hand_over p u q ⇒ Err HandOver ∥ orphan p q ⇒ Err Orphan ∥ Ok tt

-- The three stages, one after the other.
abbrev pub staged : Policy → List ℕ → ℕ → Request → Verdict
staged p b u q = passing (formed_by p b u q) (λ _. passing (allowed_by p u q) (λ by. passing (harmless_by p u q) (λ _. Ok by)))

-- A policy, and a verdict on it. A refusal hands back the policy as it was.
abbrev pub answered : Policy → Verdict → Answer
answered p v = record { policy = p; verdict = v }

-- What is decided on a record: who sends it, what it asks for, and the verdict of the rules.
abbrev pub decided : Policy → List ℕ → Decision
decided p b = record { sender = sender b; request = request b; verdict = (judge p b).verdict }

-- The answer that a decision comes to: with a request that is done goes the policy after it, and with a refusal the policy as it was.
abbrev pub answer_by : Policy → Decision → Answer
answer_by p d = answered (accepted d.verdict ⇒ after p d.request ∥ p) d.verdict
