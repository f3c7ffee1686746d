-- The order of the checks: the three stages, one after the other, are the table of the twelve.
use mathlib.Core.Path.{◌≡◌, refl, sym, ap, ◌∙◌}
use mathlib.Core.Bool.{Bool, true, false}
use mathlib.Core.List.{List, [], ◌∷◌}
use Prim.Native.Nat.{ℕ, ◌<◌}
use borrow.Author.Tests.{ne_eqb}
use Rattle.std.specs.Prelude.{Option, Some, None, Result, Ok, Err}
use Rattle.std.proofs.Common.{rules}
use Rattle.reach.specs.declared.Policy.{Policy}
use Rattle.reach.specs.Tests.{◌⇒◌∥◌}
use Rattle.reach.specs.Privileges.{permitting}
use Rattle.reach.proofs.Deciding.{user_below}
use Rattle.rules.specs.declared.Request.{Request}
use Rattle.rules.specs.declared.Request.TheVariants.{Make, Put, Take, Appoint, Dismiss, Grant, Withdraw, Use}
use Rattle.rules.specs.declared.Refusal.{Refusal}
use Rattle.rules.specs.declared.Refusal.TheVariants.{Torn, Unknown, Misfit, Stranger, OffTheSheet, Absent, WrongSort, AlreadySo}
use Rattle.rules.specs.declared.Refusal.TheVariants.{NoAuthority, OwnGain, HandOver, Orphan}
use Rattle.rules.specs.Records.{sender, request}
use Rattle.rules.specs.Doing.{after}
use Rattle.rules.specs.Refusals.{torn, unknown, misfit, stranger, off_the_sheet, absent, wrong_sort, already_so, no_authority, own_gain}
use Rattle.rules.specs.Refusals.{hand_over, orphan}
use Rattle.rules.specs.Judging.{Verdict, code_of, cited_of, done, verdict_on, verdict, judge}
use Rattle.rules.proofs.Fitting.{known_sender}
use Rattle.judge.specs.declared.Decision.{Decision}
use Rattle.judge.specs.Kind.{is_put}
use Rattle.judge.specs.Answering.{passing, answer_by, decided, formed_by, passed_by, allowed_by, harmless_by, staged}

-- ---- Checks in a row

-- The refusal of the first test that holds, or else d.
first : {A : Type 0} → List Bool → List Refusal → Result A Refusal → Result A Refusal
first [] rs d = d
first (t ∷ ts) [] d = d
first (t ∷ ts) (r ∷ rs) d = t ⇒ Err r ∥ first ts rs d

-- A refusal stays, and what passes goes on to what comes after.
first_then : {A B : Type 0} (ts : List Bool) (rs : List Refusal) (d : Result A Refusal) (n : A → Result B Refusal)
    → passing (first ts rs d) n ≡ first ts rs (passing d n)
unfolding first
first_then [] rs d n = refl
first_then (t ∷ ts) [] d n = refl
first_then (true ∷ ts) (r ∷ rs) d n = refl
first_then (false ∷ ts) (r ∷ rs) d n = first_then ts rs d n

-- ---- The stages

abbrev forms : Policy → List ℕ → ℕ → Request → List Bool
forms p b u q = torn b ∷ unknown b ∷ misfit b ∷ stranger p u ∷ off_the_sheet q ∷ absent p q ∷ wrong_sort p q ∷ []

abbrev deformed : List Refusal
deformed = Torn ∷ Unknown ∷ Misfit ∷ Stranger ∷ OffTheSheet ∷ Absent ∷ WrongSort ∷ []

abbrev rights : Policy → ℕ → Request → List Bool
rights p u q = already_so p q ∷ no_authority p u q ∷ []

abbrev unrighted : List Refusal
unrighted = AlreadySo ∷ NoAuthority ∷ []

abbrev harms : Policy → ℕ → Request → List Bool
harms p u q = own_gain p u q ∷ hand_over p u q ∷ orphan p q ∷ []

abbrev harmed : List Refusal
harmed = OwnGain ∷ HandOver ∷ Orphan ∷ []

-- What comes after the first two stages.
abbrev last : Policy → ℕ → Request → Verdict → Verdict
last p u q v = passing v (λ by. passing (harmless_by p u q) (λ _. Ok by))

-- What is done is done by a rule, or by none.
done_is : (p : Policy) (u : ℕ) (q : Request) → (by : Option ℕ) × (done p u q ≡ Ok by)
unfolding done
done_is p u (Make i s g) = (None, refl)
done_is p u (Put x g) = (None, refl)
done_is p u (Take x g) = (None, refl)
done_is p u (Appoint i k h a b) = (None, refl)
done_is p u (Dismiss i) = (None, refl)
done_is p u (Grant i v t o) = (None, refl)
done_is p u (Withdraw i) = (None, refl)
done_is p u (Use x k) = (permitting p u k x, refl)

-- What has passed goes through the checks that are left: a PUT through none.
left : (p : Policy) (u : ℕ) (q : Request) → is_put q ≡ false → last p u q (passed_by p u q) ≡ first (harms p u q) harmed (done p u q)
unfolding first
left p u q m =
    let w = done_is p u q in
    rw (m, w.1) (first_then (harms p u q) harmed (Ok (tt {0})) (λ _. Ok w.0))

passed_then : (p : Policy) (u : ℕ) (q : Request) → last p u q (passed_by p u q) ≡ first (harms p u q) harmed (done p u q)
unfolding first done orphan
passed_then p u (Make i s g) = left p u _ refl
passed_then p u (Put x g) = go (own_gain p u (Put x g)) (hand_over p u (Put x g))
  where
    go : (s t : Bool)
        → last p u (Put x g) (passing (s ⇒ Err OwnGain ∥ t ⇒ Err HandOver ∥ Ok (tt {0})) (λ _. Ok None))
        ≡ (s ⇒ Err OwnGain ∥ t ⇒ Err HandOver ∥ Ok None)
    go true t = refl
    go false true = refl
    go false false = refl
passed_then p u (Take x g) = left p u _ refl
passed_then p u (Appoint i k h a b) = left p u _ refl
passed_then p u (Dismiss i) = left p u _ refl
passed_then p u (Grant i v t o) = left p u _ refl
passed_then p u (Withdraw i) = left p u _ refl
passed_then p u (Use x k) = left p u _ refl

module _ (p : Policy) (b : List ℕ) (u : ℕ) (q : Request) where
  -- The table, by its stages.
  table : verdict_on p b u q ≡ first (forms p b u q) deformed (first (rights p u q) unrighted (first (harms p u q) harmed (done p u q)))
  unfolding verdict_on first
  table = refl

  formed_is : formed_by p b u q ≡ first (forms p b u q) deformed (Ok (tt {0}))
  unfolding first
  formed_is = refl

  allowed_is : allowed_by p u q ≡ first (rights p u q) unrighted (passed_by p u q)
  unfolding first
  allowed_is = refl

  allowed_then : last p u q (allowed_by p u q) ≡ first (rights p u q) unrighted (first (harms p u q) harmed (done p u q))
  allowed_then =
      ap (last p u q) allowed_is
      ∙ first_then (rights p u q) unrighted (passed_by p u q) (λ by. last p u q (Ok by))
      ∙ ap (λ (v : Verdict). first (rights p u q) unrighted v) (passed_then p u q)

  -- The three stages, one after the other.
  pub in_order : staged p b u q ≡ verdict_on p b u q
  in_order =
      ap (λ (r : Result (Unit {0}) Refusal). passing r (λ _. last p u q (allowed_by p u q))) formed_is
      ∙ first_then (forms p b u q) deformed (Ok (tt {0})) (λ _. last p u q (allowed_by p u q))
      ∙ ap (λ (v : Verdict). first (forms p b u q) deformed v) allowed_then
      ∙ sym table

  -- Where it comes to an end: what a stage refuses is refused, and what passes all three is done.
  pub stops_formed : {r : Refusal} → Err r ≡ formed_by p b u q → Err r ≡ verdict_on p b u q
  stops_formed e = rw (← in_order, ← e)

  module _ {x : Unit {0}} (e : Ok x ≡ formed_by p b u q) where
    pub stops_allowed : {r : Refusal} → Err r ≡ allowed_by p u q → Err r ≡ verdict_on p b u q
    stops_allowed f = rw (← in_order, ← e, ← f)

    module _ {by : Option ℕ} (f : Ok by ≡ allowed_by p u q) where
      pub stops_harmless : {r : Refusal} → Err r ≡ harmless_by p u q → Err r ≡ verdict_on p b u q
      stops_harmless g = rw (← in_order, ← e, ← f, ← g)

      pub passes_all : {y : Unit {0}} → Ok y ≡ harmless_by p u q → Ok by ≡ verdict_on p b u q
      passes_all g = rw (← in_order, ← e, ← f, ← g)

  -- The sender of what is well formed is no stranger, and so his number is on the table.
  formed_known : {x : Unit {0}} → Ok x ≡ formed_by p b u q → stranger p u ≡ false
  formed_known e = go (torn b) (unknown b) (misfit b) (stranger p u) _ (sym e)
    where
      go : (s t m k : Bool) (r : Result (Unit {0}) Refusal) {x : Unit {0}}
          → (s ⇒ Err Torn ∥ t ⇒ Err Unknown ∥ m ⇒ Err Misfit ∥ k ⇒ Err Stranger ∥ r) ≡ Ok x → k ≡ false
      go true t m k r f = search rules
      go false true m k r f = search rules
      go false false true k r f = search rules
      go false false false true r f = search rules
      go false false false false r f = refl

  pub formed_below : {x : Unit {0}} → Ok x ≡ formed_by p b u q → u < 64
  formed_below e = user_below p u ((known_sender p u).sound (formed_known e))

-- The same of a record that is read: its stages give the verdict of the rules.
pub stages : (p : Policy) (b : List ℕ) → staged p b (sender b) (request b) ≡ verdict p b
unfolding verdict
stages p b = in_order p b (sender b) (request b)

-- ---- The answer

-- What is done by a rule is a USE, and leaves the policy as it is.
first_ok : {A : Type 0} (ts : List Bool) (rs : List Refusal) (d : Result A Refusal) {x : A} → first ts rs d ≡ Ok x → d ≡ Ok x
unfolding first
first_ok [] rs d e = e
first_ok (t ∷ ts) [] d e = e
first_ok (true ∷ ts) (r ∷ rs) d e = search rules
first_ok (false ∷ ts) (r ∷ rs) d e = first_ok ts rs d e

passed_is_done : (p : Policy) (b : List ℕ) (u : ℕ) (q : Request) {by : Option ℕ} → verdict_on p b u q ≡ Ok by → done p u q ≡ Ok by
passed_is_done p b u q e =
    first_ok (harms p u q) harmed _ (first_ok (rights p u q) unrighted _ (first_ok (forms p b u q) deformed _ (sym (table p b u q) ∙ e)))

kept : (p : Policy) (u : ℕ) (q : Request) {i : ℕ} → done p u q ≡ Ok (Some i) → after p q ≡ p
unfolding after done
kept p u (Make i s g) e = search rules
kept p u (Put x g) e = search rules
kept p u (Take x g) e = search rules
kept p u (Appoint i k h a w) e = search rules
kept p u (Dismiss i) e = search rules
kept p u (Grant i v t o) e = search rules
kept p u (Withdraw i) e = search rules
kept p u (Use x k) e = refl

-- ---- The decision

-- The policy of the answer that it comes to.
module _ (p : Policy) (d : Decision) {n : Policy} where
  -- With what is done goes the policy after it.
  pub leaves_after : code_of d.verdict ≡ 0 → n ≡ after p d.request → n ≡ (answer_by p d).policy
  leaves_after z f = rw (z, f)

  -- With a refusal goes the policy as it was.
  pub leaves_refused : (code_of d.verdict ≡ 0 → ⊥) → n ≡ p → n ≡ (answer_by p d).policy
  leaves_refused z f = rw (ne_eqb _ _ z, f)

module _ (p : Policy) (b : List ℕ) where
  -- The verdict of the stages decides the record.
  pub decides : {u : ℕ} {q : Request} {v : Verdict} → u ≡ sender b → q ≡ request b → v ≡ verdict_on p b u q
      → record { sender = u; request = q; verdict = v } ≡ decided p b
  unfolding judge verdict
  decides sent asked judged = rw (judged, sent, asked)

  module _ {d : Decision} (e : d ≡ decided p b) where
    -- A decision comes to the answer of the judge.
    pub decided_answer : answer_by p d ≡ judge p b
    unfolding judge
    decided_answer = ap (answer_by p) e

    decided_on : d.verdict ≡ verdict_on p b d.sender d.request
    unfolding judge verdict
    decided_on = rw e

    -- With what is done by a rule goes the policy as it was.
    pub leaves_used : {n : Policy} {i : ℕ} → d.verdict ≡ Ok (Some i) → n ≡ p → n ≡ (answer_by p d).policy
    leaves_used {n} c f =
        leaves_after p d (ap code_of c) (f ∙ sym (kept p d.sender d.request (passed_is_done p b _ _ (sym decided_on ∙ c))))

    -- And so it does with what cites a rule.
    pub leaves_cited : {n : Policy} → (cited_of d.verdict ≡ 255 → ⊥) → n ≡ p → n ≡ (answer_by p d).policy
    leaves_cited {n} k f = go d.verdict refl
      where
        go : (v : Verdict) → d.verdict ≡ v → n ≡ (answer_by p d).policy
        go (Ok None) c = absurd (k (ap cited_of c))
        go (Ok (Some i)) c = leaves_used c f
        go (Err r) c = absurd (k (ap cited_of c))
