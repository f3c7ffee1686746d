-- What is looked at of the place that a request names, and of what its sender holds over two objects, is what checks 8 and 9 ask.
use mathlib.Core.Path.{◌≡◌, refl, sym, ap, ◌∙◌}
use mathlib.Core.Bool.{Bool, true, false, not, ◌&&◌, true≢false}
use Prim.Native.Nat.{ℕ}
use lib.Dec.{eqb}
use Rattle.std.specs.Prelude.{None, Result, Ok, Err}
use Rattle.reach.specs.declared.Policy.{Policy}
use Rattle.reach.specs.declared.Held.{Held}
use Rattle.reach.specs.Tests.{◌⇒◌∥◌}
use Rattle.reach.specs.Tables.{appointment}
use Rattle.reach.specs.Privileges.{administrator, owns, manages}
use Rattle.reach.specs.Asking.{held_of}
use Rattle.rules.specs.declared.Request.{Request}
use Rattle.rules.specs.declared.Request.TheVariants.{Make, Put, Take, Appoint, Dismiss, Grant, Withdraw, Use}
use Rattle.rules.specs.declared.Refusal.{Refusal}
use Rattle.rules.specs.declared.Refusal.TheVariants.{AlreadySo, NoAuthority}
use Rattle.rules.specs.Judging.{Verdict}
use Rattle.rules.specs.Authority.{may, may_appoint, may_withdraw}
use Rattle.rules.specs.Refusals.{already_so, no_authority}
use Rattle.judge.specs.Holding.{first_of, second_of, so_already, unentitled, looked_at}
use Rattle.judge.specs.Kind.{is_use, is_put}
use Rattle.gains.specs.Giving.{given_by}
use Rattle.judge.specs.Answering.{passing, passed_by, allowed_by}
use Rattle.judge.proofs.ByKind.{done_by_none}

module _ (p : Policy) (u : ℕ) where
  -- B of the other kinds is not read, so that it may be any number.
  side : (t : Bool) (a b : ℕ)
      → not (t ⇒ manages p u a && manages p u (t ⇒ b ∥ 255) ∥ owns p u a) ≡ not (t ⇒ manages p u a && manages p u b ∥ owns p u a)
  side true a b = refl
  side false a b = refl

  already_is : (q : Request) → is_put q ≡ false → so_already p (held_of p u (first_of p q) (second_of p q)) q ≡ already_so p q
  unfolding already_so
  already_is (Make i s g) e = refl
  already_is (Put x g) e = absurd (true≢false e)
  already_is (Take x g) e = refl
  already_is (Appoint i k h a b) e = refl
  already_is (Dismiss i) e = refl
  already_is (Grant i v t o) e = refl
  already_is (Withdraw i) e = refl
  already_is (Use x k) e = refl

  entitled_is : (q : Request) → is_use q ≡ false → is_put q ≡ false
      → unentitled p (held_of p u (first_of p q) (second_of p q)) q ≡ no_authority p u q
  unfolding no_authority may may_appoint may_withdraw
  entitled_is (Make i s g) e f = refl
  entitled_is (Put x g) e f = absurd (true≢false f)
  entitled_is (Take x g) e f = refl
  entitled_is (Appoint i k h a b) e f = side (eqb k administrator) a b
  entitled_is (Dismiss i) e f = let w = appointment p i in side (eqb w.kind administrator) w.a w.b
  entitled_is (Grant i v t o) e f = refl
  entitled_is (Withdraw i) e f = refl
  entitled_is (Use x k) e f = absurd (true≢false e)

  -- The same of what was held.
  module _ (q : Request) {h : Held} {x y : ℕ} (first : x ≡ first_of p q) (second : y ≡ second_of p q) (held : h ≡ held_of p u x y) where
    pub already_found : is_put q ≡ false → so_already p h q ≡ already_so p q
    already_found f = rw (held, first, second) (already_is q f)

    pub entitled_found : is_use q ≡ false → is_put q ≡ false → unentitled p h q ≡ no_authority p u q
    entitled_found e f = rw (held, first, second) (entitled_is q e f)

  -- So what is looked at is what is asked, of every request but a PUT and a USE.
  pub allowed_looked : (q : Request) → is_use q ≡ false → is_put q ≡ false → looked_at p u q ≡ allowed_by p u q
  unfolding looked_at
  allowed_looked q e f = rw (already_found q refl refl refl f, entitled_found q refl refl refl e f, f, done_by_none p u q e)

-- Checks 8 and 9 by two tests that say what they ask, and what `allowed` says of its answer.
module _ (p : Policy) (u : ℕ) (q : Request) where
  abbrev pub Allowed : Verdict → Type 0
  Allowed r = (r ≡ allowed_by p u q) × (is_use q ≡ false → is_put q ≡ false → r ≡ looked_at p u q)

  allowed : {r : Verdict} → r ≡ allowed_by p u q → Allowed r
  allowed f = (f, λ e m. f ∙ sym (allowed_looked p u q e m))

  module _ {s : Bool} (so : s ≡ already_so p q) where
    pub is_so : {r : Verdict} → s ≡ true → r ≡ Err AlreadySo → Allowed r
    is_so e f = allowed (rw (← so, e, f))

    module _ {t : Bool} (no : t ≡ no_authority p u q) where
      pub not_entitled : {r : Verdict} → s ≡ false → t ≡ true → r ≡ Err NoAuthority → Allowed r
      not_entitled d e f = allowed (rw (← so, ← no, d, e, f))

      pub is_entitled : {r : Verdict} → s ≡ false → t ≡ false → r ≡ passed_by p u q → Allowed r
      is_entitled d e f = allowed (rw (← so, ← no, d, e, f))

  -- A PUT is asked the next two checks with them.
  module _ {x g : ℕ} (put : q ≡ Put x g) where
    abbrev by_none : Verdict
    by_none = Ok None

    abbrev asked : Result (Unit {0}) Refusal
    asked = already_so p (Put x g) ⇒ Err AlreadySo ∥ no_authority p u (Put x g) ⇒ Err NoAuthority ∥ given_by p u (Put x g)

    asked_all : passing asked (λ _. by_none) ≡ allowed_by p u q
    asked_all = rw put (go (already_so p (Put x g)) (no_authority p u (Put x g)) (given_by p u (Put x g)))
      where
        go : (s t : Bool) (d : Result (Unit {0}) Refusal)
            → passing (s ⇒ Err AlreadySo ∥ t ⇒ Err NoAuthority ∥ d) (λ _. by_none)
            ≡ (s ⇒ Err AlreadySo ∥ t ⇒ Err NoAuthority ∥ passing d (λ _. by_none))
        go true t d = refl
        go false true d = refl
        go false false d = refl

    pub put_refused : {f : Refusal} {r : Verdict} → Err f ≡ asked → r ≡ Err f → Allowed r
    put_refused e h = allowed (h ∙ ap (λ (w : Result (Unit {0}) Refusal). passing w (λ _. by_none)) e ∙ asked_all)

    pub put_passes : {y : Unit {0}} → Ok y ≡ asked → Allowed by_none
    put_passes e = allowed (ap (λ (w : Result (Unit {0}) Refusal). passing w (λ _. by_none)) e ∙ asked_all)
