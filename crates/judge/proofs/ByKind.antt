-- A check that cannot apply to requests of a kind does not; of an APPOINT that leaves check 10, and of a USE check 9, with what it cites. Kind
-- by kind, by the definitions of the checks.
use mathlib.Core.Path.{◌≡◌, refl, sym, ap, ◌∙◌}
use mathlib.Core.Bool.{Bool, true, false, true≢false, false≢true}
use Prim.Native.Nat.{ℕ}
use borrow.Author.Tests.{eqb-false}
use Rattle.std.specs.Prelude.{Some, None, Ok, Err}
use Rattle.reach.specs.declared.Policy.{Policy}
use Rattle.reach.specs.Tests.{◌⇒◌∥◌}
use Rattle.reach.specs.Tables.{Sized}
use Rattle.reach.specs.Privileges.{permitting}
use Rattle.reach.proofs.Deciding.{permitted_at, permitted_nothing}
use Rattle.rules.specs.declared.Request.{Request}
use Rattle.rules.specs.declared.Request.TheVariants.{Make, Put, Take, Appoint, Dismiss, Grant, Withdraw, Use}
use Rattle.rules.specs.declared.Refusal.TheVariants.{NoAuthority, OwnGain}
use Rattle.rules.specs.Authority.{may}
use Rattle.rules.specs.Refusals.{already_so, no_authority, own_gain, hand_over, orphan}
use Rattle.rules.specs.Judging.{checked, done}
use Rattle.gains.proofs.Outright.{appoint_other}
use Rattle.judge.specs.Kind.{is_use, is_put, can_gain, can_orphan}
use Rattle.judge.specs.Holding.{first_of, second_of}
use Rattle.judge.specs.Answering.{harmless_by}

-- What is no TAKE and no DISMISS leaves nothing without an owner.
pub no_orphan : (p : Policy) (q : Request) → can_orphan q ≡ false → orphan p q ≡ false
unfolding orphan
no_orphan p (Make i s g) e = refl
no_orphan p (Put x g) e = refl
no_orphan p (Take x g) e = absurd (true≢false e)
no_orphan p (Appoint i k h a b) e = refl
no_orphan p (Dismiss i) e = absurd (true≢false e)
no_orphan p (Grant i v t o) e = refl
no_orphan p (Withdraw i) e = refl
no_orphan p (Use x k) e = refl

-- Nor does a PUT.
pub put_no_orphan : (p : Policy) (q : Request) → is_put q ≡ true → orphan p q ≡ false
unfolding orphan
put_no_orphan p (Make i s g) e = refl
put_no_orphan p (Put x g) e = refl
put_no_orphan p (Take x g) e = absurd (false≢true e)
put_no_orphan p (Appoint i k h a b) e = refl
put_no_orphan p (Dismiss i) e = absurd (false≢true e)
put_no_orphan p (Grant i v t o) e = refl
put_no_orphan p (Withdraw i) e = refl
put_no_orphan p (Use x k) e = refl

-- Nor does what is asked check 10 by itself.
pub gain_no_orphan : (p : Policy) (u : ℕ) (q : Request) → can_gain u q ≡ true → orphan p q ≡ false
unfolding orphan
gain_no_orphan p u (Make i s g) e = refl
gain_no_orphan p u (Put x g) e = refl
gain_no_orphan p u (Take x g) e = absurd (false≢true e)
gain_no_orphan p u (Appoint i k h a b) e = refl
gain_no_orphan p u (Dismiss i) e = absurd (false≢true e)
gain_no_orphan p u (Grant i v t o) e = refl
gain_no_orphan p u (Withdraw i) e = refl
gain_no_orphan p u (Use x k) e = refl

-- A USE is nothing that can be so already.
pub use_not_so : (p : Policy) (q : Request) → is_use q ≡ true → already_so p q ≡ false
unfolding already_so
use_not_so p (Make i s g) e = absurd (false≢true e)
use_not_so p (Put x g) e = absurd (false≢true e)
use_not_so p (Take x g) e = absurd (false≢true e)
use_not_so p (Appoint i k h a b) e = absurd (false≢true e)
use_not_so p (Dismiss i) e = absurd (false≢true e)
use_not_so p (Grant i v t o) e = absurd (false≢true e)
use_not_so p (Withdraw i) e = absurd (false≢true e)
use_not_so p (Use x k) e = refl

-- It is no PUT either.
pub use_no_put : (q : Request) → is_use q ≡ true → is_put q ≡ false
use_no_put (Make i s g) e = refl
use_no_put (Put x g) e = absurd (false≢true e)
use_no_put (Take x g) e = refl
use_no_put (Appoint i k h a b) e = refl
use_no_put (Dismiss i) e = refl
use_no_put (Grant i v t o) e = refl
use_no_put (Withdraw i) e = refl
use_no_put (Use x k) e = refl

-- A PUT is of the two objects that it names.
pub put_of : (p : Policy) (q : Request) → is_put q ≡ true → q ≡ Put (first_of p q) (second_of p q)
put_of p (Make i s g) e = absurd (false≢true e)
put_of p (Put x g) e = refl
put_of p (Take x g) e = absurd (false≢true e)
put_of p (Appoint i k h a b) e = absurd (false≢true e)
put_of p (Dismiss i) e = absurd (false≢true e)
put_of p (Grant i v t o) e = absurd (false≢true e)
put_of p (Withdraw i) e = absurd (false≢true e)
put_of p (Use x k) e = absurd (false≢true e)

module _ (p : Policy) (u : ℕ) where
  -- An APPOINT is asked check 10 alone.
  pub appoint_harmless : (i k h a b : ℕ) → checked (own_gain p u (Appoint i k h a b)) OwnGain ≡ harmless_by p u (Appoint i k h a b)
  unfolding hand_over orphan
  appoint_harmless i k h a b = refl

  -- Who appoints another gains nothing.
  pub appoint_other_harmless : Sized p → (i k h a b : ℕ) → (h ≡ u → ⊥) → checked false OwnGain ≡ harmless_by p u (Appoint i k h a b)
  appoint_other_harmless z i k h a b n =
      ap (λ (t : Bool). checked t OwnGain) (sym (appoint_other p z u i (record { kind = k; holder = h; a = a; b = b }) n))
      ∙ appoint_harmless i k h a b

  -- The rule that is found says of a USE whether its sender has the authority, and is the one that is cited.
  pub used_by : (x k : ℕ) {i : ℕ} → Some i ≡ permitting p u k x → Ok (Some i) ≡ (no_authority p u (Use x k) ⇒ Err NoAuthority ∥ done p u (Use x k))
  unfolding no_authority may done
  used_by x k {i} e = rw (permitted_at p u k x i (sym e), ← e)

  pub used_by_none : (x k : ℕ) → None ≡ permitting p u k x → Err NoAuthority ≡ (no_authority p u (Use x k) ⇒ Err NoAuthority ∥ done p u (Use x k))
  unfolding no_authority may done
  used_by_none x k e = rw (permitted_nothing p u k x (sym e))

  -- What is no USE is done by no rule.
  pub done_by_none : (q : Request) → is_use q ≡ false → done p u q ≡ Ok None
  unfolding done
  done_by_none (Make i s g) e = refl
  done_by_none (Put x g) e = refl
  done_by_none (Take x g) e = refl
  done_by_none (Appoint i k h a b) e = refl
  done_by_none (Dismiss i) e = refl
  done_by_none (Grant i v t o) e = refl
  done_by_none (Withdraw i) e = refl
  done_by_none (Use x k) e = absurd (true≢false e)

  -- Nothing but a PUT hands over.
  pub no_hand_over : (q : Request) → is_put q ≡ false → hand_over p u q ≡ false
  unfolding hand_over
  no_hand_over (Make i s g) e = refl
  no_hand_over (Put x g) e = absurd (true≢false e)
  no_hand_over (Take x g) e = refl
  no_hand_over (Appoint i k h a b) e = refl
  no_hand_over (Dismiss i) e = refl
  no_hand_over (Grant i v t o) e = refl
  no_hand_over (Withdraw i) e = refl
  no_hand_over (Use x k) e = refl

  -- What cannot give its sender anything does not.
  pub no_own_gain : Sized p → (q : Request) → is_put q ≡ false → can_gain u q ≡ false → own_gain p u q ≡ false
  unfolding own_gain
  no_own_gain z (Make i s g) n e = refl
  no_own_gain z (Put x g) n e = absurd (true≢false n)
  no_own_gain z (Take x g) n e = refl
  no_own_gain z (Appoint i k h a b) n e = appoint_other p z u i (record { kind = k; holder = h; a = a; b = b }) (eqb-false _ _ e)
  no_own_gain z (Dismiss i) n e = refl
  no_own_gain z (Grant i v t o) n e = absurd (true≢false e)
  no_own_gain z (Withdraw i) n e = refl
  no_own_gain z (Use x k) n e = refl
