-- What is told of a record goes by its kind, a number, so that the tests compute, and by its length.
use mathlib.Core.Path.{◌≡◌, refl}
use mathlib.Core.Bool.{Bool, true, false}
use Prim.Native.Nat.{ℕ, ◌≤◌}
use native.Mathlib.Omega.{arith}
use lib.Dec.{eqb}
use lib.ListN.{length}
use borrow.Author.Tests.{eq-eqb, ne_eqb, eqb-true, eqb-false}
use Rattle.reach.specs.Tests.{◌⇒◌∥◌}
use Rattle.frame.specs.Fields.{kind_field}
use Rattle.text.specs.Text.{Bytes}
use Rattle.queue_run.specs.declared.club.Club.{Club}
use Rattle.queue_run.specs.declared.club.Told.{Told}
use Rattle.queue_run.specs.Program.{misfit_told, judged_told, start_told, join_told, leave_told, tick_told, told_of}

module _ (c : Club) (b : Bytes) (kind : ℕ) (is : kind ≡ kind_field b) {r : Told} where
  pub start_row : kind ≡ 32 → length b ≡ 7 → r ≡ start_told c b → r ≡ told_of c b
  unfolding told_of
  start_row e long h = rw (← is, e, eq-eqb (length b) 7 long) h

  pub join_row : kind ≡ 33 → length b ≡ 5 → r ≡ join_told c b → r ≡ told_of c b
  unfolding told_of
  join_row e long h = rw (← is, e, eq-eqb (length b) 5 long) h

  pub leave_row : kind ≡ 34 → length b ≡ 5 → r ≡ leave_told c b → r ≡ told_of c b
  unfolding told_of
  leave_row e long h = rw (← is, e, eq-eqb (length b) 5 long) h

  pub tick_row : kind ≡ 35 → length b ≡ 4 → r ≡ tick_told c → r ≡ told_of c b
  unfolding told_of
  tick_row e long h = rw (← is, e, eq-eqb (length b) 4 long) h

  -- Every other kind.
  pub judge_row : (kind ≡ 32 → ⊥) → (kind ≡ 33 → ⊥) → (kind ≡ 34 → ⊥) → (kind ≡ 35 → ⊥) → r ≡ judged_told c b → r ≡ told_of c b
  unfolding told_of
  judge_row e f g h told = rw (← is, ne_eqb kind 32 e, ne_eqb kind 33 f, ne_eqb kind 34 g, ne_eqb kind 35 h) told

  -- An own kind with a wrong length.
  pub misfit_row : 32 ≤ kind → kind ≤ 35 → (kind ≡ 32 → length b ≡ 7 → ⊥) → (kind ≡ 33 → length b ≡ 5 → ⊥) → (kind ≡ 34 → length b ≡ 5 → ⊥)
      → (kind ≡ 35 → length b ≡ 4 → ⊥) → r ≡ misfit_told c → r ≡ told_of c b
  unfolding told_of
  misfit_row low high e f g h misfit =
      rw (← is)
      (own (eqb kind 32) (eqb (length b) 7) (start_told c b) _ (λ k l. e (eqb-true kind 32 k) (eqb-true (length b) 7 l)) (λ e.
      own (eqb kind 33) (eqb (length b) 5) (join_told c b) _ (λ k l. f (eqb-true kind 33 k) (eqb-true (length b) 5 l)) (λ f.
      own (eqb kind 34) (eqb (length b) 5) (leave_told c b) _ (λ k l. g (eqb-true kind 34 k) (eqb-true (length b) 5 l)) (λ g.
      own (eqb kind 35) (eqb (length b) 4) (tick_told c) _ (λ k l. h (eqb-true kind 35 k) (eqb-true (length b) 4 l)) (λ h.
      absurd (omega (arith, eqb-false kind 32 e, eqb-false kind 33 f, eqb-false kind 34 g, eqb-false kind 35 h)))))))
    where
      own : (t l : Bool) (told rest : Told) → (t ≡ true → l ≡ true → ⊥) → (t ≡ false → r ≡ rest)
          → r ≡ (t ⇒ l ⇒ told ∥ misfit_told c ∥ rest)
      own true true told rest short others = absurd (short refl refl)
      own true false told rest short others = misfit
      own false l told rest short others = others refl
