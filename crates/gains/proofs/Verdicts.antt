-- The answer of the two checks, from what each of them says.
use mathlib.Core.Path.{◌≡◌, ap, ◌∙◌}
use mathlib.Core.Bool.{Bool, true, false}
use Prim.Native.Nat.{ℕ}
use Rattle.std.specs.Prelude.{Result, Ok, Err}
use Rattle.reach.specs.declared.Policy.{Policy}
use Rattle.reach.specs.Tests.{◌⇒◌∥◌}
use Rattle.rules.specs.declared.Request.{Request}
use Rattle.rules.specs.declared.Refusal.{Refusal}
use Rattle.rules.specs.declared.Refusal.TheVariants.{OwnGain, HandOver}
use Rattle.rules.specs.Refusals.{own_gain, hand_over}
use Rattle.gains.specs.Giving.{given_by}

module _ (p : Policy) (u : ℕ) (q : Request) where
  -- Own gain comes first.
  pub given_own : true ≡ own_gain p u q → Err OwnGain ≡ given_by p u q
  given_own e = ap (λ (t : Bool). t ⇒ Err OwnGain ∥ hand_over p u q ⇒ Err HandOver ∥ Ok tt) e

  -- Without own gain it is what hand-over says.
  pub given_over : {r : Result (Unit {0}) Refusal} {t : Bool} → false ≡ own_gain p u q → t ≡ hand_over p u q → r ≡ (t ⇒ Err HandOver ∥ Ok tt) → r ≡ given_by p u q
  given_over e f d =
      d ∙ ap (λ (t : Bool). t ⇒ Err HandOver ∥ Ok tt) f ∙ ap (λ (t : Bool). t ⇒ Err OwnGain ∥ hand_over p u q ⇒ Err HandOver ∥ Ok tt) e

  -- Where nothing is handed over it is what own gain says.
  pub given_alone : {r : Result (Unit {0}) Refusal} {t : Bool} → false ≡ hand_over p u q → t ≡ own_gain p u q → r ≡ (t ⇒ Err OwnGain ∥ Ok tt) → r ≡ given_by p u q
  given_alone e f d =
      d ∙ ap (λ (t : Bool). t ⇒ Err OwnGain ∥ Ok tt) f ∙ ap (λ (t : Bool). own_gain p u q ⇒ Err OwnGain ∥ t ⇒ Err HandOver ∥ Ok tt) e
