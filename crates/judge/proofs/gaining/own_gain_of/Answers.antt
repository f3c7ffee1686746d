-- A record that is refused with 10 is told by what its request gives its sender, and for every other nothing is told.
use mathlib.Core.Path.{◌≡◌, refl, sym, ap, subst, ◌∙◌}
use mathlib.Core.Bool.{false, true≢false}
use mathlib.Core.List.{List}
use Prim.Native.Nat.{ℕ}
use native.Mathlib.Omega.{arith}
use Rattle.std.specs.Prelude.{Option, None, Err}
use Rattle.std.proofs.Common.{rules}
use Rattle.reach.specs.declared.Policy.{Policy}
use Rattle.rules.specs.declared.Refusal.TheVariants.{OwnGain}
use Rattle.rules.specs.Judging.{code_of, judge}
use Rattle.rules.proofs.Verdicts.{code_determines}
use Rattle.gains.specs.declared.Permission.{Permission}
use Rattle.gains.specs.Giving.{FirstPermission}
use Rattle.judge.specs.declared.Decision.{Decision}
use Rattle.judge.specs.Answering.{decided}
use Rattle.judge.specs.Telling.{OwnGainOf}
use Rattle.judge.proofs.gaining.own_gain_of.Goals as goal

-- What is decided is the judge's.
module _ (p : Policy) (b : List ℕ) {d : Decision} (e : d ≡ decided p b) where
  -- Another verdict than own gain has another code than 10.
  untold : (d.verdict ≡ Err OwnGain → ⊥) → OwnGainOf p b None
  untold other =
      record {
        refused = λ ten.
            let code : code_of d.verdict ≡ 10 = rw e ten in
            absurd (other (code_determines d.verdict (Err OwnGain) code (λ z. omega (arith, code, z))));
        otherwise = λ _. refl;
      }

  told : (g : Option Permission) → d.verdict ≡ Err OwnGain → FirstPermission p d.sender d.request g → OwnGainOf p b g
  told g own first =
      let code : code_of (judge p b).verdict ≡ 10 = ap (λ (d : Decision). code_of d.verdict) (sym e) ∙ ap code_of own in
      record {
        refused = λ _. subst (λ (d : Decision). FirstPermission p d.sender d.request g) e first;
        otherwise = λ other. absurd (other code);
      }

pub returns-then-ne : goal.returns-then-ne
returns-then-ne c =
    untold _ _ c.decide-decision.ensures
    (λ e. let same : c.ne.result ≡ false = rw (c.ne.ensures, e) in true≢false (sym c.if-ne.true ∙ same))

pub returns : goal.returns
returns c = told _ _ c.decide-decision.ensures _ (search rules) c.permission_gained.ensures
