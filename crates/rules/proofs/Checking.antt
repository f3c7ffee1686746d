-- A check by `if_so`, and the `?` after it: what it passes it does not apply to, and of what it refuses it says its refusal. By cases on the
-- test.
use mathlib.Core.Path.{◌≡◌, refl, ap, ◌∙◌}
use mathlib.Core.Bool.{Bool, true, false}
use Rattle.std.specs.Prelude.{Result, Ok, Err, IsErrAnd}
use Rattle.std.proofs.Common.{rules}
use Rattle.rules.specs.declared.Refusal.{Refusal}
use Rattle.rules.specs.Judging.{checked}

-- What a `?` hands on is the error.
pub handed_on : {A : Type 0} (w : Result A Refusal) {e : Refusal} → IsErrAnd w (λ f. f ≡ e) → w ≡ Err e
handed_on (Ok x) n = absurd n
handed_on (Err f) n = ap (λ (g : Refusal). Err g) n

pub passed : (t : Bool) (r : Refusal) {x : Unit {0}} → Ok x ≡ checked t r → t ≡ false
passed true r e = search rules
passed false r e = refl

pub applied : (t : Bool) (r : Refusal) {f : Refusal} → Err f ≡ checked t r → t ≡ true
applied true r e = refl
applied false r e = search rules

said_by : (t : Bool) (r : Refusal) {f : Refusal} → Err f ≡ checked t r → f ≡ r
said_by true r e = search rules
said_by false r e = search rules

pub refused : {A : Type 0} (t : Bool) (r : Refusal) {w : Result A Refusal} {f : Refusal} → Err f ≡ checked t r → IsErrAnd w (λ g. g ≡ f)
    → w ≡ Err r
refused t r {w} e n = handed_on w n ∙ ap (λ (g : Refusal). Err g) (said_by t r e)
