-- The line of 3's permission after the first thirteen records of the sample, spelled out: the rule and both chains, record by record back to
-- the founding. The chains are of one membership each, as nothing else is directly in anything on the way.
use mathlib.Core.Path.{◌≡◌, refl, sym, ap, ◌∙◌, subst}
use mathlib.Core.Bool.{false, not, ◌&&◌, ◌||◌}
use mathlib.Core.Logic.{◌⊎◌, inl, inr}
use mathlib.Core.List.{[], ◌∷◌}
use Prim.Native.Nat.{ℕ}
use native.Mathlib.Omega.{arith}
use lib.Dec.{eqb}
use Rattle.reach.specs.declared.Policy.{Policy}
use Rattle.reach.specs.Tests.{some}
use Rattle.reach.specs.Tables.{rule, view, initial}
use Rattle.reach.specs.Reach.{Direct, Under, itself, up, direct}
use Rattle.reach.proofs.Testing.{decides_eqb, decides_or}
use Rattle.reach.proofs.Chains.{in_use_below, decides_direct}
use Rattle.rules.proofs.Answered.{computed}
use Rattle.list.specs.Runs.{run, policy_at, end}
use Rattle.list.specs.Lines.{Each, MembershipLine, PermissionLine}
use Rattle.list.specs.Telling.{Membership, Account, tell_membership, tell_granting, tell_chain, tell}
use Rattle.list.proofs.Picking.{none_below, passes_too, only_at}
use Rattle.list.proofs.Example.{thirteen, line_of_3}
use Rattle.list.proofs.Told.{rule_0, 3-in-4, 6-in-5, rule_told, told_3_4, told_6_5}

abbrev last : Policy
last = policy_at initial thirteen (end initial thirteen)

abbrev Joined : ℕ → ℕ → Type 0
Joined = MembershipLine initial thirteen (end initial thirteen)

-- ---- The chains

-- What is in what at the end: 0 in nothing, 3 in 4 and 0, 4 in 0, 6 in 5, 5 in 0; and one rule is in use, that of 4 and 5 at place 0.
at_end : (some 64 (direct last 0) ≡ false)
    × (some 64 (λ h. direct last 3 h && not (eqb h 4 || eqb h 0)) ≡ false)
    × (some 64 (λ h. direct last 4 h && not (eqb h 0)) ≡ false)
    × (some 64 (λ h. direct last 6 h && not (eqb h 5 || eqb h 0)) ≡ false)
    × (some 64 (λ h. direct last 5 h && not (eqb h 0)) ≡ false)
    × (some 64 (λ i. (rule last i).used && not (eqb i 0)) ≡ false)
    × ((rule last 0).users ≡ 4)
    × ((rule last 0).targets ≡ 5)
unfolding computed run
at_end = (refl, refl, refl, refl, refl, refl, refl, refl)

-- Nothing is above 0 but 0.
top : {x g : ℕ} → x ≡ 0 → Under (view last) x g → g ≡ 0
top e (itself i) = e
top e (up {h = h} d l) =
    absurd
    (none_below 64 (direct last 0) at_end.0 h (in_use_below last h (omega (arith, d.group)))
    ((decides_direct last 0 h).complete (subst (λ (y : ℕ). Direct (view last) y h) e d)))

-- Where b is in 0 alone, and a in nothing but b and 0, the one chain from a to b is that of the membership of a in b.
module _ (a b : ℕ) (apart : a ≡ b → ⊥) (below : b ≡ 0 → ⊥)
    (above_a : some 64 (λ h. direct last a h && not (eqb h b || eqb h 0)) ≡ false)
    (above_b : some 64 (λ h. direct last b h && not (eqb h 0)) ≡ false) where
  over_a : {x h : ℕ} → x ≡ a → Direct (view last) x h → (h ≡ b) ⊎ (h ≡ 0)
  over_a {x} {h} e d =
      (decides_or (eqb h b) (eqb h 0) (decides_eqb h b) (decides_eqb h 0)).sound
      (passes_too 64 (direct last a) (λ h. eqb h b || eqb h 0) above_a h (in_use_below last h (omega (arith, d.group)))
      ((decides_direct last a h).complete (subst (λ (y : ℕ). Direct (view last) y h) e d)))

  over_b : {x h : ℕ} → x ≡ b → Direct (view last) x h → h ≡ 0
  over_b {x} {h} e d =
      only_at 64 0 (direct last b) above_b h (in_use_below last h (omega (arith, d.group)))
      ((decides_direct last b h).complete (subst (λ (y : ℕ). Direct (view last) y h) e d))

  none_told : {x g : ℕ} → x ≡ b → g ≡ b → (l : Under (view last) x g) (m : Each Joined l)
      → tell_chain initial thirteen (end initial thirteen) l m ≡ []
  unfolding tell_chain
  none_told e f (itself i) m = refl
  none_told e f (up d l) m = absurd (below (sym f ∙ top (over_b e d) l))

  one_told : (t : Membership) → ((x g : ℕ) → x ≡ a → g ≡ b → (m : Joined x g) → tell_membership m ≡ t)
      → {x g : ℕ} → x ≡ a → g ≡ b → (l : Under (view last) x g) (m : Each Joined l)
      → tell_chain initial thirteen (end initial thirteen) l m ≡ t ∷ []
  unfolding tell_chain
  one_told t told e f (itself i) m = absurd (apart (sym e ∙ f))
  one_told t told {x} {g} e f (up {h = h} d l) m = go (over_a e d)
    where
      go : (h ≡ b) ⊎ (h ≡ 0) → tell_membership m.0 ∷ tell_chain initial thirteen (end initial thirteen) l m.1 ≡ t ∷ []
      go (inl z) = let p = told x h e z m.0 in let q = none_told z f l m.1 in cc
      go (inr z) = absurd (below (sym f ∙ top z l))

-- ---- The whole

-- 3 may transmit on 6 by the rule at place 0, which 3 granted; as one whom 2 put into 4; on what 1 made in 5.
abbrev pub account_of_3 : Account
account_of_3 = record { rule = rule_0; user_chain = 3-in-4 ∷ []; target_chain = 6-in-5 ∷ [] }

pub told : (l : PermissionLine initial thirteen 3 2 6) → tell initial thirteen l ≡ account_of_3
unfolding tell
told l = λ i. record { rule = of_rule i; user_chain = of_user i; target_chain = of_target i }
  where
    at_0 : l.place ≡ 0
    at_0 = only_at 64 0 (λ i. (rule last i).used) at_end.5 l.place l.low l.permits.used

    of_rule : tell_granting l.rule_line ≡ rule_0
    of_rule = rule_told at_0 l.rule_line

    of_user : tell_chain initial thirteen (end initial thirteen) l.permits.covers_user l.user_line ≡ 3-in-4 ∷ []
    of_user =
        one_told 3 4 (λ e. omega arith) (λ e. omega arith) at_end.1 at_end.2 3-in-4 (λ x g e f m. told_3_4 e f m)
        refl
        (ap (λ (n : ℕ). (rule last n).users) at_0 ∙ at_end.6)
        l.permits.covers_user
        l.user_line

    of_target : tell_chain initial thirteen (end initial thirteen) l.permits.covers_target l.target_line ≡ 6-in-5 ∷ []
    of_target =
        one_told 6 5 (λ e. omega arith) (λ e. omega arith) at_end.3 at_end.4 6-in-5 (λ x g e f m. told_6_5 e f m)
        refl
        (ap (λ (n : ℕ). (rule last n).targets) at_0 ∙ at_end.7)
        l.permits.covers_target
        l.target_line

-- The line that demand 3 gives.
pub line_of_3_told : tell initial thirteen line_of_3 ≡ account_of_3
line_of_3_told = told line_of_3
