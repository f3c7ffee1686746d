-- The refusals of a USE: of the twelve checks five can apply, 4, 5, 6, 7 and 9, in this order; and 0 is said exactly to
-- who is permitted. The record has the form of a USE whatever its three numbers are, so checks 1 to 3 pass by
-- computation.
use mathlib.Core.Path.{◌≡◌, refl, sym}
use mathlib.Core.Bool.{Bool, true, false, not, ◌||◌}
use Prim.Native.Nat.{ℕ, ◌<◌, ◌≤◌}
use native.Mathlib.Omega.{arith}
use lib.Dec.{eqb, ltb}
use Rattle.reach.specs.declared.Policy.{Policy}
use Rattle.reach.specs.Tests.{◌⇒◌∥◌, Decides}
use Rattle.reach.specs.Tables.{sort, view}
use Rattle.reach.specs.Reach.{in_use}
use Rattle.reach.specs.Privileges.{Permitted, permitted}
use Rattle.reach.proofs.Testing.{decides_as, decides_same, decides_ltb, decides_eqb}
use Rattle.reach.proofs.Chains.{in_use_below}
use Rattle.reach.proofs.Deciding.{permitted_decides}
use Rattle.rules.proofs.Table.{accepted_decides}
use Rattle.rules.proofs.Bounded.{code_bounded}
use Rattle.rules.proofs.Fitting.{known_sender}
use Rattle.rules.proofs.Passing.{passes_ltb}
use Rattle.rules.specs.Authority.{may}
use Rattle.rules.specs.declared.Request.TheVariants.{Use}
use Rattle.rules.specs.Judging.{Verdict, code_of, verdict, verdict_on, done}
use Rattle.rules.specs.Refusals.{stranger, off_the_sheet, absent, wrong_sort, no_authority}
use Rattle.rules.specs.Refusals.{torn, unknown, misfit, already_so, own_gain, hand_over, orphan}
use Rattle.rules.specs.Records.{request, length_of}
use Rattle.access.specs.Using.{use_record, use_verdict, use_code}

-- The number behind a row.
code_row : (t : Bool) (a b : Verdict) {m n : ℕ} → code_of a ≡ m → code_of b ≡ n → code_of (t ⇒ a ∥ b) ≡ (t ⇒ m ∥ n)
code_row true a b e f = e
code_row false a b e f = f

-- The table of a USE.
pub use_table : (p : Policy) (u x k : ℕ)
    → use_code p u x k ≡ (stranger p u ⇒ 4 ∥ off_the_sheet (Use x k) ⇒ 5 ∥ absent p (Use x k) ⇒ 6 ∥ wrong_sort p (Use x k) ⇒ 7
    ∥ no_authority p u (Use x k) ⇒ 9 ∥ 0)
unfolding use_code use_verdict use_record verdict verdict_on torn unknown misfit request length_of already_so own_gain hand_over orphan done
use_table p u x k =
    code_row (stranger p u) _ _ refl (code_row (off_the_sheet (Use x k)) _ _ refl (code_row (absent p (Use x k)) _ _ refl
    (code_row (wrong_sort p (Use x k)) _ _ refl (code_row (no_authority p u (Use x k)) _ _ refl refl))))

-- 0 exactly where u is permitted: what has passed check 9 is permitted, and a permission has a user, a target in use
-- and an operation.
pub use_decides : (p : Policy) (u x k : ℕ) → Decides (eqb (use_code p u x k) 0) (Permitted (view p) u k x)
unfolding use_code use_verdict use_record request length_of torn unknown misfit off_the_sheet absent wrong_sort already_so no_authority may
    own_gain hand_over orphan in_use
use_decides p u x k =
    decides_as
    (accepted_decides p (use_record u x k))
    (λ w. (permitted_decides p u k x).sound (not-false _ w.authority))
    (λ h.
    record {
      not_torn = refl;
      not_unknown = refl;
      not_misfit = refl;
      not_stranger = (known_sender p u).complete h.user;
      not_off = or_false (ltb 63 x) (ltb 7 k) ((passes_ltb 63 x).complete (omega (arith, in_use_below p x (gear h))))
          ((passes_ltb 7 k).complete (omega (arith, h.number)));
      not_absent = true_not _ ((decides_ltb 0 (sort p x)).complete (gear h));
      not_wrong_sort = true_not _ ((decides_eqb (sort p x) 3).complete h.target);
      not_already_so = refl;
      authority = true_not _ ((permitted_decides p u k x).complete h);
      no_own_gain = refl;
      no_hand_over = refl;
      no_orphan = refl;
    })
  where
    gear : Permitted (view p) u k x → 0 < sort p x
    gear h = omega (arith, h.target)

    true_not : (t : Bool) → t ≡ true → not t ≡ false
    true_not true e = refl
    true_not false e = sym e

    not-false : (t : Bool) → not t ≡ false → t ≡ true
    not-false true e = refl
    not-false false e = sym e

    or_false : (a b : Bool) → a ≡ false → b ≡ false → (a || b) ≡ false
    or_false true b e f = e
    or_false false b e f = f

-- So 0 is the test that reach has for being permitted.
pub use_permitted : (p : Policy) (u x k : ℕ) → eqb (use_code p u x k) 0 ≡ permitted p u k x
use_permitted p u x k = decides_same _ _ (use_decides p u x k) (permitted_decides p u k x)

-- It is a number of the judge's.
pub use_bounded : (p : Policy) (u x k : ℕ) → use_code p u x k ≤ 12
unfolding use_code
use_bounded p u x k = code_bounded (use_verdict p u x k)
