-- What checks 4 to 9 leave is what the second wording asks: the sender is a user, the fields fit, and he has the authority. Kind by kind,
-- each check by the algebra of what it lets pass.
use mathlib.Core.Path.{◌≡◌, refl, sym, ◌∙◌}
use mathlib.Core.Bool.{Bool, true, false, not, ◌&&◌, ◌||◌, true≢false}
use mathlib.Core.List.{List}
use Prim.Native.Nat.{ℕ, ◌≤◌}
use native.Mathlib.Omega.{arith}
use lib.Dec.{eqb}
use lib.ListN.{length}
use Rattle.frame.specs.Fields.{length_field, kind_field}
use Rattle.reach.specs.declared.Policy.{Policy}
use Rattle.reach.specs.declared.Appointment.{Appointment}
use Rattle.reach.specs.declared.AccessRule.{AccessRule}
use Rattle.reach.specs.Tests.{◌⇒◌∥◌, Decides}
use Rattle.reach.specs.Tables.{sort, stored, appointment, rule, view}
use Rattle.reach.specs.Reach.{InUse, Group, User, Direct, is_group}
use Rattle.reach.specs.Privileges.{owner, manager, administrator, Owns, Manages, owns, manages}
use Rattle.reach.proofs.Testing.{decides_as, decides_and, decides_or, decides_eqb, decides_ltb, decides_true, refuted, fails}
use Rattle.reach.proofs.Chains.{in_use_below, decides_in_use, decides_direct}
use Rattle.reach.proofs.Deciding.{standing_decides, decides_user, user_below, holds_decides, administers_decides, permitted_decides}
use Rattle.rules.specs.declared.Request.{Request}
use Rattle.rules.specs.declared.Request.TheVariants.{Make, Put, Take, Appoint, Dismiss, Grant, Withdraw, Use}
use Rattle.rules.specs.Records.{length_of}
use Rattle.rules.specs.Authority.{governs, may_appoint, may_withdraw, may}
use Rattle.rules.specs.Refusals.{torn, unknown, misfit, stranger, one_to_three, off_the_sheet, empty, absent, wrong_sort, already_so}
use Rattle.rules.specs.Refusals.{no_authority}
use Rattle.rules.specs.Allowing.{WellFormed, Governs, MayAppoint, as_owner, as_manager, MayWithdraw, Authority, Fits}
use Rattle.rules.proofs.Passing.{Passes, passes_as, passes_all, passes_or, passes_not, passes_of, passes_ltb, passes_where}
use Rattle.rules.proofs.Passing.{passes_either, decides_leb}

-- ---- Checks 1 to 4

pub well_formed : (b : List ℕ) → Passes (torn b || unknown b || misfit b) (WellFormed b)
unfolding torn unknown misfit
well_formed b =
    passes_as
    (passes_or _ _
    (passes_or _ _
    (passes_or _ _ (passes_of _ (decides_ltb (length b) 4)) (passes_not _ (decides_eqb (length b) (length_field b))))
    (passes_not _ (decides_and _ _ (decides_leb 1 (kind_field b)) (decides_leb (kind_field b) 8))))
    (passes_not _ (decides_eqb (length b) (length_of (kind_field b)))))
    (λ w. record { whole = omega (arith, w.0.0.0); exact = w.0.0.1; known = w.0.1; fitting = w.1 })
    (λ f. (((λ l. omega (arith, f.whole, l), f.exact), f.known), f.fitting))

pub known_sender : (p : Policy) (u : ℕ) → Passes (stranger p u) (User (view p) u)
unfolding stranger
known_sender p u =
    passes_as
    (passes_or _ _ (passes_ltb 63 u) (passes_not _ (decides_user p u)))
    (λ w. w.1)
    (λ e. (omega (arith, user_below p u e), e))

-- ---- Checks 5 to 8

module _ (p : Policy) where
  group_below : (g : ℕ) → Group (view p) g → g ≤ 63
  group_below g e = omega (arith, in_use_below p g (omega (arith, e)))

  object_below : (x : ℕ) → InUse (view p) x → x ≤ 63
  object_below x i = omega (arith, in_use_below p x i)

  -- A named object is there; a group field is a group.
  named : (x : ℕ) → Passes (empty p x) (InUse (view p) x)
  named x = passes_not _ (decides_in_use p x)

  grouped : (g : ℕ) → Passes (not (is_group p g)) (Group (view p) g)
  grouped g = passes_not _ (decides_eqb (sort p g) 1)

  one_to_three_passes : (k : ℕ) → Passes (not (one_to_three k)) ((1 ≤ k) × (k ≤ 3))
  one_to_three_passes k = passes_not _ (decides_and _ _ (decides_leb 1 k) (decides_leb k 3))

  clash : {t : Bool} → t ≡ true → t ≡ false → ⊥
  clash e f = true≢false (sym e ∙ f)

  -- Between an object and a group that count, a membership that is not direct is not stored.
  not_stored : (x g : ℕ) → InUse (view p) x → Group (view p) g → (Direct (view p) x g → ⊥) → stored p x g ≡ false
  not_stored x g i e n =
      fails (stored p x g) (decides_true (stored p x g)) (λ s. n (record { object = i; group = e; is_stored = s }))

  -- Checks 5 to 8 as one condition.
  abbrev misplaced : Request → Bool
  misplaced q = off_the_sheet q || absent p q || wrong_sort p q || already_so p q

  four : {A B C D : Type 0} (q : Request) → Passes (off_the_sheet q) A → Passes (absent p q) B → Passes (wrong_sort p q) C
      → Passes (already_so p q) D → Passes (misplaced q) (((A × B) × C) × D)
  four q a b c d = passes_or _ _ (passes_or _ _ (passes_or _ _ a b) c) d

  abbrev Placed : ℕ → ℕ → Type 0
  Placed x g = ((((x ≤ 63) × (g ≤ 63)) × (InUse (view p) x × InUse (view p) g)) × Group (view p) g)

  -- PUT and TAKE ask the same but for the membership itself.
  placed : (x g : ℕ) → InUse (view p) x → Group (view p) g → Placed x g
  placed x g i e = (((object_below x i, group_below g e), (i, omega (arith, e))), e)

  pub fits : (q : Request) → Passes (misplaced q) (Fits (view p) q)
  unfolding off_the_sheet absent wrong_sort already_so
  fits (Make i s g) =
      passes_as
      (four (Make i s g)
      (passes_or _ _ (passes_or _ _ (passes_ltb 63 i) (one_to_three_passes s)) (passes_ltb 63 g))
      (named g)
      (grouped g)
      (passes_of _ (decides_in_use p i)))
      (λ w. (omega (arith, w.0.0.0.0.0), w.0.0.0.0.1, w.0.1, omega (arith, w.1)))
      (λ f. ((((((omega (arith, f.0), f.1), group_below g f.2), omega (arith, f.2)), f.2)), λ i. omega (arith, i, f.3)))
  fits (Put x g) =
      passes_as
      (four (Put x g)
      (passes_or _ _ (passes_ltb 63 x) (passes_ltb 63 g))
      (passes_or _ _ (named x) (named g))
      (grouped g)
      (passes_of _ (decides_direct p x g)))
      (λ w. (w.0.0.1.0, w.0.1, not_stored x g w.0.0.1.0 w.0.1 w.1))
      (λ f. (placed x g f.0 f.1, λ d. clash d.is_stored f.2))
  fits (Take x g) =
      passes_as
      (four (Take x g)
      (passes_or _ _ (passes_ltb 63 x) (passes_ltb 63 g))
      (passes_or _ _ (named x) (named g))
      (grouped g)
      (passes_not _ (decides_direct p x g)))
      (λ w. (w.0.0.1.0, w.0.1, w.1.is_stored))
      (λ f. (placed x g f.0 f.1, record { object = f.0; group = f.1; is_stored = f.2 }))
  fits (Appoint i k h a b) =
      passes_as
      (four (Appoint i k h a b)
      (passes_or _ _
      (passes_or _ _
      (passes_or _ _ (passes_or _ _ (passes_ltb 31 i) (one_to_three_passes k)) (passes_ltb 63 h))
      (passes_ltb 63 a))
      (passes_either _ _ _ (decides_eqb k administrator) (passes_ltb 63 b) (passes_not _ (decides_eqb b 0))))
      (passes_or _ _ (passes_or _ _ (named h) (named a)) (passes_where _ _ (decides_eqb k administrator) (named b)))
      (passes_or _ _
      (passes_or _ _ (grouped a) (passes_where _ _ (decides_eqb k administrator) (grouped b)))
      (passes_not _ (decides_user p h)))
      (passes_of _ (standing_decides (appointment p i))))
      (λ w. (
        omega (arith, w.0.0.0.0.0.0.0),
        record {
          known = w.0.0.0.0.0.0.1;
          holder = w.0.1.1;
          group_a = w.0.1.0.0;
          group_b = w.0.1.0.1;
          unread_b = w.0.0.0.1.1;
        },
        omega (arith, w.1),
      ))
      (λ f.
      let t = f.1 in (
        (
          (
            (
              (((omega (arith, f.0), t.known), omega (arith, user_below p h t.holder)), group_below a t.group_a),
              (λ e. group_below b (t.group_b e), t.unread_b),
            ),
            ((omega (arith, t.holder), omega (arith, t.group_a)), λ e. omega (arith, t.group_b e)),
          ),
          ((t.group_a, t.group_b), t.holder),
        ),
        λ s. omega (arith, s, f.2),
      ))
  fits (Dismiss i) =
      passes_as
      (four (Dismiss i) (passes_ltb 31 i) (passes_not _ (standing_decides (appointment p i))) passes_all passes_all)
      (λ w. (omega (arith, w.0.0.0), w.0.0.1))
      (λ f. (((omega (arith, f.0), f.1), tt), tt))
  fits (Grant i u t o) =
      passes_as
      (four (Grant i u t o)
      (passes_or _ _ (passes_or _ _ (passes_or _ _ (passes_ltb 63 i) (passes_ltb 63 u)) (passes_ltb 63 t)) (passes_of _ (decides_eqb o 0)))
      (passes_or _ _ (named u) (named t))
      (passes_or _ _ (grouped u) (grouped t))
      (record { sound = λ e. e; complete = λ e. e }))
      (λ w. (omega (arith, w.0.0.0.0.0.0), w.0.1, w.0.0.0.1, w.1))
      (λ f. (
        (
          (
            (((omega (arith, f.0), group_below u f.1.0), group_below t f.1.1), f.2),
            (omega (arith, f.1.0), omega (arith, f.1.1)),
          ),
          f.1,
        ),
        f.3,
      ))
  fits (Withdraw i) =
      passes_as
      (four (Withdraw i) (passes_ltb 63 i) (passes_not _ (decides_true (rule p i).used)) passes_all passes_all)
      (λ w. (omega (arith, w.0.0.0), w.0.0.1))
      (λ f. (((omega (arith, f.0), f.1), tt), tt))
  fits (Use x k) =
      passes_as
      (four (Use x k) (passes_or _ _ (passes_ltb 63 x) (passes_ltb 7 k)) (named x) (passes_not _ (decides_eqb (sort p x) 3)) passes_all)
      (λ w. (omega (arith, w.0.0.0.1), w.0.1))
      (λ f. ((((object_below x (omega (arith, f.1)), omega (arith, f.0)), omega (arith, f.1)), f.1), tt))

-- ---- Check 9

module _ (p : Policy) (u : ℕ) where
  governs_decides : (x : ℕ) → Decides (governs p u x) (Governs (view p) u x)
  governs_decides x = decides_or _ _ (holds_decides p owner u x) (holds_decides p manager u x)

  pub may_appoint_decides : (w : Appointment) → Decides (may_appoint p u w) (MayAppoint (view p) u w)
  unfolding may_appoint
  may_appoint_decides w = go (eqb w.kind administrator) (decides_eqb w.kind administrator)
    where
      both : Decides (manages p u w.a && manages p u w.b) (Manages (view p) u w.a × Manages (view p) u w.b)
      both = decides_and _ _ (holds_decides p manager u w.a) (holds_decides p manager u w.b)

      go : (t : Bool) → Decides t (w.kind ≡ administrator)
          → Decides (t ⇒ manages p u w.a && manages p u w.b ∥ owns p u w.a) (MayAppoint (view p) u w)
      go true d = decides_as both (λ m. as_manager (d.sound refl) m.0 m.1) (λ m. managed (d.sound refl) m)
        where
          managed : w.kind ≡ administrator → MayAppoint (view p) u w → Manages (view p) u w.a × Manages (view p) u w.b
          managed e (as_owner n o) = absurd (n e)
          managed e (as_manager e' a b) = (a, b)
      go false d = decides_as (holds_decides p owner u w.a) (λ o. as_owner (refuted d refl) o) (λ m. owned (refuted d refl) m)
        where
          owned : (w.kind ≡ administrator → ⊥) → MayAppoint (view p) u w → Owns (view p) u w.a
          owned n (as_owner m o) = o
          owned n (as_manager e a b) = absurd (n e)

  may_withdraw_decides : (r : AccessRule) → Decides (may_withdraw p u r) (MayWithdraw (view p) u r)
  unfolding may_withdraw
  may_withdraw_decides r = decides_or _ _ (administers_decides p u r.users r.targets) (holds_decides p owner u r.targets)

  may_decides : (q : Request) → Decides (may p u q) (Authority (view p) u q)
  unfolding may
  may_decides (Make i s g) = governs_decides g
  may_decides (Put x g) = decides_and _ _ (governs_decides x) (governs_decides g)
  may_decides (Take x g) = decides_and _ _ (governs_decides x) (governs_decides g)
  may_decides (Appoint i k h a b) = may_appoint_decides (record { kind = k; holder = h; a = a; b = b })
  may_decides (Dismiss i) = may_appoint_decides (appointment p i)
  may_decides (Grant i v t o) = administers_decides p u v t
  may_decides (Withdraw i) = may_withdraw_decides (rule p i)
  may_decides (Use x k) = permitted_decides p u k x

  pub authorised : (q : Request) → Passes (no_authority p u q) (Authority (view p) u q)
  unfolding no_authority
  authorised q = passes_not _ (may_decides q)
