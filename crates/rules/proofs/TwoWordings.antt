-- The judge accepts exactly the well-formed records whose request is allowed in the second wording, and then what is read of the next
-- policy is what that wording says; a refusal changes nothing. Check by check, from the laws of each.
use mathlib.Core.Path.{◌≡◌, refl, sym, ap, ◌∙◌, subst}
use mathlib.Core.Bool.{Bool, true, false, ◌||◌}
use mathlib.Core.List.{List}
use Prim.Native.Nat.{ℕ}
use Rattle.reach.specs.declared.Policy.{Policy}
use Rattle.reach.specs.Tests.{Decides}
use Rattle.reach.specs.Tables.{View, Sized, view}
use Rattle.reach.specs.Privileges.{orphaned}
use Rattle.reach.proofs.Testing.{decides_as}
use Rattle.rules.specs.declared.Request.{Request}
use Rattle.rules.specs.declared.Request.TheVariants.{Make, Put, Take, Appoint, Dismiss, Grant, Withdraw, Use}
use Rattle.rules.specs.Records.{sender, request}
use Rattle.rules.specs.Doing.{after}
use Rattle.rules.specs.Refusals.{torn, unknown, misfit, off_the_sheet, absent, wrong_sort, already_so, own_gain, hand_over, orphan}
use Rattle.rules.specs.Gains.{gives, hands_over}
use Rattle.rules.specs.Judging.{verdict, accepted, judge}
use Rattle.rules.specs.Allowing.{WellFormed, Gives, HandsOver, Owned, Fits, view_after, Clean, Allowed}
use Rattle.rules.proofs.Passing.{Passes, passes_as, passes_all, passes_or, passes_of}
use Rattle.rules.proofs.Giving.{gives_decides, hands_over_decides, orphaned_passes}
use Rattle.rules.proofs.Table.{Passed, accepted_decides, accepted_after, refused_same}
use Rattle.rules.proofs.Fitting.{well_formed, known_sender, fits, authorised}
use Rattle.rules.proofs.Reading.{view_of_after, sized_after}

-- ---- Checks 10 to 12

module _ (p : Policy) (z : Sized p) (u : ℕ) where
  abbrev Unclean : Request → Bool
  Unclean q = own_gain p u q || hand_over p u q || orphan p q

  no_gain : (q : Request) (n : View) → view (after p q) ≡ n → Passes (gives p (after p q) u) (Gives (view p) n u → ⊥)
  no_gain q n e =
      subst (λ (w : View). Passes (gives p (after p q) u) (Gives (view p) w u → ⊥)) e (passes_of _ (gives_decides p (after p q) u))

  no_hand : (q : Request) (n : View) → view (after p q) ≡ n → Passes (hands_over p (after p q) u) (HandsOver (view p) n u → ⊥)
  no_hand q n e =
      subst
      (λ (w : View). Passes (hands_over p (after p q) u) (HandsOver (view p) w u → ⊥))
      e
      (passes_of _ (hands_over_decides p (after p q) u))

  no_orphan : (q : Request) (n : View) → view (after p q) ≡ n → Passes (orphaned (after p q)) (Owned n)
  no_orphan q n e = subst (λ (w : View). Passes (orphaned (after p q)) (Owned w)) e (orphaned_passes (after p q))

  three : {A B C : Type 0} (q : Request) → Passes (own_gain p u q) A → Passes (hand_over p u q) B → Passes (orphan p q) C
      → Passes (Unclean q) ((A × B) × C)
  three q a b c = passes_or _ _ (passes_or _ _ a b) c

  clean : (q : Request) → Fits (view p) q → Passes (Unclean q) (Clean (view p) u q (view_after (view p) q))
  unfolding own_gain hand_over orphan
  clean (Make i s g) f = passes_as (three (Make i s g) passes_all passes_all passes_all) (λ w. tt) (λ w. ((tt, tt), tt))
  clean (Put x g) f =
      let e = view_of_after p z (Put x g) f in
      passes_as (three (Put x g) (no_gain (Put x g) _ e) (no_hand (Put x g) _ e) passes_all) (λ w. w.0) (λ w. (w, tt))
  clean (Take x g) f =
      let e = view_of_after p z (Take x g) f in
      passes_as (three (Take x g) passes_all passes_all (no_orphan (Take x g) _ e)) (λ w. w.1) (λ w. ((tt, tt), w))
  clean (Appoint i k h a b) f =
      let e = view_of_after p z (Appoint i k h a b) f in
      passes_as (three (Appoint i k h a b) (no_gain (Appoint i k h a b) _ e) passes_all passes_all) (λ w. w.0.0) (λ w. ((w, tt), tt))
  clean (Dismiss i) f =
      let e = view_of_after p z (Dismiss i) f in
      passes_as (three (Dismiss i) passes_all passes_all (no_orphan (Dismiss i) _ e)) (λ w. w.1) (λ w. ((tt, tt), w))
  clean (Grant i v t o) f =
      let e = view_of_after p z (Grant i v t o) f in
      passes_as (three (Grant i v t o) (no_gain (Grant i v t o) _ e) passes_all passes_all) (λ w. w.0.0) (λ w. ((w, tt), tt))
  clean (Withdraw i) f = passes_as (three (Withdraw i) passes_all passes_all passes_all) (λ w. tt) (λ w. ((tt, tt), tt))
  clean (Use x k) f = passes_as (three (Use x k) passes_all passes_all passes_all) (λ w. tt) (λ w. ((tt, tt), tt))

-- ---- The whole

or_false : {a b : Bool} → a ≡ false → b ≡ false → (a || b) ≡ false
or_false e f = rw (e, f)

or_parts : (a b : Bool) → (a || b) ≡ false → (a ≡ false) × (b ≡ false)
or_parts a b e = (passes_or a b (itself a) (itself b)).sound e
  where
    itself : (t : Bool) → Passes t (t ≡ false)
    itself t = record { sound = λ f. f; complete = λ f. f }

module _ (p : Policy) (z : Sized p) (b : List ℕ) where
  abbrev from : ℕ
  from = sender b

  abbrev asked : Request
  asked = request b

  allowed : Passed p b from asked → WellFormed b × Allowed (view p) from asked
  allowed c =
      let f = (fits p asked).sound (or_false (or_false (or_false c.not_off c.not_absent) c.not_wrong_sort) c.not_already_so) in (
        (well_formed b).sound (or_false (or_false c.not_torn c.not_unknown) c.not_misfit),
        record {
          known = (known_sender p from).sound c.not_stranger;
          fits = f;
          authority = (authorised p from asked).sound c.authority;
          clean = (clean p z from asked f).sound (or_false (or_false c.no_own_gain c.no_hand_over) c.no_orphan);
        },
      )

  passed : WellFormed b × Allowed (view p) from asked → Passed p b from asked
  passed w =
      let a = w.1 in
      let r = or_parts (torn b || unknown b) (misfit b) ((well_formed b).complete w.0) in
      let r' = or_parts (torn b) (unknown b) r.0 in
      let s = or_parts (off_the_sheet asked || absent p asked || wrong_sort p asked) (already_so p asked) ((fits p asked).complete a.fits) in
      let s' = or_parts (off_the_sheet asked || absent p asked) (wrong_sort p asked) s.0 in
      let s'' = or_parts (off_the_sheet asked) (absent p asked) s'.0 in
      let t =
      or_parts (own_gain p from asked || hand_over p from asked) (orphan p asked) ((clean p z from asked a.fits).complete a.clean) in
      let t' = or_parts (own_gain p from asked) (hand_over p from asked) t.0 in
      record {
        not_torn = r'.0;
        not_unknown = r'.1;
        not_misfit = r.1;
        not_stranger = (known_sender p from).complete a.known;
        not_off = s''.0;
        not_absent = s''.1;
        not_wrong_sort = s'.1;
        not_already_so = s.1;
        authority = (authorised p from asked).complete a.authority;
        no_own_gain = t'.0;
        no_hand_over = t'.1;
        no_orphan = t.1;
      }

  -- Accepted means allowed, and allowed means accepted.
  pub judge_decides : Decides (accepted (verdict p b)) (WellFormed b × Allowed (view p) from asked)
  judge_decides = decides_as (accepted_decides p b) allowed passed

  -- The successor is that of the second wording.
  pub judge_after : accepted (verdict p b) ≡ true → view (judge p b).policy ≡ view_after (view p) asked
  judge_after e = ap view (accepted_after p b e) ∙ view_of_after p z asked (judge_decides.sound e).1.fits

  -- The tables keep their sizes.
  pub judge_sized : Sized (judge p b).policy
  judge_sized = go (accepted (verdict p b)) refl
    where
      go : (t : Bool) → accepted (verdict p b) ≡ t → Sized (judge p b).policy
      go true e = subst Sized (sym (accepted_after p b e)) (sized_after p z asked)
      go false e = subst Sized (sym (refused_same p b e)) z
