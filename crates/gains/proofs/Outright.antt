-- Own gain and hand-over of the refusal table are what is lacked at the named objects: a test that decides the one is the other. Where a
-- place or a number is past its table, or what PUT names does not fit, the request gives nothing.
use mathlib.Core.Path.{◌≡◌, refl, sym, subst}
use mathlib.Core.Bool.{Bool, true, false}
use mathlib.Core.Logic.{⊎_elim}
use Prim.Native.Nat.{ℕ, ◌≤◌, ◌<◌}
use native.Mathlib.Decide.{dec_lt}
use native.Mathlib.Omega.{arith}
use Rattle.reach.specs.declared.Policy.{Policy}
use Rattle.reach.specs.declared.Appointment.{Appointment}
use Rattle.reach.specs.declared.AccessRule.{AccessRule}
use Rattle.reach.specs.Tests.{Decides}
use Rattle.reach.specs.Tables.{Sized, View, view}
use Rattle.reach.specs.Reach.{InUse, Group, User}
use Rattle.reach.specs.Changes.{view_put, view_ruled}
use Rattle.reach.proofs.Testing.{decides_as, decides_same, decides_none, fails}
use Rattle.reach.proofs.Chains.{in_use_below}
use Rattle.reach.proofs.Past.{put_past, appointed_past, ruled_past}
use Rattle.reach.proofs.AsRead.{view_of_put, view_of_appointed, view_of_granted}
use Rattle.rules.specs.declared.Request.TheVariants.{Put, Grant}
use Rattle.rules.specs.Doing.{after}
use Rattle.rules.specs.Gains.{gives, hands_over}
use Rattle.rules.specs.Refusals.{own_gain, hand_over}
use Rattle.rules.specs.Allowing.{Privilege, owning, managing, administering, permission, Has, Gives, HandsOver, appointing}
use Rattle.rules.proofs.Giving.{gives_decides, hands_over_decides}
use Rattle.gains.specs.Lacking.{LacksPut, LacksOver, LacksAppointed, LacksRuled}
use Rattle.gains.proofs.PutHeld.{put_hands_over, hands_over_put}
use Rattle.gains.proofs.PutGives.{policy_put_gives, gives_put}
use Rattle.gains.proofs.PutNamed.{gives_fits, hands_fits}
use Rattle.gains.proofs.Appointed.{appoint_gives, gives_appoint}
use Rattle.gains.proofs.Granted.{ruled_gives, gives_ruled}

-- A test of what is given by the view after is one of what is given by the policy after.
gain_is : (p n : Policy) (u : ℕ) {v : View} {L : Type 0} (t : Bool) → view n ≡ v → Decides t L → (Gives (view p) v u → L)
    → (L → Gives (view p) v u) → t ≡ gives p n u
gain_is p n u t e d f b =
    decides_same t _ d
    (decides_as
    (gives_decides p n u)
    (λ w. f (subst (λ (m : View). Gives (view p) m u) e w))
    (λ l. subst (λ (m : View). Gives (view p) m u) (sym e) (b l)))

-- A policy that stays gives nothing.
stays_gives : (p n : Policy) (u : ℕ) → n ≡ p → false ≡ gives p n u
stays_gives p n u e =
    sym (fails _ (gives_decides p n u) (λ w. let g = subst (λ (m : Policy). Gives (view p) (view m) u) e w in g.lacked g.has))

-- Who is given something after GRANT is a user before: the sorts stay.
has_user : (v : View) (i : ℕ) (r : AccessRule) {u : ℕ} → Gives v (view_ruled v i r) u → User v u
has_user v i r {u} w = go w.what w.has
  where
    go : (p : Privilege) → Has (view_ruled v i r) u p → User v u
    go (owning x) h = h.user
    go (managing x) h = h.user
    go (administering a b) h = h.user
    go (permission k x) h = h.user

abbrev pub new_rule : ℕ → ℕ → ℕ → AccessRule
new_rule w t o = record { used = true; users = w; targets = t; operations = o }

module _ (p : Policy) (z : Sized p) (u : ℕ) where
  module _ (x g : ℕ) where
    after_put : x < 64 → g < 64 → view (after p (Put x g)) ≡ view_put (view p) x g
    unfolding after
    after_put a b = view_of_put p z x g a b

    after_past : ((x < 64) × (g < 64) → ⊥) → after p (Put x g) ≡ p
    unfolding after
    after_past n = put_past p x g n

    -- PUT gives nothing unless its sender is a user, and what it names fits.
    pub put_gains_none : (User (view p) u × (InUse (view p) x × Group (view p) g) → ⊥) → false ≡ own_gain p u (Put x g)
    unfolding own_gain
    put_gains_none n =
        elim (dec_lt x 64) [
          | no a ↦ stays_gives p (after p (Put x g)) u (after_past (λ w. a w.0))
          | yes a ↦
              elim (dec_lt g 64) [
                | no b ↦ stays_gives p (after p (Put x g)) u (after_past (λ w. b w.1))
                | yes b ↦
                    sym
                    (fails _
                    (gives_decides p (after p (Put x g)) u)
                    (λ w. n (gives_fits (view p) x g (subst (λ (m : View). Gives (view p) m u) (after_put a b) w))))
              ]
        ]

    pub put_hands_none : (InUse (view p) x × Group (view p) g → ⊥) → false ≡ hand_over p u (Put x g)
    unfolding hand_over
    put_hands_none n =
        elim (dec_lt x 64) [
          | no a ↦ stays (after_past (λ w. a w.0))
          | yes a ↦
              elim (dec_lt g 64) [
                | no b ↦ stays (after_past (λ w. b w.1))
                | yes b ↦
                    sym
                    (fails _
                    (hands_over_decides p (after p (Put x g)) u)
                    (λ w. n (hands_fits (view p) x g (subst (λ (m : View). HandsOver (view p) m u) (after_put a b) w))))
              ]
        ]
      where
        stays : after p (Put x g) ≡ p → false ≡ hands_over p (after p (Put x g)) u
        stays e =
            sym
            (fails _
            (hands_over_decides p (after p (Put x g)) u)
            (λ w. keeps (subst (λ (m : Policy). HandsOver (view p) (view m) u) e w)))
          where
            keeps : HandsOver (view p) (view p) u → ⊥
            keeps h = ⊎_elim (λ s. s.1 s.0) (λ s. s.1 s.0) h.comes.gain

    module _ (i : InUse (view p) x) (j : Group (view p) g) where
      fitting : view (after p (Put x g)) ≡ view_put (view p) x g
      fitting = after_put (in_use_below p x i) (in_use_below p g (omega (arith, j)))

      pub put_own_gain : (t : Bool) → User (view p) u → Decides t (LacksPut (view p) u x g) → t ≡ own_gain p u (Put x g)
      unfolding own_gain
      put_own_gain t user d =
          gain_is p (after p (Put x g)) u t fitting d (policy_put_gives p u x g user i j) (gives_put (view p) u x g user i j)

      pub put_hand_over : (t : Bool) → Decides t (LacksOver (view p) u x g) → t ≡ hand_over p u (Put x g)
      unfolding hand_over
      put_hand_over t d =
          decides_same t _ d
          (decides_as
          (hands_over_decides p (after p (Put x g)) u)
          (λ w. put_hands_over (view p) x g (subst (λ (m : View). HandsOver (view p) m u) fitting w))
          (λ l. subst (λ (m : View). HandsOver (view p) m u) (sym fitting) (hands_over_put (view p) x g i j l)))

  pub appoint_own_gain : (i : ℕ) (w : Appointment) (t : Bool) → i < 32 → Decides t (LacksAppointed (view p) u w)
      → t ≡ own_gain p u (appointing i w)
  unfolding own_gain after
  appoint_own_gain i w t low d =
      gain_is p (after p (appointing i w)) u t (view_of_appointed p z i w low) d
      (appoint_gives (view p) u i w)
      (gives_appoint (view p) u i w low)

  pub appoint_gains_past : (i : ℕ) (w : Appointment) → 32 ≤ i → false ≡ own_gain p u (appointing i w)
  unfolding own_gain after
  appoint_gains_past i w l = stays_gives p (after p (appointing i w)) u (appointed_past p z i w l)

  -- Who appoints another gains nothing.
  pub appoint_other : (i : ℕ) (w : Appointment) → (w.holder ≡ u → ⊥) → own_gain p u (appointing i w) ≡ false
  appoint_other i w n =
      elim (dec_lt i 32) [
        | no l ↦ sym (appoint_gains_past i w (omega (arith, l)))
        | yes l ↦ sym (appoint_own_gain i w false l (decides_none (λ k. n k.own)))
      ]

  pub grant_own_gain : (i w s o : ℕ) (t : Bool) → i < 64 → User (view p) u → Decides t (LacksRuled (view p) u (new_rule w s o))
      → t ≡ own_gain p u (Grant i w s o)
  unfolding own_gain after
  grant_own_gain i w s o t low user d =
      gain_is p (after p (Grant i w s o)) u t (view_of_granted p z i w s o low) d
      (ruled_gives (view p) u i (new_rule w s o) user)
      (gives_ruled (view p) u i (new_rule w s o) user low refl)

  pub grant_gains_none : (i w s o : ℕ) → ((i < 64) × User (view p) u → ⊥) → false ≡ own_gain p u (Grant i w s o)
  unfolding own_gain after
  grant_gains_none i w s o n =
      elim (dec_lt i 64) [
        | no a ↦ stays_gives p (after p (Grant i w s o)) u (ruled_past p z i _ (omega (arith, a)))
        | yes a ↦
            sym
            (fails _
            (gives_decides p (after p (Grant i w s o)) u)
            (λ h. n (a, has_user (view p) i (new_rule w s o) (subst (λ (m : View). Gives (view p) m u) (view_of_granted p z i w s o a) h))))
      ]
