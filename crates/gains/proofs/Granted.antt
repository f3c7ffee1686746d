-- GRANT gives its sender something exactly if he is among the users of the rule and lacks an operation of it on gear of it. Reach and
-- appointments stay, and a permission after it is by the new rule or was there.
use mathlib.Core.Path.{◌≡◌, refl, sym, ap, ◌∙◌, subst}
use mathlib.Core.Bool.{true}
use mathlib.Core.Logic.{◌⊎◌, inl, inr, ⊎_elim}
use Prim.Native.Nat.{ℕ, ◌<◌}
use native.Mathlib.Omega.{arith}
use Rattle.reach.specs.declared.AccessRule.{AccessRule}
use Rattle.reach.specs.Words.{bit}
use Rattle.reach.specs.Tables.{View}
use Rattle.reach.specs.Reach.{User, Under}
use Rattle.reach.specs.Privileges.{owner, manager, Permitted}
use Rattle.reach.specs.Changes.{view_ruled}
use Rattle.reach.proofs.Testing.{written-cases}
use Rattle.reach.proofs.Frames.{under_ruled, under_ruled_back}
use Rattle.reach.proofs.Carrying.{known_kind, holds_carried, administers_carried, ruled_carries_back}
use Rattle.rules.specs.Allowing.{Privilege, owning, managing, administering, permission, Has, Gives}
use Rattle.gains.specs.Lacking.{LacksRuled}

module _ (v : View) (u i : ℕ) (r : AccessRule) (user : User v u) where
  -- What a rule permits him, on the view before.
  abbrev Permits : AccessRule → ℕ → ℕ → Type 0
  Permits s k x = (s.used ≡ true) × (bit s.operations k ≡ 1) × Under v u s.users × Under v x s.targets

  -- A permission after GRANT was there, or the new rule gives it.
  permitted_ruled : {k x : ℕ} → Permitted (view_ruled v i r) u k x → Permitted v u k x ⊎ Permits r k x
  permitted_ruled {k} {x} h =
      ⊎_elim
      (λ e. inr (subst (λ (s : AccessRule). Permits s k x) e.1 by))
      (λ e.
      let b = subst (λ (s : AccessRule). Permits s k x) e.1 by in
      inl
      (record {
        user = user;
        target = h.target;
        number = h.number;
        by =
            record {
              place = h.by.place;
              low = h.by.low;
              at = record { used = b.0; operation = b.1; covers_user = b.2; covers_target = b.3 };
            };
      }))
      (written-cases r (v.rule h.by.place) h.by.place i)
    where
      by : Permits ((view_ruled v i r).rule h.by.place) k x
      by = (
        h.by.at.used,
        h.by.at.operation,
        under_ruled_back v i r h.by.at.covers_user,
        under_ruled_back v i r h.by.at.covers_target,
      )

  here : (view_ruled v i r).rule i ≡ r
  here = ⊎_elim (λ e. e.1) (λ e. absurd (e.0 refl)) (written-cases r (v.rule i) i i)

  pub ruled_gives : Gives v (view_ruled v i r) u → LacksRuled v u r
  ruled_gives g = go g.what g.has g.lacked
    where
      go : (p : Privilege) → Has (view_ruled v i r) u p → (Has v u p → ⊥) → LacksRuled v u r
      go (owning x) h n = absurd (n (holds_carried (ruled_carries_back v i r) user (known_kind owner (omega arith) (omega arith)) tt h))
      go (managing x) h n = absurd (n (holds_carried (ruled_carries_back v i r) user (known_kind manager (omega arith) (omega arith)) tt h))
      go (administering a b) h n = absurd (n (administers_carried (ruled_carries_back v i r) user tt tt h))
      go (permission k x) h n =
          ⊎_elim
          (λ o. absurd (n o))
          (λ b.
          record {
            among = b.2;
            operation = k;
            gear = x;
            number = h.number;
            has = b.1;
            target = h.target;
            covers = b.3;
            lacks = n;
          })
          (permitted_ruled h)

  pub gives_ruled : i < 64 → r.used ≡ true → LacksRuled v u r → Gives v (view_ruled v i r) u
  gives_ruled low used l =
      record {
        what = permission l.operation l.gear;
        there = omega (arith, l.target);
        has =
            record {
              user = user;
              target = l.target;
              number = l.number;
              by =
                  record {
                    place = i;
                    low = low;
                    at =
                        record {
                          used = ap (λ (s : AccessRule). s.used) here ∙ used;
                          operation = ap (λ (s : AccessRule). bit s.operations l.operation) here ∙ l.has;
                          covers_user =
                              subst (λ (s : AccessRule). Under (view_ruled v i r) u s.users) (sym here) (under_ruled v i r l.among);
                          covers_target =
                              subst
                              (λ (s : AccessRule). Under (view_ruled v i r) l.gear s.targets)
                              (sym here)
                              (under_ruled v i r l.covers);
                        };
                  };
            };
        lacked = l.lacks;
      }
