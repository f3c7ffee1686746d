-- What must be among the rules for a permission to come.
use mathlib.Core.Path.{◌≡◌, sym, ap, ◌∙◌, subst}
use mathlib.Core.Bool.{Bool, true}
use mathlib.Core.Logic.{inl, inr, ⊎_elim}
use Prim.Native.Nat.{ℕ, ◌-◌, ◌^◌, ◌<◌}
use native.Mathlib.Omega.{arith}
use lib.Bits.{bit_and}
use lib.ListN.{get_or}
use Rattle.reach.specs.declared.Policy.{Policy}
use Rattle.reach.specs.declared.AccessRule.{AccessRule}
use Rattle.reach.specs.Words.{bit, has, SetOf}
use Rattle.reach.specs.Tests.{Some}
use Rattle.reach.specs.Tables.{no_rule, view}
use Rattle.reach.specs.Reach.{User, Target, Under}
use Rattle.reach.specs.Privileges.{PermitsBy, Permitted}
use Rattle.reach.proofs.Bits.{bit_two, bit_clash}
use Rattle.reach.proofs.WordSets.{set_at, decides_has}
use Rattle.reach.proofs.AsRead.{rule_is}
use Rattle.reach.proofs.Reaching.{under_trans}
use Rattle.gains.specs.Lacking.{Above, UnderPut, LacksPermit, LacksRuled}
use Rattle.gains.specs.Searching.{GrantsOver, Opens}
use Rattle.gains.proofs.Lending.{opened_set}
use Rattle.gains.proofs.News.{news_no}

module _ (p : Policy) {u over : ℕ} (user : User (view p) u) (o : Above p u over) where
  -- A rule that covers him and a target permits what it has.
  permits : {k y : ℕ} → k < 8 → Target (view p) y → Some 64 (PermitsBy (view p) u k y) → Permitted (view p) u k y
  permits n t b = record { user = user; target = t; number = n; by = b }

  -- Where PUT gives a permission a rule opens: one whose U comes to be above him, or one that covers him and whose T is above the group and
  -- not above the object. A rule that did cover him, with a T that x was under, permitted it before.
  pub lacks_permit_opens : {x g object group more opened : ℕ} {under : Bool} → Above p x object → Above p g group → under ≡ has over x
      → SetOf more (λ t. (under ≡ true) × (bit (bit_and group (2 ^ 64 - 1 - over)) t ≡ 1))
      → opened ≡ bit_and group (2 ^ 64 - 1 - object) → LacksPermit (view p) u x g
      → Some 64 (λ i. Opens (get_or p.rules i no_rule) over more opened)
  lacks_permit_opens {x} {g} {object} {group} {more} {opened} a s e m w l =
      record {
        place = l.place;
        low = l.low;
        at =
            subst
            (λ (r : AccessRule). Opens r over more opened)
            (rule_is p l.place)
            (record {
              used = l.used;
              by = ⊎_elim (λ z. inl (newly z l.covers_user)) (λ b. inr (b, newly_above (o.only _ b) l.covers_gear)) (bit_two over _);
            });
      }
    where
      -- He was not covered before, so it is by x.
      newly : bit over ((view p).rule l.place).users ≡ 0 → UnderPut (view p) x g u ((view p).rule l.place).users
          → bit more ((view p).rule l.place).users ≡ 1
      newly z (inl c) = absurd (bit_clash _ _ z (o.all _ c))
      newly z (inr c) =
          m.all _ (
            e ∙ (decides_has o x).complete c.0,
            (opened_set p o s).all _ (c.1, λ q. bit_clash _ _ z (o.all _ q)),
          )

      had : Under (view p) u ((view p).rule l.place).users → Under (view p) l.gear ((view p).rule l.place).targets → ⊥
      had c d =
          l.lacks
          (permits l.number l.target
          (record {
            place = l.place;
            low = l.low;
            at = record { used = l.used; operation = l.has; covers_user = c; covers_target = d };
          }))

      newly_above : Under (view p) u ((view p).rule l.place).users → UnderPut (view p) x g l.gear ((view p).rule l.place).targets
          → bit opened ((view p).rule l.place).targets ≡ 1
      newly_above c (inl d) = absurd (had c d)
      newly_above c (inr d) = (set_at w (opened_set p a s)).all _ (d.1, λ q. had c (under_trans d.0 q))

  -- GRANT gives nothing if each operation of the new rule is one that the rules that cover him have over what its T is under.
  pub none_lacks_ruled : {r : AccessRule} {above users targets set : ℕ} → Above p r.targets above
      → SetOf set (λ k. Some 64 (λ i. GrantsOver (get_or p.rules i no_rule) users targets k)) → users ≡ over → targets ≡ above
      → r.operations < 2 ^ 64 → bit_and r.operations (2 ^ 64 - 1 - set) ≡ 0 → LacksRuled (view p) u r → ⊥
  none_lacks_ruled {r} {users = users} {targets = targets} {set = set} a s f h w e l =
      ⊎_elim
      (λ z.
      news_no set r.operations s.word w e
      (record {
        place = l.operation;
        low = omega (arith, l.number);
        at = record { now = l.has; lacked = bit_clash _ _ z };
      }))
      (λ b. l.lacks (granted (s.only _ b)))
      (bit_two set l.operation)
    where
      granted : Some 64 (λ i. GrantsOver (get_or p.rules i no_rule) users targets l.operation) → Permitted (view p) u l.operation l.gear
      granted g =
          let i = rule_is p g.place in
          let v = g.at in
          permits l.number l.target
          (record {
            place = g.place;
            low = g.low;
            at =
                record {
                  used = ap (λ (q : AccessRule). q.used) i ∙ v.used;
                  operation = ap (λ (q : AccessRule). bit q.operations l.operation) i ∙ v.operation;
                  covers_user = subst (λ (q : AccessRule). Under (view p) u q.users) (sym i) ((set_at f o).only _ v.in_u);
                  covers_target =
                      subst
                      (λ (q : AccessRule). Under (view p) l.gear q.targets)
                      (sym i)
                      (under_trans l.covers ((set_at h a).only _ v.in_t));
                };
          })
