-- What the search finds is what is gained. The tables of what is granted, held against what a target is under, are what is permitted; so a
-- pair is fresh exactly if a permission comes.
use mathlib.Core.Path.{◌≡◌, refl, sym, ap, ◌∙◌, subst}
use mathlib.Core.Bool.{Bool, true, false, not, ◌&&◌}
use mathlib.Core.List.{List}
use mathlib.Core.Logic.{◌⊎◌, inl, inr, ⊎_elim}
use Prim.Native.Nat.{ℕ, ◌^◌, ◌<◌}
use lib.Bits.{bit_and}
use lib.Dec.{eqb}
use lib.ListN.{get_or}
use borrow.Author.Tests.{eqb-true}
use Rattle.reach.specs.declared.Policy.{Policy}
use Rattle.reach.specs.declared.AccessRule.{AccessRule}
use Rattle.reach.specs.Words.{bit, has, SetOf, TableOf, Meet}
use Rattle.reach.specs.Tests.{Some, Decides}
use Rattle.reach.specs.Tables.{no_rule, view}
use Rattle.reach.specs.Reach.{User, Target, Under}
use Rattle.reach.specs.Privileges.{Permitted}
use Rattle.reach.specs.Asking.{UnderBy, HasT}
use Rattle.reach.proofs.Bits.{bit_none}
use Rattle.reach.proofs.Testing.{some_map, decides_at, decides_and, decides_none}
use Rattle.reach.proofs.WordSets.{set_bits, set_mask, set_empty, decides_nonempty}
use Rattle.reach.proofs.Reaching.{under_upper}
use Rattle.reach.proofs.Chains.{in_use_below}
use Rattle.reach.proofs.AsRead.{rule_is}
use Rattle.reach.proofs.Upward.{under_of, under_by}
use Rattle.reach.proofs.Meeting.{target_of_sort, sort_of_target}
use Rattle.gains.specs.declared.Permission.{Permission}
use Rattle.std.specs.Prelude.{Option, Some as Found, None, is_some}
use Rattle.gains.specs.Lacking.{Above, UnderPut, LacksPermit, LacksRuled}
use Rattle.gains.specs.Searching.{Joined, FirstFresh, Fresh}

-- ---- Words

-- A test that is equal to one that decides.
pub decides_equal : {s t : Bool} {P : Type 0} → Decides t P → s ≡ t → Decides s P
decides_equal d e = decides_at e d

-- The test of a word and a number is that of the ones asked for, where they are these.
pub has_of : (s x : ℕ) {t : Bool} {r y : ℕ} → t ≡ has r y → r ≡ s → y ≡ x → t ≡ has s x
has_of s x {y = y} e f g = e ∙ ap (λ (n : ℕ). has n y) f ∙ ap (has s) g

pub decides_empty : {P : ℕ → Type 0} {s : ℕ} → SetOf s P → Decides (eqb s 0) (Some 64 P → ⊥)
decides_empty {P} {s} h =
    record {
      sound = λ e w. set_empty h (eqb-true s 0 e) w.place w.at;
      complete = λ n. go (eqb s 0) refl (decides_nonempty h) n;
    }
  where
    go : (t : Bool) → eqb s 0 ≡ t → Decides (not (eqb s 0)) (Some 64 P) → (Some 64 P → ⊥) → eqb s 0 ≡ true
    go true e d n = e
    go false e d n = absurd (n (d.sound (ap not e)))

pub fresh_decides : (had got before after : ℕ) → after < 2 ^ 64 → before < 2 ^ 64
    → Decides (not (eqb (bit_and got after) 0) && eqb (bit_and had before) 0) (Meet got after × (Meet had before → ⊥))
fresh_decides had got before after a b =
    decides_and _ _ (decides_nonempty (set_mask got (set_bits after a))) (decides_empty (set_mask had (set_bits before b)))

-- What is found decides what is fresh somewhere.
pub found_decides : {P : ℕ → ℕ → Type 0} {Q : Type 0} (r : Option Permission) → FirstFresh P r → ((y k : ℕ) → k < 8 → P y k → Q)
    → (Q → (y : ℕ) × (k : ℕ) × (k < 8) × P y k) → Decides (is_some r) Q
found_decides (Found w) f g h = record { sound = λ e. g w.target w.operation f.0 f.1; complete = λ q. refl }
found_decides None f g h = decides_none (λ q. let w = h q in f w.0 w.1 w.2 w.3)

-- ---- The tables of what is granted

-- t is the T of a rule in use that has the operation, and whose U is among the users.
abbrev pub GrantedAt : List AccessRule → ℕ → ℕ → ℕ → Type 0
GrantedAt rules users k t = Some 64 (λ i. (t < 64) × HasT (get_or rules i no_rule) k users t)

-- What is granted to these users is what is granted to those asked for, where they are the same.
pub granted_users : (rules : List AccessRule) {users over : ℕ} {had : List ℕ} → TableOf 8 had (GrantedAt rules users) → users ≡ over
    → TableOf 8 had (GrantedAt rules over)
granted_users rules {had = had} h e = subst (λ (s : ℕ). TableOf 8 had (GrantedAt rules s)) e h

module _ (p : Policy) {u over : ℕ} (user : User (view p) u) (o : Above p u over) {had : List ℕ}
    (h : TableOf 8 had (GrantedAt p.rules over)) where
  top : {y t : ℕ} → Under (view p) y t → t < 64
  top l = in_use_below p _ (under_upper l)

  -- He is permitted exactly what is granted over something that the target is under.
  pub permitted_had : {k y : ℕ} → Permitted (view p) u k y → Some 64 (λ t. (bit (get_or had k 0) t ≡ 1) × Under (view p) y t)
  permitted_had {k} {y} w =
      let i = w.by.place in
      let b = w.by.at in
      let e = rule_is p i in
      record {
        place = (get_or p.rules i no_rule).targets;
        low = top target;
        at = (
          (h.row k w.number).all _
              (record {
                place = i;
                low = w.by.low;
                at = (
                  top target,
                  record {
                    used = ap (λ (r : AccessRule). r.used) (sym e) ∙ b.used;
                    operation = ap (λ (r : AccessRule). bit r.operations k) (sym e) ∙ b.operation;
                    in_u = o.all _ (subst (λ (r : AccessRule). Under (view p) u r.users) e b.covers_user);
                    is_t = refl;
                  },
                );
              }),
          target,
        );
      }
    where
      target : Under (view p) y (get_or p.rules w.by.place no_rule).targets
      target = subst (λ (r : AccessRule). Under (view p) y r.targets) (rule_is p w.by.place) w.by.at.covers_target

  pub had_permitted : {k y : ℕ} → k < 8 → Target (view p) y → Some 64 (λ t. (bit (get_or had k 0) t ≡ 1) × Under (view p) y t)
      → Permitted (view p) u k y
  had_permitted {k} {y} l target w =
      let g = (h.row k l).only _ w.at.0 in
      let e = sym (rule_is p g.place) in
      let v = g.at.1 in
      record {
        user = user;
        target = target;
        number = l;
        by =
            record {
              place = g.place;
              low = g.low;
              at =
                  record {
                    used = ap (λ (r : AccessRule). r.used) (sym e) ∙ v.used;
                    operation = ap (λ (r : AccessRule). bit r.operations k) (sym e) ∙ v.operation;
                    covers_user = subst (λ (r : AccessRule). Under (view p) u r.users) e (o.only _ v.in_u);
                    covers_target =
                        subst (λ (r : AccessRule). Under (view p) y r.targets) e (subst (Under (view p) y) (sym v.is_t) w.at.1);
                  };
            };
      }

  -- PUT: the users are those that he is under once x is in g.
  module _ {x g group more : ℕ} (a : Above p g group) (w : SetOf more (λ t. UnderPut (view p) x g u t)) {got : List ℕ}
      (t : TableOf 8 got (GrantedAt p.rules more)) where
    abbrev NewAt : ℕ → ℕ → Type 0
    NewAt y k = Fresh p.sorts p.memberships had got x group y k

    put_covers : {y t : ℕ} → UnderBy p.sorts p.memberships y t ⊎ (UnderBy p.sorts p.memberships y x × (bit group t ≡ 1))
        → UnderPut (view p) x g y t
    put_covers (inl l) = inl (under_of p l)
    put_covers (inr l) = inr (under_of p l.0, a.only _ l.1)

    covers_put : {y t : ℕ} → UnderPut (view p) x g y t
        → UnderBy p.sorts p.memberships y t ⊎ (UnderBy p.sorts p.memberships y x × (bit group t ≡ 1))
    covers_put (inl l) = inl (under_by p l)
    covers_put (inr l) = inr (under_by p l.0, a.all _ l.1)

    pub fresh_lacks : (y k : ℕ) → k < 8 → NewAt y k → LacksPermit (view p) u x g
    fresh_lacks y k l f =
        let q = (t.row k l).only _ f.now.at.0 in
        let e = sym (rule_is p q.place) in
        let v = q.at.1 in
        record {
          place = q.place;
          low = q.low;
          used = ap (λ (r : AccessRule). r.used) (sym e) ∙ v.used;
          operation = k;
          number = l;
          has = ap (λ (r : AccessRule). bit r.operations k) (sym e) ∙ v.operation;
          gear = y;
          target = target_of_sort p y f.target;
          covers_user = subst (λ (r : AccessRule). UnderPut (view p) x g u r.users) e (w.only _ v.in_u);
          covers_gear =
              subst
              (λ (r : AccessRule). UnderPut (view p) x g y r.targets)
              e
              (subst (λ (n : ℕ). UnderPut (view p) x g y n) (sym v.is_t) (put_covers f.now.at.1));
          lacks = λ m. f.lacked (some_map (λ n c. (c.0, under_by p c.1)) (permitted_had m));
        }

    pub lacks_fresh : (l : LacksPermit (view p) u x g) → NewAt l.gear l.operation
    lacks_fresh l =
        let e = rule_is p l.place in
        let r = get_or p.rules l.place no_rule in
        let gear = subst (λ (s : AccessRule). UnderPut (view p) x g l.gear s.targets) e l.covers_gear in
        record {
          target = sort_of_target p _ l.target;
          now =
              record {
                place = r.targets;
                low = low gear;
                at = (
                  (t.row l.operation l.number).all _
                      (record {
                        place = l.place;
                        low = l.low;
                        at = (
                          low gear,
                          record {
                            used = ap (λ (s : AccessRule). s.used) (sym e) ∙ l.used;
                            operation = ap (λ (s : AccessRule). bit s.operations l.operation) (sym e) ∙ l.has;
                            in_u = w.all _ (subst (λ (s : AccessRule). UnderPut (view p) x g u s.users) e l.covers_user);
                            is_t = refl;
                          },
                        );
                      }),
                  covers_put gear,
                );
              };
          lacked = λ m. l.lacks (had_permitted l.number l.target (some_map (λ n c. (c.0, under_of p c.1)) m));
        }
      where
        low : {y n : ℕ} → UnderPut (view p) x g y n → n < 64
        low (inl c) = top c
        low (inr c) = top c.1

    -- What the search finds.
    pub put_found : (r : Option Permission) → FirstFresh (Fresh p.sorts p.memberships had got x group) r → Decides (is_some r) (LacksPermit (view p) u x g)
    put_found r f = found_decides r f fresh_lacks (λ l. (l.gear, l.operation, l.number, lacks_fresh l))

  -- GRANT: the same users, and the T of the new rule for each of its operations.
  module _ {r : AccessRule} (among : Under (view p) u r.users) {one : ℕ} (s : SetOf one (λ t. (t < 64) × (r.targets ≡ t)))
      {got : List ℕ} (j : Joined 8 had (λ k t. (bit r.operations k ≡ 1) × (bit one t ≡ 1)) got) where
    pub fresh_ruled : (y k : ℕ) → k < 8 → Fresh p.sorts p.memberships had got 0 0 y k → LacksRuled (view p) u r
    fresh_ruled y k l f =
        ⊎_elim
        (λ b. absurd (f.lacked (record { place = f.now.place; low = f.now.low; at = (b, under) })))
        (λ b.
        record {
          among = among;
          operation = k;
          gear = y;
          number = l;
          has = b.0;
          target = target_of_sort p y f.target;
          covers = subst (Under (view p) y) (sym (s.only _ b.1).1) (under_of p under);
          lacks = λ m. f.lacked (some_map (λ n c. (c.0, under_by p c.1)) (permitted_had m));
        })
        ((j.row k l).only _ f.now.at.0)
      where
        under : UnderBy p.sorts p.memberships y f.now.place
        under = ⊎_elim (λ c. c) (λ c. absurd (bit_none _ c.1)) f.now.at.1

    pub ruled_fresh : (l : LacksRuled (view p) u r) → Fresh p.sorts p.memberships had got 0 0 l.gear l.operation
    ruled_fresh l =
        record {
          target = sort_of_target p _ l.target;
          now =
              record {
                place = r.targets;
                low = top l.covers;
                at = (
                  (j.row l.operation l.number).all _ (inr (l.has, s.all _ (top l.covers, refl))),
                  inl (under_by p l.covers),
                );
              };
          lacked = λ m. l.lacks (had_permitted l.number l.target (some_map (λ n c. (c.0, under_of p c.1)) m));
        }

    pub grant_found : (q : Option Permission) → FirstFresh (Fresh p.sorts p.memberships had got 0 0) q → Decides (is_some q) (LacksRuled (view p) u r)
    grant_found q f = found_decides q f fresh_ruled (λ l. (l.gear, l.operation, l.number, ruled_fresh l))
