-- What the single tables tell, as privileges of the policy whose tables they are. A user holds x exactly if the As of his appointments meet
-- what x is under; a pair is his exactly if one appointment of his has its A above the one and its B above the other; and so with rules.
use mathlib.Core.Path.{◌≡◌, refl, sym, ◌∙◌, subst}
use mathlib.Core.Bool.{Bool, true, not, ◌&&◌}
use Prim.Native.Nat.{ℕ, zero, suc, ◌<◌}
use native.Mathlib.Omega.{arith}
use lib.Bits.{bit_and}
use lib.Dec.{eqb, ltb}
use lib.ListN.{get_or}
use Rattle.reach.specs.declared.Policy.{Policy}
use Rattle.reach.specs.declared.Posts.{Posts}
use Rattle.std.specs.Prelude.{Option}
use Rattle.reach.specs.Words.{bit, SetOf, Meet}
use Rattle.reach.specs.Tests.{lowest_or, lowest, Some, Decides}
use Rattle.reach.specs.Tables.{sort_in, sort, stored, no_appointment, no_rule, appointment, rule, view}
use Rattle.reach.specs.Reach.{InUse, Group, User, Target, Under, in_use, direct, under}
use Rattle.reach.specs.Privileges.{Holds, Administers, Permitted, permits_by, askable, administers, permitting}
use Rattle.reach.specs.Asking.{reach_of, UnderBy, AppointedOver, PostsIn, HeldOver, PostsOf, CoversPair, HasB, HasFirst, covered_by, HasT}
use Rattle.reach.proofs.Testing.{decides_as, decides_at, decides_eqb, decides_not, decides_same, some_map}
use Rattle.reach.proofs.WordSets.{set_as, set_none, set_mask, has_is, decides_nonempty}
use Rattle.reach.proofs.Reaching.{under_upper}
use Rattle.reach.proofs.Chains.{in_use_below, under_decides}
use Rattle.reach.proofs.Upward.{under_of, under_by}
use Rattle.reach.proofs.Deciding.{administers_decides}

module _ (p : Policy) where
  top_below : {x g : ℕ} → Under (view p) x g → g < 64
  top_below u = in_use_below p _ (under_upper u)

  -- Who is a user, and what an object is under, as the lent tables tell it.
  pub user_of_sort : (u : ℕ) → sort_in p.sorts u ≡ 2 → User (view p) u
  unfolding sort
  user_of_sort u e = e

  pub sort_of_user : (u : ℕ) → User (view p) u → sort_in p.sorts u ≡ 2
  unfolding sort
  sort_of_user u e = e

  pub target_of_sort : (x : ℕ) → sort_in p.sorts x ≡ 3 → Target (view p) x
  unfolding sort
  target_of_sort x e = e

  pub sort_of_target : (x : ℕ) → Target (view p) x → sort_in p.sorts x ≡ 3
  unfolding sort
  sort_of_target x e = e

  -- A sort that was read decides.
  pub read_user : (u : ℕ) {r : ℕ} → r ≡ sort_in p.sorts u → Decides (eqb r 2) (User (view p) u)
  unfolding sort
  read_user u e = decides_as (decides_eqb _ 2) (λ q. sym e ∙ q) (λ q. e ∙ q)

  pub read_group : (g : ℕ) {r : ℕ} → r ≡ sort_in p.sorts g → Decides (eqb r 1) (Group (view p) g)
  unfolding sort
  read_group g e = decides_as (decides_eqb _ 1) (λ q. sym e ∙ q) (λ q. e ∙ q)

  pub read_in_use : (x : ℕ) {r : ℕ} → r ≡ sort_in p.sorts x → Decides (not (eqb r 0)) (InUse (view p) x)
  unfolding sort
  read_in_use x {r} e =
      decides_as
      (decides_not _ (decides_eqb r 0))
      (λ n. let m : sort_in p.sorts x ≡ 0 → ⊥ = λ q. n (e ∙ q) in omega (arith, m))
      (λ i q. omega (arith, i, sym e ∙ q))

  pub climbed : {x r : ℕ} → SetOf r (λ g. UnderBy p.sorts p.memberships x g) → SetOf r (λ g. Under (view p) x g)
  climbed s = set_as s (λ g u. under_of p u) (λ g u. under_by p u)

  -- Who is no user is appointed over nothing.
  pub posts_of_none : {u : ℕ} → (User (view p) u → ⊥) → PostsOf (view p) u (record { owner = 0; manager = 0 })
  posts_of_none n = record { owner = set_none (λ a w. n w.user); manager = set_none (λ a w. n w.user) }

  -- A question to the lent tables is the policy's own.
  pub user_by : (u : ℕ) {t : Bool} → t ≡ eqb (sort_in p.sorts u) 2 → Decides t (User (view p) u)
  unfolding sort
  user_by u e = decides_at e (decides_eqb _ 2)

  pub direct_by : (x g : ℕ) → direct (reach_of p.sorts p.memberships) x g ≡ direct p x g
  unfolding direct in_use stored sort
  direct_by x g = refl

  -- The tests of who may be permitted anything are the rules' own.
  pub askable_by : (u k x : ℕ) {a b : Bool} → a ≡ eqb (sort_in p.sorts u) 2 → b ≡ eqb (sort_in p.sorts x) 3
      → (a && b && ltb k 8) ≡ askable p u k x
  unfolding askable sort
  askable_by u k x d e = rw (d, e)

  -- All that is under the one object g.
  pub one_below : {g one r : ℕ} → SetOf one (λ y. (y < 64) × (g ≡ y))
      → SetOf r (λ x. Some 64 (λ h. (bit one h ≡ 1) × Under (view p) x h)) → SetOf r (λ x. Under (view p) x g)
  one_below {g} o s =
      set_as
      s
      (λ x w. subst (Under (view p) x) (sym (o.only _ w.at.0).1) w.at.1)
      (λ x u. record { place = g; low = top_below u; at = (o.all g (top_below u, refl), u) })

  -- ---- Owning and managing

  -- What a user is appointed over by the table is his.
  pub over_held : {kind u s : ℕ} → User (view p) u → SetOf s (AppointedOver p.appointments kind u) → SetOf s (HeldOver (view p) kind u)
  unfolding appointment
  over_held user h =
      set_as h (λ a w. record { user = user; low = w.low; by = w.by }) (λ a w. record { low = w.low; by = w.by })

  pub posts_of_user : {u : ℕ} {r : Posts} → User (view p) u → PostsIn p.appointments u r → PostsOf (view p) u r
  posts_of_user user h = record { owner = over_held user h.owner; manager = over_held user h.manager }

  module _ {kind u held : ℕ} (h : SetOf held (HeldOver (view p) kind u)) where
    -- An appointment over what x is under covers x, and one that covers x is over what x is under.
    held_of : {x a : ℕ} → bit held a ≡ 1 → Under (view p) x a → Holds (view p) kind u x
    held_of {x} {a} b l =
        let w = h.only a b in
        record {
          user = w.user;
          by =
              some_map
              (λ i v. record { is_kind = v.is_kind; is_holder = v.is_holder; covers = subst (Under (view p) x) (sym v.is_a) l })
              w.by;
        }

    held_by : {x : ℕ} → Holds (view p) kind u x → Some 64 (λ a. (bit held a ≡ 1) × Under (view p) x a)
    held_by o =
        let c = o.by.at.covers in
        record {
          place = ((view p).appointment o.by.place).a;
          low = top_below c;
          at = (
            h.all _
                (record {
                  user = o.user;
                  low = top_below c;
                  by =
                      record {
                        place = o.by.place;
                        low = o.by.low;
                        at = record { is_kind = o.by.at.is_kind; is_holder = o.by.at.is_holder; is_a = refl };
                      };
                }),
            c,
          );
        }

    pub holds_meets : {x above : ℕ} → SetOf above (λ a. Under (view p) x a)
        → Decides (not (eqb (bit_and held above) 0)) (Holds (view p) kind u x)
    holds_meets s = decides_as (decides_nonempty (set_mask held s)) (λ w. held_of w.at.0 w.at.1) held_by

    pub meet_holds : {x above : ℕ} → SetOf above (λ a. Under (view p) x a) → Meet held above → Holds (view p) kind u x
    meet_holds s w = held_of w.at.0 (s.only _ w.at.1)

    pub holds_meet : {x above : ℕ} → SetOf above (λ a. Under (view p) x a) → Holds (view p) kind u x → Meet held above
    holds_meet s o = some_map (λ a v. (v.0, s.all a v.1)) (held_by o)

    pub held_below : {r : ℕ} → SetOf r (λ x. Some 64 (λ g. (bit held g ≡ 1) × Under (view p) x g)) → SetOf r (λ x. Holds (view p) kind u x)
    held_below s = set_as s (λ x w. held_of w.at.0 w.at.1) (λ x o. held_by o)

  -- ---- Administering

  module _ {u a s : ℕ} (user : User (view p) u) (over : SetOf s (λ g. Under (view p) a g)) where
    pub pair_covered : {b t : ℕ} (r : Bool) → SetOf t (λ g. Under (view p) b g)
        → Decides r (Some 32 (λ i. CoversPair (get_or p.appointments i no_appointment) u s t)) → r ≡ administers p u a b
    unfolding appointment
    pair_covered {b} r other d =
        decides_same r _
        (decides_as
        d
        (λ w.
        record {
          user = user;
          by =
              some_map
              (λ i v.
              record {
                is_kind = v.is_kind;
                is_holder = v.is_holder;
                covers_a = over.only _ v.in_a;
                covers_b = other.only _ v.in_b;
              })
              w;
        })
        (λ h.
        some_map
        (λ i v.
        record {
          is_kind = v.is_kind;
          is_holder = v.is_holder;
          in_a = over.all _ v.covers_a;
          in_b = other.all _ v.covers_b;
        })
        h.by))
        (administers_decides p u a b)

    -- b is under the B of an appointment of his whose A is above a exactly if he administers the pair; so with the sides exchanged.
    module _ {bs : ℕ} (h : SetOf bs (λ b. Some 32 (λ i. (b < 64) × HasB (get_or p.appointments i no_appointment) u s b))) where
      pub second_administers : {b : ℕ} → Some 64 (λ g. (bit bs g ≡ 1) × Under (view p) b g) → Administers (view p) u a b
      unfolding appointment
      second_administers {b} w =
          let v = h.only w.place w.at.0 in
          record {
            user = user;
            by =
                record {
                  place = v.place;
                  low = v.low;
                  at =
                      record {
                        is_kind = v.at.1.is_kind;
                        is_holder = v.at.1.is_holder;
                        covers_a = over.only _ v.at.1.in_a;
                        covers_b = subst (Under (view p) b) (sym v.at.1.is_b) w.at.1;
                      };
                };
          }

      pub administers_second : {b : ℕ} → Administers (view p) u a b → Some 64 (λ g. (bit bs g ≡ 1) × Under (view p) b g)
      unfolding appointment
      administers_second o =
          let v = o.by.at in
          let i = o.by.place in
          record {
            place = (get_or p.appointments i no_appointment).b;
            low = top_below v.covers_b;
            at = (
              h.all _
                  (record {
                    place = i;
                    low = o.by.low;
                    at = (
                      top_below v.covers_b,
                      record { is_kind = v.is_kind; is_holder = v.is_holder; in_a = over.all _ v.covers_a; is_b = refl },
                    );
                  }),
              v.covers_b,
            );
          }

      pub partners_below : {r : ℕ} → SetOf r (λ x. Some 64 (λ g. (bit bs g ≡ 1) × Under (view p) x g))
          → SetOf r (λ b. Administers (view p) u a b)
      partners_below k = set_as k (λ b w. second_administers w) (λ b o. administers_second o)

    module _ {firsts : ℕ} (h : SetOf firsts (λ b. Some 32 (λ i. (b < 64) × HasFirst (get_or p.appointments i no_appointment) u s b))) where
      pub first_administers : {b : ℕ} → Some 64 (λ g. (bit firsts g ≡ 1) × Under (view p) b g) → Administers (view p) u b a
      unfolding appointment
      first_administers {b} w =
          let v = h.only w.place w.at.0 in
          record {
            user = user;
            by =
                record {
                  place = v.place;
                  low = v.low;
                  at =
                      record {
                        is_kind = v.at.1.is_kind;
                        is_holder = v.at.1.is_holder;
                        covers_a = subst (Under (view p) b) (sym v.at.1.is_a) w.at.1;
                        covers_b = over.only _ v.at.1.in_b;
                      };
                };
          }

      pub administers_first : {b : ℕ} → Administers (view p) u b a → Some 64 (λ g. (bit firsts g ≡ 1) × Under (view p) b g)
      unfolding appointment
      administers_first o =
          let v = o.by.at in
          let i = o.by.place in
          record {
            place = (get_or p.appointments i no_appointment).a;
            low = top_below v.covers_a;
            at = (
              h.all _
                  (record {
                    place = i;
                    low = o.by.low;
                    at = (
                      top_below v.covers_a,
                      record { is_kind = v.is_kind; is_holder = v.is_holder; in_b = over.all _ v.covers_b; is_a = refl },
                    );
                  }),
              v.covers_a,
            );
          }

  -- ---- Permissions

  lowest_same : (n : ℕ) (o : Option ℕ) (f g : ℕ → Bool) → ((i : ℕ) → f i ≡ g i) → lowest_or o n f ≡ lowest_or o n g
  unfolding lowest_or
  lowest_same zero o f g e = refl
  lowest_same (suc n) o f g e = rw (e n) (lowest_same n _ f g e)

  module _ {u s : ℕ} (over : SetOf s (λ g. Under (view p) u g)) (k : ℕ) where
    pub covering_is : {x t : ℕ} → SetOf t (λ g. Under (view p) x g) → askable p u k x ≡ true
        → lowest 64 (λ i. covered_by (get_or p.rules i no_rule) k s t) ≡ permitting p u k x
    unfolding covered_by permits_by permitting rule
    covering_is {x} {t} other a =
        rw
        a
        (lowest_same 64 _ _ _
        (λ i.
        let r = get_or p.rules i no_rule in
        rw (
          has_is over r.users (under p u r.users) (under_decides p u r.users),
          has_is other r.targets (under p x r.targets) (under_decides p x r.targets),
        )))

    pub granted_below : {ts r m : ℕ} → SetOf ts (λ t. Some 64 (λ i. (t < 64) × HasT (get_or p.rules i no_rule) k s t))
        → SetOf r (λ x. Some 64 (λ g. (bit ts g ≡ 1) × Under (view p) x g)) → SetOf m (Target (view p)) → User (view p) u → k < 8
        → SetOf (bit_and r m) (λ x. Permitted (view p) u k x)
    unfolding rule
    granted_below {ts} {r} h d targets user low =
        set_as
        (set_mask r targets)
        (λ x w.
        let v = d.only x w.0 in
        let y = h.only v.place v.at.0 in
        record {
          user = user;
          target = w.1;
          number = low;
          by =
              record {
                place = y.place;
                low = y.low;
                at =
                    record {
                      used = y.at.1.used;
                      operation = y.at.1.operation;
                      covers_user = over.only _ y.at.1.in_u;
                      covers_target = subst (Under (view p) x) (sym y.at.1.is_t) v.at.1;
                    };
              };
        })
        (λ x o.
        let v = o.by.at in
        let i = o.by.place in (
          d.all x
              (record {
                place = (get_or p.rules i no_rule).targets;
                low = top_below v.covers_target;
                at = (
                  h.all _
                      (record {
                        place = i;
                        low = o.by.low;
                        at = (
                          top_below v.covers_target,
                          record { used = v.used; operation = v.operation; in_u = over.all _ v.covers_user; is_t = refl },
                        );
                      }),
                  v.covers_target,
                );
              }),
          o.target,
        ))
