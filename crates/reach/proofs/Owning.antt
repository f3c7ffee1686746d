-- Whether some object in use has no owner: it is read of the sorts, the memberships and the appointments alone. One pass over the objects
-- finds some of them owned and leaves the others; rounds over what is left find more. Once a round finds nothing, no row of an object that
-- is left has a group that is owned, so what is left is under nothing that is owned, by induction on the chain.
use mathlib.Core.Path.{◌≡◌, refl, sym, ap, subst, ◌∙◌}
use mathlib.Core.Bool.{not}
use mathlib.Core.List.{List}
use mathlib.Core.Logic.{◌⊎◌, inl, inr, ⊎_elim}
use Prim.Native.Nat.{ℕ, ◌+◌, ◌-◌, ◌*◌, ◌/◌, ◌%◌, ◌^◌, ◌≤◌, ◌<◌}
use native.Mathlib.Nat.{le_refl, not-suc-le-zero}
use native.Mathlib.Decide.{ℕ_discrete}
use native.Mathlib.Omega.{arith}
use lib.Bits.{bit_and, bit_or}
use lib.Dec.{lit<, eqb}
use lib.ListN.{get_or}
use Rattle.reach.specs.declared.Policy.{Policy}
use Rattle.reach.specs.declared.Appointment.{Appointment}
use Rattle.reach.specs.Words.{bit, SetOf, Meet}
use Rattle.reach.specs.Tests.{Some}
use Rattle.reach.specs.Tables.{sort_in, sort, stored, no_appointment, appointment, View, view}
use Rattle.reach.specs.Reach.{InUse, Group, Under, itself, up}
use Rattle.reach.specs.Privileges.{Holds, Owns, Orphan, orphaned}
use Rattle.reach.specs.Asking.{reach_of, tables_of, UnderBy, OwnersA, UnderSomeBy, Looking, Closed}
use Rattle.reach.proofs.Bits.{bit_le, bit_two, bit_clash, bit_none, low_bit}
use Rattle.reach.proofs.WordSets.{set_bits, set_or, set_mask, set_one, set_empty, set_lowest, decides_nonempty, below_next}
use Rattle.reach.proofs.Testing.{decides_as, decides_same, some_map}
use Rattle.reach.proofs.Reaching.{group_in_use, under_upper}
use Rattle.reach.proofs.Frames.{under_same}
use Rattle.reach.proofs.Chains.{in_use_below}
use Rattle.reach.proofs.Sorts.{counted_known, counted_unknown, sort_at}
use Rattle.reach.proofs.Deciding.{orphaned_decides}
use Rattle.reach.proofs.Gathering.{left_rest, left_less, left_taken}
use Rattle.reach.proofs.Upward.{under_by, under_of, direct_of_row, row_of_direct, group_of_byte, byte_of_group}

-- ---- No rule is read

module _ (v w : View) (s : (x : ℕ) → v.sort x ≡ w.sort x) (m : (x g : ℕ) → v.stored x g ≡ w.stored x g)
    (a : (i : ℕ) → v.appointment i ≡ w.appointment i) where
  holds_same : {kind u x : ℕ} → Holds v kind u x → Holds w kind u x
  holds_same {kind} {u} {x} h =
      record {
        user = sym (s u) ∙ h.user;
        by =
            some_map
            (λ i b.
            record {
              is_kind = ap (λ (n : Appointment). n.kind) (sym (a i)) ∙ b.is_kind;
              is_holder = ap (λ (n : Appointment). n.holder) (sym (a i)) ∙ b.is_holder;
              covers = subst (λ (n : Appointment). Under w x n.a) (a i) (under_same v w s m b.covers);
            })
            h.by;
      }

orphan_same : (v w : View) → ((x : ℕ) → v.sort x ≡ w.sort x) → ((x g : ℕ) → v.stored x g ≡ w.stored x g)
    → ((i : ℕ) → v.appointment i ≡ w.appointment i) → (x : ℕ) → Orphan v x → Orphan w x
orphan_same v w s m a x o =
    record {
      object = subst (λ (n : ℕ). 0 < n) (s x) o.object;
      nobody = λ u h. o.nobody u (holds_same w v (λ y. sym (s y)) (λ y g. sym (m y g)) (λ i. sym (a i)) h);
    }

pub orphaned_by_tables : (p : Policy) → orphaned p ≡ orphaned (tables_of p.sorts p.memberships p.appointments)
unfolding sort stored appointment
orphaned_by_tables p =
    let q = tables_of p.sorts p.memberships p.appointments in
    decides_same _ _
    (orphaned_decides p)
    (decides_as
    (orphaned_decides q)
    (some_map (orphan_same (view q) (view p) (λ x. refl) (λ x g. refl) (λ i. refl)))
    (some_map (orphan_same (view p) (view q) (λ x. refl) (λ x g. refl) (λ i. refl))))

-- ---- The pass, and what a round finds

-- The stored byte tells whether an object is in use, and whether it is a group.
module _ (s m : List ℕ) where
  pub in_use_byte : (x : ℕ) → x < 64 → (get_or s x 0 ≡ 0 → ⊥) → get_or s x 0 ≤ 3 → InUse (view (reach_of s m)) x
  in_use_byte x l n b = let e = sort_at (reach_of s m) x l ∙ counted_known _ b in omega (arith, e, n)

  pub unused_zero : (x : ℕ) → x < 64 → get_or s x 0 ≡ 0 → InUse (view (reach_of s m)) x → ⊥
  unused_zero x l z i = let e = sort_at (reach_of s m) x l ∙ counted_known _ (omega (arith, z)) in omega (arith, e, z, i)

  pub unused_unknown : (x : ℕ) → x < 64 → 3 < get_or s x 0 → InUse (view (reach_of s m)) x → ⊥
  unused_unknown x l b i = let e = sort_at (reach_of s m) x l ∙ counted_unknown _ b in omega (arith, e, i)

module _ {s m : List ℕ} {set : ℕ} where
  pub look_start : Looking s m set 0 0 0
  look_start =
      record {
        groups_word = lit< tt;
        left_word = lit< tt;
        owned = λ g b. absurd (bit_none g b);
        waiting = λ x b. absurd (bit_none x b);
        told = λ x l i. absurd (not-suc-le-zero l);
      }

  module _ {n groups left : ℕ} (k : Looking s m set n groups left) where
    -- By a group found owned that x is directly in, x is under what that group is under.
    pub look_through : (x : ℕ) → InUse (view (reach_of s m)) x → Meet (get_or m x 0) groups → UnderSomeBy s m set x
    look_through x i w =
        let o = k.owned w.place w.at.1 in
        some_map (λ g v. (v.0, up (direct_of_row (reach_of s m) x w.place i o.0 w.at.0) v.1)) o.1

    pub meets : (x : ℕ) → (bit_and (get_or m x 0) groups ≡ 0 → ⊥) → Meet (get_or m x 0) groups
    meets x n =
        let w = set_lowest (set_mask (get_or m x 0) (set_bits groups k.groups_word)) n in record { place = _; low = w.0; at = w.1 }

    -- An object that is directly in a group found owned, or in the set, and one that is not in the set.
    pub look_met : (x : ℕ) → x < 64 → InUse (view (reach_of s m)) x
        → (bit_and (get_or m x 0) groups ≡ 0 → ⊥) ⊎ (bit_and (set / 2 ^ x) 1 ≡ 0 → ⊥) → UnderSomeBy s m set x
    look_met x l i w =
        ⊎_elim
        (λ n. look_through x i (meets x n))
        (λ n. record { place = x; low = l; at = (omega (arith, low_bit set x, bit_le set x, n), itself i) })
        w

    pub look_not : (x : ℕ) → bit_and (set / 2 ^ x) 1 ≡ 0 → bit set x ≡ 1 → ⊥
    look_not x z b = omega (arith, low_bit set x, z, b)

-- With x found owned, the groups are these.
pub record Grown (s m : List ℕ) (set groups x more : ℕ) : Type 0 where
  pub word : more < 2 ^ 64
  pub kept : (y : ℕ) → bit groups y ≡ 1 → bit more y ≡ 1
  pub owned : (y : ℕ) → bit more y ≡ 1 → Group (view (reach_of s m)) y × UnderSomeBy s m set y
  pub new : UnderSomeBy s m set x × (Group (view (reach_of s m)) x → bit more x ≡ 1)

module _ {s m : List ℕ} {set n groups left : ℕ} (k : Looking s m set n groups left) where
  pub grown_group : (x : ℕ) → x < 64 → get_or s x 0 ≡ 1 → UnderSomeBy s m set x → Grown s m set groups x (bit_or groups ((1 * 2 ^ x) % 2 ^ 64))
  grown_group x l e u =
      let f = set_or (set_bits groups k.groups_word) (set_one x l) in
      record {
        word = f.word;
        kept = λ y b. f.all y (inl b);
        owned = λ y b.
            ⊎_elim
            (λ a. k.owned y a)
            (λ q.
            subst (λ (z : ℕ). Group (view (reach_of s m)) z × UnderSomeBy s m set z) (sym q) (group_of_byte s m x l e, u))
            (f.only y b);
        new = (u, λ g. f.all x (inr refl));
      }

  pub grown_other : (x : ℕ) → (get_or s x 0 ≡ 1 → ⊥) → UnderSomeBy s m set x → Grown s m set groups x groups
  grown_other x o u =
      record {
        word = k.groups_word;
        kept = λ y b. b;
        owned = k.owned;
        new = (u, λ g. absurd (o (byte_of_group s m x g)));
      }

-- The pass goes on: n is not in use, or left, or found owned.
module _ {s m : List ℕ} {set n groups left : ℕ} (k : Looking s m set n groups left) where
  pub look_empty : (InUse (view (reach_of s m)) n → ⊥) → Looking s m set (n + 1) groups left
  look_empty o =
      record {
        groups_word = k.groups_word;
        left_word = k.left_word;
        owned = k.owned;
        waiting = k.waiting;
        told = λ y l i.
            ⊎_elim (λ e. absurd (o (subst (InUse (view (reach_of s m))) e i))) (λ b. k.told y b i) (below_next y n l);
      }

  pub look_left : n < 64 → InUse (view (reach_of s m)) n → (bit set n ≡ 1 → ⊥) → Looking s m set (n + 1) groups (bit_or left ((1 * 2 ^ n) % 2 ^ 64))
  look_left low i o =
      let f = set_or (set_bits left k.left_word) (set_one n low) in
      record {
        groups_word = k.groups_word;
        left_word = f.word;
        owned = k.owned;
        waiting = λ y b.
            ⊎_elim
            (λ a. k.waiting y a)
            (λ e. (subst (InUse (view (reach_of s m))) (sym e) i, λ q. o (subst (λ (z : ℕ). bit set z ≡ 1) e q)))
            (f.only y b);
        told = λ y l j.
            ⊎_elim
            (λ e. inl (f.all y (inr e)))
            (λ b. ⊎_elim (λ a. inl (f.all y (inl a))) (λ w. inr w) (k.told y b j))
            (below_next y n l);
      }

  pub look_owned : {more : ℕ} → Grown s m set groups n more → Looking s m set (n + 1) more left
  look_owned {more} g =
      record {
        groups_word = g.word;
        left_word = k.left_word;
        owned = g.owned;
        waiting = k.waiting;
        told = λ y l j.
            ⊎_elim
            (λ e.
            inr
            (subst
            (λ (z : ℕ). UnderSomeBy s m set z × (Group (view (reach_of s m)) z → bit more z ≡ 1))
            (sym e)
            g.new))
            (λ b. ⊎_elim (λ a. inl a) (λ w. inr (w.0, λ h. g.kept y (w.1 h))) (k.told y b j))
            (below_next y n l);
      }

-- All have been looked at.
pub look_over : {s m : List ℕ} {set n groups left : ℕ} → Looking s m set n groups left → n ≡ 64 → Looking s m set 64 groups left
look_over {s} {m} {set} {groups = groups} {left} k e = subst (λ (z : ℕ). Looking s m set z groups left) e k

-- An object that was left is found owned.
pub look_freed : {s m : List ℕ} {set groups left more : ℕ} → Looking s m set 64 groups left → (h : ℕ) → bit left h ≡ 1
    → Grown s m set groups h more → Looking s m set 64 more (bit_and left (2 ^ 64 - 1 - (1 * 2 ^ h) % 2 ^ 64))
look_freed {s} {m} {set} {more = more} k h e g =
    let rest = left_rest k.left_word h e in
    record {
      groups_word = g.word;
      left_word = rest.word;
      owned = g.owned;
      waiting = λ y b. k.waiting y (rest.only y b).0;
      told = λ y l j.
          ⊎_elim
          (λ a.
          elim (ℕ_discrete y h) [
            | yes q ↦
                inr
                (subst
                (λ (z : ℕ). UnderSomeBy s m set z × (Group (view (reach_of s m)) z → bit more z ≡ 1))
                (sym q)
                g.new)
            | no d ↦ inl (rest.all y (a, (l, d)))
          ])
          (λ w. inr (w.0, λ v. g.kept y (w.1 v)))
          (k.told y l j);
    }

-- ---- A round

-- Of the objects left when the round began, those of `rest` have not been looked at. As long as none was found owned, no row of the others
-- has one of the groups.
pub record Rounding (m : List ℕ) (start groups left rest : ℕ) : Type 0 where
  pub groups_word : groups < 2 ^ 64
  pub left_word : left < 2 ^ 64
  pub rest_word : rest < 2 ^ 64
  pub within : (y : ℕ) → bit rest y ≡ 1 → bit left y ≡ 1
  pub less : left ≤ start
  pub same : left ≡ start → (y : ℕ) → bit left y ≡ 1 → (bit rest y ≡ 1 → ⊥) → Meet (get_or m y 0) groups → ⊥

pub round_start : {m : List ℕ} {groups left : ℕ} → groups < 2 ^ 64 → left < 2 ^ 64 → Rounding m left groups left left
round_start {left = left} g l =
    record {
      groups_word = g;
      left_word = l;
      rest_word = l;
      within = λ y b. b;
      less = le_refl left;
      same = λ e y b n. absurd (n b);
    }

module _ {m : List ℕ} {start groups left rest : ℕ} (r : Rounding m start groups left rest) (h : ℕ) (e : bit rest h ≡ 1) where
  pub round_none : bit_and (get_or m h 0) groups ≡ 0 → Rounding m start groups left (bit_and rest (2 ^ 64 - 1 - (1 * 2 ^ h) % 2 ^ 64))
  round_none z =
      let next = left_rest r.rest_word h e in
      record {
        groups_word = r.groups_word;
        left_word = r.left_word;
        rest_word = next.word;
        within = λ y b. r.within y (next.only y b).0;
        less = r.less;
        same = λ q y b n w.
            ⊎_elim
            (λ o. r.same q y b (bit_clash rest y o) w)
            (λ o.
            let at = left_taken r.rest_word h e y o n in
            set_empty
            (set_mask (get_or m h 0) (set_bits groups r.groups_word))
            z
            w.place
            (subst (λ (x : ℕ). bit (get_or m x 0) w.place ≡ 1) at w.at.0, w.at.1))
            (bit_two rest y);
      }

  pub round_freed : {more : ℕ} → more < 2 ^ 64
      → Rounding m start more (bit_and left (2 ^ 64 - 1 - (1 * 2 ^ h) % 2 ^ 64)) (bit_and rest (2 ^ 64 - 1 - (1 * 2 ^ h) % 2 ^ 64))
  round_freed g =
      let next = left_rest r.rest_word h e in
      let b = r.within h e in
      let fewer = left_rest r.left_word h b in
      let fall = left_less r.left_word h b in
      record {
        groups_word = g;
        left_word = fewer.word;
        rest_word = next.word;
        within = λ y o. let a = next.only y o in fewer.all y (r.within y a.0, a.1);
        less = omega (arith, fall, r.less);
        same = λ q. absurd (omega (arith, fall, r.less, q));
      }

pub round_end : {m : List ℕ} {start groups left rest : ℕ} → Rounding m start groups left rest → rest ≡ 0 → left ≡ start
    → Closed m groups left
round_end r z e y b w = r.same e y b (λ o. bit_none y (ap (λ (n : ℕ). bit n y) (sym z) ∙ o)) w

-- ---- What is left at the end

pub left_is : {s m : List ℕ} {set groups left : ℕ} → Looking s m set 64 groups left → Closed m groups left
    → SetOf left (λ x. InUse (view (reach_of s m)) x × (UnderSomeBy s m set x → ⊥))
left_is {s} {m} {set} {groups} {left} k closed =
    record {
      word = k.left_word;
      only = λ x b. ((k.waiting x b).0, λ u. never u.at.1 u.at.0 b);
      all = λ x w. ⊎_elim (λ a. a) (λ v. absurd (w.1 v.0)) (k.told x (in_use_below (reach_of s m) x w.0) w.0);
    }
  where
    never : {x g : ℕ} → UnderBy s m x g → bit set g ≡ 1 → bit left x ≡ 1 → ⊥
    never (itself {x = x} i) b l = (k.waiting x l).1 b
    never (up {x = x} {h = h} d u) b l =
        let i = group_in_use (view (reach_of s m)) h d.group in
        let low = in_use_below (reach_of s m) h i in
        ⊎_elim
        (λ a. never u b a)
        (λ w. closed x l (record { place = h; low = low; at = (row_of_direct (reach_of s m) x h d, w.1 d.group) }))
        (k.told h low i)

-- What is under an A of an owner who is a user is owned, and nothing else.
module _ (m : List ℕ) (l : List Appointment) {s : List ℕ} {set : ℕ}
    (h : SetOf set (λ a. Some 32 (λ i. (a < 64) × OwnersA s (get_or l i no_appointment) a))) where
  owner_of : {x : ℕ} → UnderSomeBy s m set x → Some 32 (λ i. Owns (view (tables_of s m l)) (get_or l i no_appointment).holder x)
  unfolding sort appointment
  owner_of {x} w =
      let o = h.only w.place w.at.0 in
      let v = o.at.1 in
      record {
        place = o.place;
        low = o.low;
        at =
            record {
              user = v.is_user;
              by =
                  record {
                    place = o.place;
                    low = o.low;
                    at =
                        record {
                          is_kind = v.is_kind;
                          is_holder = refl;
                          covers = subst (Under (view (tables_of s m l)) x) (sym v.is_a) (under_of (tables_of s m l) w.at.1);
                        };
                  };
            };
      }

  under_owned : {u x : ℕ} → Owns (view (tables_of s m l)) u x → UnderSomeBy s m set x
  unfolding sort appointment
  under_owned o =
      let b = o.by.at in
      let low = in_use_below (tables_of s m l) _ (under_upper b.covers) in
      record {
        place = (get_or l o.by.place no_appointment).a;
        low = low;
        at = (
          h.all _
              (record {
                place = o.by.place;
                low = o.by.low;
                at = (
                  low,
                  record {
                    is_kind = b.is_kind;
                    is_user = subst (λ (z : ℕ). sort_in s z ≡ 2) (sym b.is_holder) o.user;
                    is_a = refl;
                  },
                );
              }),
          under_by (tables_of s m l) b.covers,
        );
      }

  pub ownerless_is : {left : ℕ} → SetOf left (λ x. InUse (view (reach_of s m)) x × (UnderSomeBy s m set x → ⊥))
      → not (eqb left 0) ≡ orphaned (tables_of s m l)
  unfolding sort
  ownerless_is k =
      decides_same _ _
      (decides_as
      (decides_nonempty k)
      (some_map (λ x w. record { object = w.0; nobody = λ u o. w.1 (under_owned o) }))
      (some_map (λ x o. (o.object, λ w. let v = owner_of w in o.nobody _ v.at))))
      (orphaned_decides (tables_of s m l))
