-- The climb from x by levels. What is found is above x, x is among it, and the rows of what is found are in `over`. A group that was met is
-- found, or left; and where nothing is left, all of `over` was met. So then all that x is under is found, by induction on its chain.
use mathlib.Core.Path.{◌≡◌, refl, sym, ap, subst, ◌∙◌}
use mathlib.Core.Bool.{Bool, true}
use mathlib.Core.List.{List}
use mathlib.Core.Logic.{◌⊎◌, inl, inr, ⊎_elim}
use Prim.Native.Nat.{ℕ, ◌+◌, ◌-◌, ◌*◌, ◌%◌, ◌^◌, ◌≤◌, ◌<◌}
use native.Mathlib.Decide.{ℕ_discrete}
use native.Mathlib.Omega.{arith}
use lib.Bits.{bit_and, bit_or, or_lt, or_add_and, and_le_r}
use lib.Dec.{ltb}
use lib.ListN.{get_or}
use borrow.Author.Tests.{eqb-true, eq-eqb}
use Rattle.reach.specs.declared.Policy.{Policy}
use Rattle.reach.specs.Words.{bit, SetOf}
use Rattle.reach.specs.Tables.{sort_in, sort, stored, View, view}
use Rattle.reach.specs.Reach.{InUse, Group, Direct, Under, itself, up}
use Rattle.reach.specs.Tests.{Decides}
use Rattle.reach.specs.Asking.{reach_of, UnderBy}
use Rattle.reach.proofs.Bits.{bit_two, bit_clash, bit_none, or_bit, bit_of_or}
use Rattle.reach.proofs.Testing.{decides_at, decides_ltb}
use Rattle.reach.proofs.WordSets.{set_bits, set_at, set_or, set_mask, set_not, set_one, set_below, has_decides}
use Rattle.reach.proofs.Reaching.{group_in_use, under_trans, under_upper}
use Rattle.reach.proofs.Frames.{under_same}
use Rattle.reach.proofs.Chains.{in_use_below}
use Rattle.reach.proofs.Sorts.{decides_sort}
use Rattle.reach.proofs.Gathering.{left_low, left_rest, left_least, left_without, Undone, undone_again, less_all}

-- ---- Reach is read of the sorts and memberships alone

pub under_by : (p : Policy) {x g : ℕ} → Under (view p) x g → UnderBy p.sorts p.memberships x g
unfolding sort stored
under_by p l = under_same (view p) (view (reach_of p.sorts p.memberships)) (λ x. refl) (λ x g. refl) l

pub under_of : (p : Policy) {x g : ℕ} → UnderBy p.sorts p.memberships x g → Under (view p) x g
unfolding sort stored
under_of p l = under_same (view (reach_of p.sorts p.memberships)) (view p) (λ x. refl) (λ x g. refl) l

-- One step more at the top.
pub under_up : {v : View} {x y h : ℕ} → Under v x y → Direct v y h → Under v x h
under_up {v} {h = h} u d = under_trans u (up d (itself (group_in_use v h d.group)))

-- A membership that counts is a bit of the object's row, between what is in use and a group.
pub direct_of_row : (p : Policy) (y h : ℕ) → InUse (view p) y → Group (view p) h → bit (get_or p.memberships y 0) h ≡ 1 → Direct (view p) y h
unfolding stored
direct_of_row p y h i g b = record { object = i; group = g; is_stored = (has_decides (get_or p.memberships y 0) h).complete b }

pub row_of_direct : (p : Policy) (y h : ℕ) → Direct (view p) y h → bit (get_or p.memberships y 0) h ≡ 1
unfolding stored
row_of_direct p y h d = (has_decides (get_or p.memberships y 0) h).sound d.is_stored

-- ---- The climb

module _ (s m : List ℕ) where
  -- The object is in use, or not, by its sort.
  pub used_by : (x : ℕ) {t : Bool} → t ≡ ltb 0 (sort_in s x) → Decides t (InUse (view (reach_of s m)) x)
  unfolding sort
  used_by x e = decides_at e (decides_ltb 0 (sort_in s x))

  pub group_of_byte : (g : ℕ) → g < 64 → get_or s g 0 ≡ 1 → Group (view (reach_of s m)) g
  group_of_byte g l e = (decides_sort (reach_of s m) g 1 l (omega arith) (omega arith)).sound (eq-eqb _ _ e)

  pub byte_of_group : (g : ℕ) → Group (view (reach_of s m)) g → get_or s g 0 ≡ 1
  byte_of_group g e =
      eqb-true _ _
      ((decides_sort (reach_of s m) g 1 (in_use_below (reach_of s m) g (group_in_use (view (reach_of s m)) g e)) (omega arith) (omega arith)
      ).complete
      e)

pub record Climbing (s m : List ℕ) (x found over met left : ℕ) : Type 0 where
  pub found_word : found < 2 ^ 64
  pub met_word : met < 2 ^ 64
  pub left_word : left < 2 ^ 64
  pub only : (g : ℕ) → bit found g ≡ 1 → UnderBy s m x g
  pub above : (g : ℕ) → bit over g ≡ 1 → Group (view (reach_of s m)) g → UnderBy s m x g
  pub within : (g : ℕ) → bit left g ≡ 1 → bit over g ≡ 1
  pub start : bit found x ≡ 1
  pub rows : (y h : ℕ) → bit found y ≡ 1 → Direct (view (reach_of s m)) y h → bit over h ≡ 1
  pub groups_met : (g : ℕ) → bit met g ≡ 1 → Group (view (reach_of s m)) g → (bit found g ≡ 1) ⊎ (bit left g ≡ 1)
  pub all_met : left ≡ 0 → (g : ℕ) → bit over g ≡ 1 → Group (view (reach_of s m)) g → bit met g ≡ 1

weigh : {a b k n : ℕ} → a ≤ b → k < n → a * 2 ^ 64 + k < b * 2 ^ 64 + n
weigh l r = omega (arith, l, r)

module _ {s m : List ℕ} (x : ℕ) where
  start_one : InUse (view (reach_of s m)) x → x < 64
      → let one = (1 * 2 ^ x) % 2 ^ 64 in
      let left = bit_and (get_or m x 0) (2 ^ 64 - 1 - one) in
      Climbing s m x one (get_or m x 0) (bit_or one left) left
  start_one i l =
      let one = set_one x l in
      let left = set_mask (get_or m x 0) (set_not one) in
      let met = set_or one (set_bits (bit_and (get_or m x 0) (2 ^ 64 - 1 - (1 * 2 ^ x) % 2 ^ 64)) left.word) in
      record {
        found_word = one.word;
        met_word = met.word;
        left_word = left.word;
        only = λ g b. subst (λ (y : ℕ). UnderBy s m x y) (sym (one.only g b)) (itself i);
        above = λ g b j. up (direct_of_row (reach_of s m) x g i j b) (itself (group_in_use (view (reach_of s m)) g j));
        within = λ g b. (left.only g b).0;
        start = one.all x refl;
        rows = λ y h b d. subst (λ (z : ℕ). bit (get_or m z 0) h ≡ 1) (one.only y b) (row_of_direct (reach_of s m) y h d);
        groups_met = λ g b j. ⊎_elim (λ e. inl (one.all g e)) (λ e. inr e) (met.only g b);
        all_met = λ z g b j.
            ⊎_elim
            (λ y.
            met.all g (inr (left.all g (b, (in_use_below (reach_of s m) g (group_in_use (view (reach_of s m)) g j), λ q. bit_clash _ g y (one.all g q))))))
            (λ y. met.all g (inl (one.only g y)))
            (bit_two ((1 * 2 ^ x) % 2 ^ 64) g);
      }

  -- The climb starts with x found, what its row has over it, and all but x itself of that left.
  pub climb_start : {found : ℕ} → InUse (view (reach_of s m)) x → x < 64 → found ≡ (1 * 2 ^ x) % 2 ^ 64
      → let left = bit_and (get_or m x 0) (2 ^ 64 - 1 - found) in Climbing s m x found (get_or m x 0) (bit_or found left) left
  climb_start i l e =
      subst
      (λ (f : ℕ).
      let left = bit_and (get_or m x 0) (2 ^ 64 - 1 - f) in Climbing s m x f (get_or m x 0) (bit_or f left) left)
      (sym e)
      (start_one i l)

  -- A turn: h is found if it is a group, and then what its row has is over x; and where nothing else is left of the level, what is over
  -- x and was not met is left.
  pub climb_step : {found over met left o q row more next : ℕ} (passed : Bool) → Climbing s m x found over met left
      → (h : ℕ) → bit left h ≡ 1
      → Decides passed (get_or s h 0 ≡ 1)
      → SetOf o (λ y. (passed ≡ true) × (bit ((1 * 2 ^ h) % 2 ^ 64) y ≡ 1))
      → SetOf q (λ g. (passed ≡ true) × (bit row g ≡ 1)) → row ≡ get_or m h 0
      → let rest = left - (1 * 2 ^ h) % 2 ^ 64 in (rest ≡ 0 → next ≡ more) × ((rest ≡ 0 → ⊥) → next ≡ rest)
      → more ≡ bit_and (bit_or over q) (2 ^ 64 - 1 - met)
      → Climbing s m x (bit_or found o) (bit_or over q) (bit_or met next) next
  climb_step {found} {over} {met} {left} {o} {q} {row} {more} {next} passed c h e d k r w n is-more =
      record {
        found_word = f.word;
        met_word = or_lt 64 met next c.met_word next_word;
        left_word = next_word;
        only = λ g b. ⊎_elim (λ a. c.only g a) (λ a. subst (λ (y : ℕ). UnderBy s m x y) (sym (one.only g a.1)) (new a.0)) (f.only g b);
        above = λ g b j.
            ⊎_elim
            (λ a. c.above g a j)
            (λ a.
            let u = new a.0 in
            under_up u (direct_of_row (reach_of s m) h g (under_upper u) j (ap (λ (z : ℕ). bit z g) (sym w) ∙ a.1)))
            (was_over g b);
        within = λ g b. ⊎_elim (λ a. is_over g (inl (c.within g (rest_set.only g a).0))) (λ a. (fresh.only g a).0) (was_left g b);
        start = f.all x (inl c.start);
        rows = λ y g b j.
            ⊎_elim
            (λ a. is_over g (inl (c.rows y g a j)))
            (λ a.
            is_over g (inr (
              a.0,
              ap (λ (z : ℕ). bit z g) w ∙ subst (λ (z : ℕ). bit (get_or m z 0) g ≡ 1) (one.only y a.1) (row_of_direct (reach_of s m) y g j),
            )))
            (f.only y b);
        groups_met = λ g b j.
            ⊎_elim
            (λ a. ⊎_elim (λ y. inl (f.all g (inl y))) (λ y. still g y j) (c.groups_met g a j))
            (λ a. inr a)
            (or_bit met next g b);
        all_met = λ z g b j.
            bit_of_or met next g
            (⊎_elim
            (λ y. inr (at_end z g (fresh.all g (b, (in_use_below (reach_of s m) g (group_in_use (view (reach_of s m)) g j), bit_clash met g y)))))
            (λ y. inl y)
            (bit_two met g));
      }
    where
      rest : ℕ
      rest = left - (1 * 2 ^ h) % 2 ^ 64

      low : h < 64
      low = left_low c.left_word h e

      one : SetOf ((1 * 2 ^ h) % 2 ^ 64) (λ y. y ≡ h)
      one = set_one h low

      f : SetOf (bit_or found o) (λ y. (bit found y ≡ 1) ⊎ ((passed ≡ true) × (bit ((1 * 2 ^ h) % 2 ^ 64) y ≡ 1)))
      f = set_or (set_bits found c.found_word) k

      was_over : (g : ℕ) → bit (bit_or over q) g ≡ 1 → (bit over g ≡ 1) ⊎ ((passed ≡ true) × (bit row g ≡ 1))
      was_over g b = ⊎_elim (λ a. inl a) (λ a. inr (r.only g a)) (or_bit over q g b)

      is_over : (g : ℕ) → (bit over g ≡ 1) ⊎ ((passed ≡ true) × (bit row g ≡ 1)) → bit (bit_or over q) g ≡ 1
      is_over g b = bit_of_or over q g (⊎_elim (λ a. inl a) (λ a. inr (r.all g a)) b)

      fresh : SetOf more (λ g. (bit (bit_or over q) g ≡ 1) × ((g < 64) × (bit met g ≡ 1 → ⊥)))
      fresh = set_at is-more (set_mask (bit_or over q) (set_not (set_bits met c.met_word)))

      rest_set : SetOf rest (λ y. (bit left y ≡ 1) × ((y < 64) × (y ≡ h → ⊥)))
      rest_set = set_at (left_without c.left_word h e) (left_rest c.left_word h e)

      -- What is left is the rest of the level, or where that is nothing, the next one.
      either : (next ≡ rest) ⊎ ((rest ≡ 0) × (next ≡ more))
      either =
          elim (ℕ_discrete rest 0) [
            | yes z ↦ inr (z, n.0 z)
            | no z ↦ inl (n.1 z)
          ]

      next_word : next < 2 ^ 64
      next_word = ⊎_elim (λ z. omega (arith, z, rest_set.word)) (λ z. omega (arith, z.1, fresh.word)) either

      was_left : (g : ℕ) → bit next g ≡ 1 → (bit rest g ≡ 1) ⊎ (bit more g ≡ 1)
      was_left g b =
          ⊎_elim (λ z. inl (ap (λ (y : ℕ). bit y g) (sym z) ∙ b)) (λ z. inr (ap (λ (y : ℕ). bit y g) (sym z.1) ∙ b)) either

      kept : (g : ℕ) → bit rest g ≡ 1 → bit next g ≡ 1
      kept g b = ap (λ (y : ℕ). bit y g) (n.1 (λ z. bit_none g (ap (λ (y : ℕ). bit y g) (sym z) ∙ b))) ∙ b

      at_end : next ≡ 0 → (g : ℕ) → bit more g ≡ 1 → bit next g ≡ 1
      at_end z g b = ⊎_elim (λ y. ap (λ (i : ℕ). bit i g) (n.0 (sym y ∙ z)) ∙ b) (λ y. ap (λ (i : ℕ). bit i g) y.1 ∙ b) either

      -- Where h passed it is a group, and above x.
      new : passed ≡ true → UnderBy s m x h
      new y = c.above h (c.within h e) (group_of_byte s m h low (d.sound y))

      -- A group that was left is found now, or is left.
      still : (g : ℕ) → bit left g ≡ 1 → Group (view (reach_of s m)) g → (bit (bit_or found o) g ≡ 1) ⊎ (bit next g ≡ 1)
      still g y j =
          elim (ℕ_discrete g h) [
            | yes z ↦ inl (f.all g (inr (d.complete (subst (λ (i : ℕ). get_or s i 0 ≡ 1) z (byte_of_group s m g j)), one.all g z)))
            | no z ↦ inr (kept g (rest_set.all g (y, (set_below (set_bits left c.left_word) g y, z))))
          ]

  -- With each turn less is to do: more was met, or as much, and less is left.
  pub climb_less : {found over met left more next : ℕ} (all : ℕ) → Climbing s m x found over met left → (h : ℕ) → bit left h ≡ 1
      → let rest = left - (1 * 2 ^ h) % 2 ^ 64 in (rest ≡ 0 → next ≡ more) × ((rest ≡ 0 → ⊥) → next ≡ rest)
      → more ≡ bit_and all (2 ^ 64 - 1 - met)
      → (2 ^ 64 - bit_or met next) * 2 ^ 64 + next < (2 ^ 64 - met) * 2 ^ 64 + left
  climb_less {met = met} {left} {more} {next} all c h e n is-more =
      elim (ℕ_discrete rest 0) [
        | no z ↦ same (omega (arith, n.1 z, less))
        | yes z ↦
            elim (ℕ_discrete next 0) [
              | yes y ↦ same (omega (arith, y, less))
              | no y ↦ omega (arith, less_all met next (undone z) y, (undone z).todo_word, c.met_word)
            ]
      ]
    where
      rest : ℕ
      rest = left - (1 * 2 ^ h) % 2 ^ 64

      less : rest < left
      less = omega (arith, (left_least c.left_word h e).0, (left_least c.left_word h e).1)

      -- As much was met, or more, and less is left.
      same : next < left → (2 ^ 64 - bit_or met next) * 2 ^ 64 + next < (2 ^ 64 - met) * 2 ^ 64 + left
      same l = weigh (omega (arith, or_add_and met next, and_le_r met next)) l

      undone : rest ≡ 0 → Undone met next
      undone z = subst (λ (y : ℕ). Undone met y) (sym (n.0 z ∙ is-more)) (undone_again all met)

  -- Where nothing is left, all is found.
  pub climb_end : {found over met left : ℕ} → Climbing s m x found over met left → left ≡ 0 → SetOf found (λ g. UnderBy s m x g)
  climb_end {found} {over} {met} {left} c z =
      record { word = c.found_word; only = c.only; all = λ g u. holds u c.start }
    where
      next : (y h : ℕ) → bit found y ≡ 1 → Direct (view (reach_of s m)) y h → bit found h ≡ 1
      next y h b d =
          ⊎_elim
          (λ a. a)
          (λ a. absurd (bit_none h (ap (λ (n : ℕ). bit n h) (sym z) ∙ a)))
          (c.groups_met h (c.all_met z h (c.rows y h b d) d.group) d.group)

      holds : {y g : ℕ} → UnderBy s m y g → bit found y ≡ 1 → bit found g ≡ 1
      holds (itself i) b = b
      holds (up {x = y} {h = h} d l) b = holds l (next y h b d)
