-- The rounds over the rows. What is found is under something of the set, and what of the set is in use is found. What is directly in a
-- group that was found when the round began is found, or is left to be looked at; so once a round finds nothing, all is found, by
-- induction on the chain.
use mathlib.Core.Path.{◌≡◌, sym, ap, subst, ◌∙◌}
use mathlib.Core.Bool.{Bool, true}
use mathlib.Core.List.{List}
use mathlib.Core.Logic.{◌⊎◌, inl, inr, ⊎_elim}
use Prim.Native.Nat.{ℕ, ◌-◌, ◌*◌, ◌%◌, ◌^◌, ◌≤◌, ◌<◌}
use native.Mathlib.Omega.{arith}
use native.Mathlib.Nat.{le_refl}
use lib.Bits.{bit_and, bit_or, or_add_and, and_le_r}
use lib.Dec.{lit<}
use lib.ListN.{get_or}
use Rattle.reach.specs.declared.Policy.{Policy}
use Rattle.reach.specs.declared.Masks.{Masks}
use Rattle.reach.specs.Words.{bit, SetOf}
use Rattle.reach.specs.Tests.{Some, Decides}
use Rattle.reach.specs.Tables.{view}
use Rattle.reach.specs.Reach.{InUse, Group, Direct, Under, itself, up}
use Rattle.reach.specs.Surveys.{Lent}
use Rattle.reach.proofs.Bits.{bit_two, bit_clash, bit_none}
use Rattle.reach.proofs.Testing.{some_map}
use Rattle.reach.proofs.WordSets.{set_bits, set_or, set_mask, set_not, set_one, set_equal}
use Rattle.reach.proofs.Reaching.{group_in_use, under_upper}
use Rattle.reach.proofs.Chains.{in_use_below}
use Rattle.reach.proofs.Gathering.{left_low, left_rest, left_taken}
use Rattle.reach.proofs.Upward.{direct_of_row, row_of_direct}

-- ---- Whatever the policy

-- What is found grows, as a number too, and all that is left is among the objects.
pub record Sweeping (objects done found left : ℕ) : Type 0 where
  pub found_word : found < 2 ^ 64
  pub grown : done ≤ found
  pub left_word : left < 2 ^ 64
  pub within : (x : ℕ) → bit left x ≡ 1 → bit objects x ≡ 1

module _ {objects : ℕ} (word : objects < 2 ^ 64) where
  pub sweep_start : (set : ℕ) → Sweeping objects 0 (bit_and set objects) 0
  sweep_start set =
      record {
        found_word = (set_mask set (set_bits objects word)).word;
        grown = omega arith;
        left_word = lit< tt;
        within = λ x b. absurd (bit_none x b);
      }

  pub sweep_round : {done found left next : ℕ} → Sweeping objects done found left → next ≡ bit_and objects (2 ^ 64 - 1 - found)
      → Sweeping objects found found next
  sweep_round {found = found} s e =
      let rest = set_equal (set_mask objects (set_not (set_bits found s.found_word))) e in
      record { found_word = s.found_word; grown = le_refl found; left_word = rest.word; within = λ x b. (rest.only x b).0 }

pub sweep_step : {objects done found left o : ℕ} {P : ℕ → Type 0} → Sweeping objects done found left → (h : ℕ) → bit left h ≡ 1 → SetOf o P
    → Sweeping objects done (bit_or found o) (bit_and left (2 ^ 64 - 1 - (1 * 2 ^ h) % 2 ^ 64))
sweep_step {found = found} {o = o} s h e n =
    let rest = left_rest s.left_word h e in
    record {
      found_word = (set_or (set_bits found s.found_word) n).word;
      grown = omega (arith, s.grown, or_add_and found o, and_le_r found o);
      left_word = rest.word;
      within = λ x b. s.within x (rest.only x b).0;
    }

pub sweep_over : {objects done found left : ℕ} → Sweeping objects done found left → left ≡ 0 → Sweeping objects done found 0
sweep_over {objects} {done} {found} s e = subst (Sweeping objects done found) e s

-- ---- On a policy with these rows and masks

-- x is under something of the set.
abbrev pub UnderSome : Policy → ℕ → ℕ → Type 0
UnderSome p set x = Some 64 (λ g. (bit set g ≡ 1) × Under (view p) x g)

pub record Settling (p : Policy) (set done found left : ℕ) : Type 0 where
  pub only : (x : ℕ) → bit found x ≡ 1 → UnderSome p set x
  pub start : (g : ℕ) → bit set g ≡ 1 → InUse (view p) g → bit found g ≡ 1
  pub kept : (x : ℕ) → bit done x ≡ 1 → bit found x ≡ 1
  pub closed : (x h : ℕ) → bit done h ≡ 1 → Direct (view p) x h → (bit found x ≡ 1) ⊎ (bit left x ≡ 1)

module _ {p : Policy} {rows : List ℕ} {m : Masks} (k : Lent p rows m) {set : ℕ} where
  pub settle_start : Settling p set 0 (bit_and set m.objects) 0
  settle_start =
      let f = set_mask set k.masks.objects in
      record {
        only = λ x b.
            let a = f.only x b in record { place = x; low = in_use_below p x a.1; at = (a.0, itself a.1) };
        start = λ g b i. f.all g (b, i);
        kept = λ x b. absurd (bit_none x b);
        closed = λ x h b d. absurd (bit_none h b);
      }

  -- A round begins: what is found is done, and all else in use is left.
  pub settle_round : {done found left next : ℕ} → found < 2 ^ 64 → Settling p set done found left
      → next ≡ bit_and m.objects (2 ^ 64 - 1 - found) → Settling p set found found next
  settle_round {found = found} w s e =
      let rest = set_equal (set_mask m.objects (set_not (set_bits found w))) e in
      record {
        only = s.only;
        start = s.start;
        kept = λ x b. b;
        closed = λ x h b d.
            ⊎_elim
            (λ z.
            inr
            (rest.all x (
              k.masks.objects.all x d.object,
              (in_use_below p x d.object, bit_clash found x z),
            )))
            (λ z. inl z)
            (bit_two found x);
      }

  -- One object is looked at: its row meets the groups found, or not.
  pub settle_step : {done found left o : ℕ} (passed : Bool) → found < 2 ^ 64 → (word : left < 2 ^ 64)
      → ((x : ℕ) → bit left x ≡ 1 → InUse (view p) x) → Settling p set done found left → (h : ℕ) → (e : bit left h ≡ 1)
      → Decides passed (Some 64 (λ g. (bit (bit_and (get_or rows h 0) found) g ≡ 1) × Group (view p) g))
      → SetOf o (λ x. (passed ≡ true) × (bit ((1 * 2 ^ h) % 2 ^ 64) x ≡ 1))
      → Settling p set done (bit_or found o) (bit_and left (2 ^ 64 - 1 - (1 * 2 ^ h) % 2 ^ 64))
  settle_step {done} {found} {left} {o} passed fw word used s h e d n =
      let f = set_or (set_bits found fw) n in
      let one = set_one h (left_low word h e) in
      let rest = left_rest word h e in
      record {
        only = λ x b.
            ⊎_elim
            (λ a. s.only x a)
            (λ a. subst (UnderSome p set) (sym (one.only x a.1)) (through (d.sound a.0)))
            (f.only x b);
        start = λ g b i. f.all g (inl (s.start g b i));
        kept = λ x b. f.all x (inl (s.kept x b));
        closed = λ x g b c.
            ⊎_elim
            (λ a. inl (f.all x (inl a)))
            (λ a.
            ⊎_elim
            (λ z.
            let q = left_taken word h e x a (bit_clash _ x z) in
            inl
            (f.all x
            (inr (
              d.complete (found_row (subst (λ (y : ℕ). Direct (view p) y g) q c) (s.kept g b)),
              one.all x q,
            ))))
            (λ z. inr z)
            (bit_two (bit_and left (2 ^ 64 - 1 - (1 * 2 ^ h) % 2 ^ 64)) x))
            (s.closed x g b c);
      }
    where
      row_is : get_or p.memberships h 0 ≡ get_or rows h 0
      row_is = ap (λ (l : List ℕ). get_or l h 0) k.rows

      -- By a group found that h is directly in, h is under what that group is under.
      through : Some 64 (λ g. (bit (bit_and (get_or rows h 0) found) g ≡ 1) × Group (view p) g) → UnderSome p set h
      through w =
          let both = (set_mask (get_or rows h 0) (set_bits found fw)).only w.place w.at.0 in
          let row = ap (λ (n : ℕ). bit n w.place) row_is ∙ both.0 in
          let step = direct_of_row p h w.place (used h e) w.at.1 row in
          some_map (λ g v. (v.0, up step v.1)) (s.only w.place both.1)

      found_row : {g : ℕ} → Direct (view p) h g → bit found g ≡ 1
          → Some 64 (λ g. (bit (bit_and (get_or rows h 0) found) g ≡ 1) × Group (view p) g)
      found_row {g} c b =
          record {
            place = g;
            low = in_use_below p g (group_in_use (view p) g c.group);
            at = (
              (set_mask (get_or rows h 0) (set_bits found fw)).all g (ap (λ (n : ℕ). bit n g) (sym row_is) ∙ row_of_direct p h g c, b),
              c.group,
            );
          }

-- A round is over once nothing is left, and one that found nothing was the last.
pub settle_over : {p : Policy} {set done found left : ℕ} → Settling p set done found left → left ≡ 0 → Settling p set done found 0
settle_over {p} {set} {done} {found} s e = subst (Settling p set done found) e s

pub settle_end : {p : Policy} {set done found left : ℕ} → found < 2 ^ 64 → Settling p set done found left → left ≡ 0 → found ≡ done
    → SetOf found (λ x. UnderSome p set x)
settle_end {p} {set} {done} {found} {left} w s z e =
    record { word = w; only = s.only; all = λ x u. holds u.at.1 (s.start u.place u.at.0 (under_upper u.at.1)) }
  where
    kept : (x : ℕ) → (bit found x ≡ 1) ⊎ (bit left x ≡ 1) → bit found x ≡ 1
    kept x v = ⊎_elim (λ b. b) (λ b. absurd (bit_none x (ap (λ (n : ℕ). bit n x) (sym z) ∙ b))) v

    holds : {x g : ℕ} → Under (view p) x g → bit found g ≡ 1 → bit found x ≡ 1
    holds (itself i) b = b
    holds (up {x = x} {h = h} d l) b = kept x (s.closed x h (ap (λ (n : ℕ). bit n h) (sym e) ∙ holds l b) d)
