-- The memberships of an object are penned by the set of its groups, the lowest first: what is left of the set has just the groups from a place on,
-- so the places up to the next one give nothing.
use mathlib.Core.Path.{◌≡◌, refl, sym, ap, ◌∙◌}
use mathlib.Core.Bool.{Bool, true, false, true≢false}
use mathlib.Core.Logic.{◌⊎◌, inl, inr}
use mathlib.Core.List.{[], ◌++◌, append-nil}
use Prim.Native.Nat.{ℕ, zero, suc, ◌+◌, ◌-◌, ◌*◌, ◌/◌, ◌%◌, ◌^◌, ◌≤◌, ◌<◌}
use native.Mathlib.Nat.{not-suc-le-zero, le_of_suc-le-suc}
use native.Mathlib.Decide.{dec_le}
use native.Mathlib.Omega.{arith}
use lib.Dec.{eqb}
use lib.Bits.{bit_and}
use lib.Count.{count_trailing_zeros, under}
use lib.Pow.{pow_pos}
use borrow.Author.Tests.{eq-eqb, ne_eqb}
use Rattle.std.specs.Prelude.{Some}
use Rattle.reach.specs.Tests.{◌⇒◌∥◌}
use Rattle.reach.specs.Words.{bit, has}
use Rattle.reach.specs.Successors.{without_bit}
use Rattle.reach.proofs.Bits.{bit_at_zero, bit_suc, bit_zero, lowest_bit}
use Rattle.reach.proofs.OneBit.{has_without, and_is_without}
use Rattle.reach.proofs.WordSets.{has_decides, below_next}
use Rattle.text.specs.Text.{Bytes}
use Rattle.snapshot.specs.declared.Entry.TheVariants.{Membership}
use Rattle.snapshot.specs.declared.writing.Writer.{Writer}
use Rattle.snapshot.specs.Card.{bytes_of, membership_of, from}
use Rattle.snapshot.specs.Writing.{Penned, row_of}
use Rattle.snapshot.proofs.Runs.{from_end, from_more, from_append, from_none}
use Rattle.snapshot.proofs.Penning.{penned_as, penned_then, penned_nothing}

-- ---- The lowest number of a set

lowest_none : (k s x : ℕ) → x < count_trailing_zeros k s → bit s x ≡ 0
unfolding count_trailing_zeros
lowest_none zero s x l = absurd (not-suc-le-zero l)
lowest_none (suc k) s x l = go (s % 2) refl x l (lowest_none k (s / 2))
  where
    go : (d : ℕ) → s % 2 ≡ d → (x : ℕ) → x < under d (count_trailing_zeros k (s / 2))
        → ((y : ℕ) → y < count_trailing_zeros k (s / 2) → bit (s / 2) y ≡ 0) → bit s x ≡ 0
    go zero e zero l more = bit_at_zero s ∙ e
    go zero e (suc y) l more = bit_suc s y ∙ more y (le_of_suc-le-suc l)
    go (suc d) e x l more = absurd (not-suc-le-zero l)

has_not : (s x : ℕ) → bit s x ≡ 0 → has s x ≡ false
unfolding has
has_not s x e = rw e

-- Without its lowest number it is less.
module _ (left : ℕ) (some : left ≡ 0 → ⊥) (word : left < 2 ^ 64) where
  abbrev g : ℕ
  g = count_trailing_zeros 64 left

  pub lowest_low : g < 64
  lowest_low = (lowest_bit 64 left some word).0

  abbrev rest : ℕ
  rest = bit_and left (2 ^ 64 - 1 - (1 * 2 ^ g) % 2 ^ 64)

  lowest_has : has left g ≡ true
  lowest_has = (has_decides left g).complete (lowest_bit 64 left some word).1

  rest_is : rest ≡ without_bit g left
  rest_is = and_is_without g left lowest_low word

  pub rest_less : rest < left
  unfolding without_bit
  rest_less =
      let e : rest ≡ left - 2 ^ g = rw (lowest_has) at rest_is in
      omega (arith, e, pow_pos g, some)

  rest_has : (y : ℕ) → has rest y ≡ (eqb y g ⇒ false ∥ has left y)
  rest_has y = ap (λ (n : ℕ). has n y) rest_is ∙ has_without g left y

-- ---- The loop

module _ (groups x : ℕ) where
  abbrev place_bytes : ℕ → Bytes
  place_bytes k = bytes_of (membership_of (has groups k) x k)

  pub record Rowing (pen : Writer) (left : ℕ) (pen' : Writer) : Type 0 where
    pub place : ℕ
    pub within : place ≤ 64
    pub word : left < 2 ^ 64
    pub from_there : (k : ℕ) → place ≤ k → has left k ≡ has groups k
    pub none_before : (k : ℕ) → k < place → has left k ≡ false
    pub penned : Penned pen (from place 0 place_bytes) pen'

  pub rowing_start : (pen : Writer) → groups < 2 ^ 64 → Rowing pen groups pen
  rowing_start pen word =
      record {
        place = 0;
        within = omega arith;
        word = word;
        from_there = λ k l. refl;
        none_before = λ k l. absurd (not-suc-le-zero l);
        penned = penned_nothing (from_end 0 place_bytes);
      }

  gives_nothing : (k : ℕ) → has groups k ≡ false → place_bytes k ≡ []
  gives_nothing k e = rw e

  module _ {pen a : Writer} {left : ℕ} (w : Rowing pen left a) where
    -- Nothing is left: the places from there on give nothing.
    pub rowing_end : left ≡ 0 → Penned pen (row_of groups x) a
    unfolding has
    rowing_end e =
        let cut : 64 ≡ w.place + (64 - w.place) = omega (arith, w.within) in
        let behind : from (64 - w.place) (0 + w.place) place_bytes ≡ [] =
        from_none (64 - w.place) (0 + w.place) place_bytes
        (λ k l h. gives_nothing k (sym (w.from_there k (omega arith)) ∙ ap (λ (n : ℕ). has n k) e ∙ has_not 0 k (bit_zero k))) in
        penned_as
        (sym
        (ap (λ (n : ℕ). from n 0 place_bytes) cut
        ∙ from_append w.place (64 - w.place) 0 place_bytes
        ∙ ap (λ (b : Bytes). from w.place 0 place_bytes ++ b) behind
        ∙ append-nil (from w.place 0 place_bytes)))
        w.penned

    module _ (some : left ≡ 0 → ⊥) where
      abbrev low : ℕ
      low = count_trailing_zeros 64 left

      onward : w.place ≤ low
      onward = go (dec_le w.place low)
        where
          go : Dec (w.place ≤ low) → w.place ≤ low
          go (yes l) = l
          go (no n) = absurd (true≢false (sym (lowest_has left some w.word) ∙ w.none_before low (omega arith)))

      -- The places up to the next group, and that group.
      up_to : from low 0 place_bytes ≡ from w.place 0 place_bytes
      up_to =
          let cut : low ≡ w.place + (low - w.place) = omega (arith, onward) in
          let between : from (low - w.place) (0 + w.place) place_bytes ≡ [] =
          from_none (low - w.place) (0 + w.place) place_bytes
          (λ k l h. gives_nothing k
          (sym (w.from_there k (omega arith)) ∙ has_not left k (lowest_none 64 left k (omega (arith, onward))))) in
          ap (λ (n : ℕ). from n 0 place_bytes) cut
          ∙ from_append w.place (low - w.place) 0 place_bytes
          ∙ ap (λ (b : Bytes). from w.place 0 place_bytes ++ b) between
          ∙ append-nil (from w.place 0 place_bytes)

      here : {y g : ℕ} → y ≡ x → g ≡ low → bytes_of (Some (Membership y g)) ≡ place_bytes low
      here e f = rw (e, f, sym (w.from_there low onward) ∙ lowest_has left some w.word)

      pub rowing_next : {b : Writer} {y g : ℕ} → Penned a (bytes_of (Some (Membership y g))) b → y ≡ x → g ≡ low
          → Rowing pen (bit_and left (2 ^ 64 - 1 - (1 * 2 ^ low) % 2 ^ 64)) b
      rowing_next q object group =
          record {
            place = low + 1;
            within = omega (arith, lowest_low left some w.word);
            word = omega (arith, rest_less left some w.word, w.word);
            from_there = λ k l.
                rest_has left some w.word k
                ∙ ap (λ (t : Bool). t ⇒ false ∥ has left k) (ne_eqb k low (λ e. omega arith))
                ∙ w.from_there k (omega (arith, onward));
            none_before = λ k l. rest_has left some w.word k ∙ below k (below_next k low l);
            penned = penned_as (sym (from_more low place_bytes)) (penned_then (penned_as (sym up_to) w.penned) (penned_as (here object group) q));
          }
        where
          below : (k : ℕ) → (k ≡ low) ⊎ (k < low) → (eqb k low ⇒ false ∥ has left k) ≡ false
          below k (inl e) = rw (eq-eqb k low e)
          below k (inr l) = rw (ne_eqb k low (λ e. omega arith)) (has_not left k (lowest_none 64 left k l))
