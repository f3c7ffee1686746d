-- A pair comes by a PUT exactly if one of his administrator's appointments has an A that is opened, above g and not above x, and a B that is
-- in use and not under the B of any appointment of his whose A is above x; or the same with the sides exchanged.
use mathlib.Core.Path.{◌≡◌, refl, sym, ap, subst, ◌∙◌}
use mathlib.Core.Bool.{not}
use mathlib.Core.Logic.{◌⊎◌, inl, inr, ⊎_elim}
use Prim.Native.Nat.{ℕ, ◌-◌, ◌^◌, ◌<◌}
use lib.Bits.{bit_and, bit_or}
use lib.Dec.{eqb}
use lib.ListN.{get_or}
use Rattle.reach.specs.declared.Policy.{Policy}
use Rattle.reach.specs.declared.Appointment.{Appointment}
use Rattle.reach.specs.Words.{bit, SetOf}
use Rattle.reach.specs.Tests.{Some, Decides}
use Rattle.reach.specs.Tables.{no_appointment, view}
use Rattle.reach.specs.Reach.{InUse, User, Under, itself}
use Rattle.reach.specs.Privileges.{administrator}
use Rattle.reach.specs.Asking.{reach_of, UnderSomeBy, HasB, HasFirst}
use Rattle.reach.proofs.Bits.{bit_none, bit_of_or}
use Rattle.reach.proofs.Testing.{some_map, decides_as}
use Rattle.reach.proofs.WordSets.{set_as, set_empty, set_lowest, decides_nonempty}
use Rattle.reach.proofs.Reaching.{under_lower}
use Rattle.reach.proofs.Chains.{in_use_below}
use Rattle.reach.proofs.Upward.{under_by, under_of}
use Rattle.reach.proofs.AsRead.{appointment_is}
use Rattle.reach.proofs.Meeting.{second_administers, administers_second, first_administers, administers_first}
use Rattle.gains.specs.Lacking.{Above, LacksA, LacksB, LacksPair}
use Rattle.gains.proofs.Lending.{opened_set}

module _ (p : Policy) (u : ℕ) {x g object group : ℕ} (user : User (view p) u) (o : Above p x object) (q : Above p g group) where
  abbrev opened : ℕ
  opened = bit_and group (2 ^ 64 - 1 - object)

  -- What `not_under` says of the numbers that it leaves.
  abbrev Left : ℕ → ℕ → ℕ → Type 0
  Left f h y = (bit f y ≡ 1) × InUse (view (reach_of p.sorts p.memberships)) y × (UnderSomeBy p.sorts p.memberships h y → ⊥)

  pub left_at : {f h a b n : ℕ} → SetOf n (Left a b) → a ≡ f → b ≡ h → SetOf n (Left f h)
  left_at {f} {h} {a} {b} {n} w e d = subst (λ (c : ℕ). SetOf n (Left f c)) d (subst (λ (c : ℕ). SetOf n (Left c b)) e w)

  used_of : (y : ℕ) → InUse (view (reach_of p.sorts p.memberships)) y → InUse (view p) y
  used_of y i = under_lower (under_of p (itself i))

  used_lent : (y : ℕ) → InUse (view p) y → InUse (view (reach_of p.sorts p.memberships)) y
  used_lent y i = under_lower (under_by p (itself i))

  some_lent : (h : ℕ) {y : ℕ} → Some 64 (λ t. (bit h t ≡ 1) × Under (view p) y t) → UnderSomeBy p.sorts p.memberships h y
  some_lent h w = some_map (λ t v. (v.0, under_by p v.1)) w

  lent_some : (h : ℕ) {y : ℕ} → UnderSomeBy p.sorts p.memberships h y → Some 64 (λ t. (bit h t ≡ 1) × Under (view p) y t)
  lent_some h w = some_map (λ t v. (v.0, under_of p v.1)) w

  -- ---- B, with an A that is opened

  abbrev Second : ℕ → ℕ → Type 0
  Second set r = SetOf r (λ b. Some 32 (λ i. (b < 64) × HasB (get_or p.appointments i no_appointment) u set b))

  pub second_at : {set r t : ℕ} → Second t r → t ≡ set → Second set r
  second_at {r = r} h e = subst (λ (t : ℕ). Second t r) e h

  second_view : {set r : ℕ} → Second set r → SetOf r (λ b. Some 32 (λ i. (b < 64) × HasB ((view p).appointment i) u set b))
  second_view {set} h =
      set_as
      h
      (λ b w. some_map (λ i v. (v.0, subst (λ (a : Appointment). HasB a u set b) (sym (appointment_is p i)) v.1)) w)
      (λ b w. some_map (λ i v. (v.0, subst (λ (a : Appointment). HasB a u set b) (appointment_is p i) v.1)) w)

  -- b is the B of an appointment of his by which a pair comes.
  abbrev SecondComes : ℕ → Type 0
  SecondComes b =
      Some 32 (λ i.
      ((((view p).appointment i).kind ≡ administrator) × (((view p).appointment i).holder ≡ u))
      × ((((view p).appointment i).b ≡ b) × LacksA (view p) u x g ((view p).appointment i).a b))

  second_in : {f : ℕ} → Second opened f → {b : ℕ} → SecondComes b → bit f b ≡ 1
  second_in f {b} w =
      (second_view f
      ).all
      b
      (some_map
      (λ i v.
      let c = v.1.1 in (
        in_use_below p b c.other,
        record { is_kind = v.0.0; is_holder = v.0.1; in_a = (opened_set p o q).all _ (c.above, c.not_above); is_b = v.1.0 },
      ))
      w)

  second_comes : {f h n : ℕ} → Second opened f → Second object h → SetOf n (Left f h) → SetOf n SecondComes
  second_comes f h n =
      set_as
      n
      (λ b w.
      some_map
      (λ i v.
      let c = v.1 in
      let a = (opened_set p o q).only _ c.in_a in (
        (c.is_kind, c.is_holder),
        (
          c.is_b,
          record {
            above = a.0;
            not_above = a.1;
            other = used_of b w.1;
            lacks = λ d. w.2 (some_lent _ (administers_second p user o h d));
          },
        ),
      ))
      ((second_view f).only b w.0))
      (λ b w.
      let c = w.at.1.1 in
      (second_in f w, used_lent b c.other, λ d. c.lacks (second_administers p user o h (lent_some _ d))))

  second_pair : {b : ℕ} → SecondComes b → LacksPair (view p) u x g
  second_pair w =
      some_map
      (λ i v.
      record {
        is_kind = v.0.0;
        is_holder = v.0.1;
        side = inl (subst (λ (c : ℕ). LacksA (view p) u x g ((view p).appointment i).a c) (sym v.1.0) v.1.1);
      })
      w

  -- ---- A, with a B that is opened

  abbrev First : ℕ → ℕ → Type 0
  First set r = SetOf r (λ b. Some 32 (λ i. (b < 64) × HasFirst (get_or p.appointments i no_appointment) u set b))

  pub first_at : {set r t : ℕ} → First t r → t ≡ set → First set r
  first_at {r = r} h e = subst (λ (t : ℕ). First t r) e h

  first_view : {set r : ℕ} → First set r → SetOf r (λ b. Some 32 (λ i. (b < 64) × HasFirst ((view p).appointment i) u set b))
  first_view {set} h =
      set_as
      h
      (λ b w. some_map (λ i v. (v.0, subst (λ (a : Appointment). HasFirst a u set b) (sym (appointment_is p i)) v.1)) w)
      (λ b w. some_map (λ i v. (v.0, subst (λ (a : Appointment). HasFirst a u set b) (appointment_is p i) v.1)) w)

  -- b is the A of an appointment of his by which a pair comes.
  abbrev FirstComes : ℕ → Type 0
  FirstComes b =
      Some 32 (λ i.
      ((((view p).appointment i).kind ≡ administrator) × (((view p).appointment i).holder ≡ u))
      × ((((view p).appointment i).a ≡ b) × LacksB (view p) u x g b ((view p).appointment i).b))

  first_in : {f : ℕ} → First opened f → {b : ℕ} → FirstComes b → bit f b ≡ 1
  first_in f {b} w =
      (first_view f
      ).all
      b
      (some_map
      (λ i v.
      let c = v.1.1 in (
        in_use_below p b c.other,
        record { is_kind = v.0.0; is_holder = v.0.1; in_b = (opened_set p o q).all _ (c.above, c.not_above); is_a = v.1.0 },
      ))
      w)

  first_comes : {f h n : ℕ} → First opened f → First object h → SetOf n (Left f h) → SetOf n FirstComes
  first_comes f h n =
      set_as
      n
      (λ b w.
      some_map
      (λ i v.
      let c = v.1 in
      let a = (opened_set p o q).only _ c.in_b in (
        (c.is_kind, c.is_holder),
        (
          c.is_a,
          record {
            above = a.0;
            not_above = a.1;
            other = used_of b w.1;
            lacks = λ d. w.2 (some_lent _ (administers_first p user o h d));
          },
        ),
      ))
      ((first_view f).only b w.0))
      (λ b w.
      let c = w.at.1.1 in
      (first_in f w, used_lent b c.other, λ d. c.lacks (first_administers p user o h (lent_some _ d))))

  first_pair : {b : ℕ} → FirstComes b → LacksPair (view p) u x g
  first_pair w =
      some_map
      (λ i v.
      record {
        is_kind = v.0.0;
        is_holder = v.0.1;
        side = inr (subst (λ (c : ℕ). LacksB (view p) u x g c ((view p).appointment i).b) (sym v.1.0) v.1.1);
      })
      w

  -- ---- Both

  -- By one side or the other.
  pair_comes : LacksPair (view p) u x g → Some 64 SecondComes ⊎ Some 64 FirstComes
  pair_comes w =
      let v = w.at in
      ⊎_elim
      (λ a.
      inl
      (record {
        place = _;
        low = in_use_below p _ a.other;
        at = record { place = w.place; low = w.low; at = ((v.is_kind, v.is_holder), (refl, a)) };
      }))
      (λ b.
      inr
      (record {
        place = _;
        low = in_use_below p _ b.other;
        at = record { place = w.place; low = w.low; at = ((v.is_kind, v.is_holder), (refl, b)) };
      }))
      v.side

  -- No side is opened.
  pub none_opened : {f s : ℕ} → First opened f → Second opened s → bit_or f s ≡ 0 → LacksPair (view p) u x g → ⊥
  none_opened {f} {s} a b z w =
      ⊎_elim
      (λ v. bit_none v.place (ap (λ (n : ℕ). bit n v.place) (sym z) ∙ bit_of_or f s _ (inr (second_in b v.at))))
      (λ v. bit_none v.place (ap (λ (n : ℕ). bit n v.place) (sym z) ∙ bit_of_or f s _ (inl (first_in a v.at))))
      (pair_comes w)

  -- A second side is left.
  pub second_found : {f h n : ℕ} → Second opened f → Second object h → SetOf n (Left f h) → (n ≡ 0 → ⊥) → LacksPair (view p) u x g
  second_found f h n z = second_pair (set_lowest (second_comes f h n) z).1

  -- None is, and so the first sides tell.
  pub first_tells : {f h n a b r : ℕ} → Second opened f → Second object h → SetOf n (Left f h) → n ≡ 0
      → First opened a → First object b → SetOf r (Left a b) → Decides (not (eqb r 0)) (LacksPair (view p) u x g)
  first_tells f h n z a b r =
      decides_as
      (decides_nonempty (first_comes a b r))
      (λ w. first_pair w.at)
      (λ w. ⊎_elim (λ v. absurd (set_empty (second_comes f h n) z v.place v.at)) (λ v. v) (pair_comes w))
