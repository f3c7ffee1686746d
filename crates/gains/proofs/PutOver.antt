-- Who holds the group and not the object, as a set: those who hold an appointment over something that the group is under, without those who
-- hold one over something that the object is under, of all users.
use mathlib.Core.Path.{◌≡◌, sym, ap, ◌∙◌, subst}
use mathlib.Core.Logic.{◌⊎◌, inl, inr, ⊎_elim}
use mathlib.Core.Bool.{Bool}
use mathlib.Core.List.{List}
use Prim.Native.Nat.{ℕ, ◌-◌, ◌^◌, ◌<◌}
use lib.Bits.{bit_and, bit_or}
use lib.ListN.{get_or}
use Rattle.reach.specs.declared.Policy.{Policy}
use Rattle.reach.specs.declared.Appointment.{Appointment}
use Rattle.reach.specs.Words.{bit, SetOf}
use Rattle.reach.specs.Tests.{Some, Decides}
use Rattle.reach.specs.Tables.{sort_in, no_appointment, view}
use Rattle.reach.specs.Reach.{User, Under}
use Rattle.reach.specs.Privileges.{owner, manager, Holds, Owns}
use Rattle.reach.proofs.Bits.{or_bit, bit_of_or}
use Rattle.reach.proofs.Testing.{decides_as, some_map}
use Rattle.reach.proofs.WordSets.{set_bits, set_mask, set_not}
use Rattle.reach.proofs.AsRead.{appointment_is}
use Rattle.reach.proofs.Deciding.{user_below}
use Rattle.reach.proofs.Meeting.{user_of_sort, sort_of_user}
use Rattle.gains.specs.Lacking.{Above, LacksHeld, SomeLacks, LacksOver, HolderOf}

-- All who hold an appointment of that kind whose A is in the set.
abbrev pub HoldersIn : List Appointment → ℕ → ℕ → ℕ → Type 0
HoldersIn l kind over s = SetOf s (λ u. Some 32 (λ i. (u < 64) × HolderOf (get_or l i no_appointment) kind over u))

pub holders_at : (l : List Appointment) (kind over : ℕ) {k o s : ℕ} → HoldersIn l k o s → k ≡ kind → o ≡ over → HoldersIn l kind over s
holders_at l kind over {k} {s = s} h e f =
    subst (λ (n : ℕ). HoldersIn l n over s) e (subst (λ (n : ℕ). HoldersIn l k n s) f h)

module _ (p : Policy) (kind : ℕ) where
  module _ {y over s : ℕ} (o : Above p y over) (h : HoldersIn p.appointments kind over s) {u : ℕ} (user : User (view p) u) where
    holder_holds : bit s u ≡ 1 → Holds (view p) kind u y
    holder_holds b =
        record {
          user = user;
          by =
              some_map
              (λ i v.
              let e = sym (appointment_is p i) in
              record {
                is_kind = ap (λ (w : Appointment). w.kind) (sym e) ∙ v.1.is_kind;
                is_holder = ap (λ (w : Appointment). w.holder) (sym e) ∙ v.1.is_holder;
                covers = subst (λ (w : Appointment). Under (view p) y w.a) e (o.only _ v.1.in_a);
              })
              (h.only u b);
        }

    holds_holder : Holds (view p) kind u y → bit s u ≡ 1
    holds_holder w =
        h.all u
        (some_map
        (λ i v.
        let e = appointment_is p i in (
          user_below p u user,
          record {
            is_kind = ap (λ (w : Appointment). w.kind) (sym e) ∙ v.is_kind;
            in_a = o.all _ (subst (λ (w : Appointment). Under (view p) y w.a) e v.covers);
            is_holder = ap (λ (w : Appointment). w.holder) (sym e) ∙ v.is_holder;
          },
        ))
        w.by)

  module _ {x g object group a b : ℕ} (o : Above p x object) (s : Above p g group) (h : HoldersIn p.appointments kind group a) (k : HoldersIn p.appointments kind object b) {u : ℕ}
      (user : User (view p) u) where
    pub lacks_of : bit (bit_and a (2 ^ 64 - 1 - b)) u ≡ 1 → LacksHeld (view p) kind u x g
    lacks_of c =
        let r = (set_mask a (set_not (set_bits b k.word))).only u c in
        record { has = holder_holds s h user r.0; lacks = λ l. r.1.1 (holds_holder o k user l) }

    pub of_lacks : LacksHeld (view p) kind u x g → bit (bit_and a (2 ^ 64 - 1 - b)) u ≡ 1
    of_lacks l =
        (set_mask a (set_not (set_bits b k.word))).all u (
          holds_holder s h user l.has,
          (user_below p u user, λ c. l.lacks (holder_holds o k user c)),
        )

module _ (p : Policy) {x g object group a b c d : ℕ}
    (o : Above p x object) (s : Above p g group) (h : HoldersIn p.appointments 1 group a) (k : HoldersIn p.appointments 1 object b)
    (i : HoldersIn p.appointments 2 group c) (j : HoldersIn p.appointments 2 object d) where
  some_set : {u : ℕ} → User (view p) u → (LacksHeld (view p) owner u x g ⊎ LacksHeld (view p) manager u x g)
      → bit (bit_or (bit_and a (2 ^ 64 - 1 - b)) (bit_and c (2 ^ 64 - 1 - d))) u ≡ 1
  some_set {u} user w =
      bit_of_or _ _ u (⊎_elim (λ l. inl (of_lacks p 1 o s h k user l)) (λ l. inr (of_lacks p 2 o s i j user l)) w)

  lacks_user : {u : ℕ} → (LacksHeld (view p) owner u x g ⊎ LacksHeld (view p) manager u x g) → User (view p) u
  lacks_user w = ⊎_elim (λ l. l.has.user) (λ l. l.has.user) w

  -- Some one of the set is a user, exactly if some user holds the group and not the object.
  pub some_lacks : {set : ℕ} {t : Bool} → Decides t (Some 64 (λ u. (bit set u ≡ 1) × (sort_in p.sorts u ≡ 2)))
      → set ≡ bit_or (bit_and a (2 ^ 64 - 1 - b)) (bit_and c (2 ^ 64 - 1 - d)) → Decides t (SomeLacks (view p) x g)
  some_lacks m f =
      decides_as
      m
      (some_map
      (λ u q.
      let user = user_of_sort p u q.1 in
      ⊎_elim
      (λ r. inl (lacks_of p 1 o s h k user r))
      (λ r. inr (lacks_of p 2 o s i j user r))
      (or_bit _ _ u (ap (λ (n : ℕ). bit n u) (sym f) ∙ q.0))))
      (some_map (λ u q. (ap (λ (n : ℕ). bit n u) f ∙ some_set (lacks_user q) q, sort_of_user p u (lacks_user q))))

-- Where u does not own the object, that is all that hand-over asks.
pub over_decides : (p : Policy) {u x g : ℕ} {t : Bool} → (Owns (view p) u x → ⊥) → Decides t (SomeLacks (view p) x g)
    → Decides t (LacksOver (view p) u x g)
over_decides p n d =
    decides_as
    d
    (λ w. record { not_own = n; who = w.place; lacks = w.at })
    (λ l.
    record {
      place = l.who;
      low = user_below p _ (⊎_elim (λ s. s.has.user) (λ s. s.has.user) l.lacks);
      at = l.lacks;
    })
