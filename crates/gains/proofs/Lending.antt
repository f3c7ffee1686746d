-- What the lent tables and the sender's appointments tell of the policy whose tables they are.
use mathlib.Core.Path.{◌≡◌, refl, sym, ◌∙◌}
use mathlib.Core.Bool.{Bool, not}
use mathlib.Core.List.{List}
use Prim.Native.Nat.{ℕ, ◌-◌, ◌^◌}
use lib.Bits.{bit_and}
use lib.Dec.{eqb, ltb}
use lib.ListN.{get_or}
use borrow.Author.Tests.{eq-eqb}
use Rattle.reach.specs.declared.Policy.{Policy}
use Rattle.reach.specs.Words.{SetOf}
use Rattle.reach.specs.Tests.{Some, Decides}
use Rattle.reach.specs.Tables.{sort_in, no_appointment, view}
use Rattle.reach.specs.Reach.{InUse, Group, User, itself}
use Rattle.reach.specs.Privileges.{Holds, Administers}
use Rattle.reach.specs.Asking.{UnderBy, HeldOver, CoversPair}
use Rattle.reach.proofs.Testing.{decides_as, decides_at, decides_not}
use Rattle.reach.proofs.WordSets.{set_as, set_at, set_bits, set_mask, set_not, set_empty, set_lowest}
use Rattle.reach.proofs.Reaching.{under_lower, under_upper}
use Rattle.reach.proofs.Sorts.{in_use_is}
use Rattle.reach.proofs.Chains.{in_use_below, decides_in_use}
use Rattle.reach.proofs.Deciding.{administers_decides}
use Rattle.reach.proofs.Meeting.{read_user, read_group, climbed, meet_holds, holds_meet, pair_covered}
use Rattle.gains.specs.Lacking.{Above, Opened}
use Rattle.gains.proofs.Searched.{decides_empty}

-- What is climbed on the lent tables is what the object is under.
pub above_by : (p : Policy) {sorts memberships : List ℕ} {x r : ℕ} → sorts ≡ p.sorts → memberships ≡ p.memberships
    → SetOf r (λ g. UnderBy sorts memberships x g) → Above p x r
above_by p e f s = climbed p (rw (e, f) at s)

-- So is it asked of them whether somebody is a user, and whether an object is a group.
pub user_lent : (p : Policy) (u : ℕ) {sorts : List ℕ} {t : Bool} → sorts ≡ p.sorts → t ≡ eqb (sort_in sorts u) 2 → Decides t (User (view p) u)
user_lent p u e q = decides_at (rw e at q) (read_user p u refl)

pub group_lent : (p : Policy) (g : ℕ) {sorts : List ℕ} {t : Bool} → sorts ≡ p.sorts → t ≡ eqb (sort_in sorts g) 1 → Decides t (Group (view p) g)
group_lent p g e q = decides_at (rw e at q) (read_group p g refl)

pub used_lent : (p : Policy) (x : ℕ) {sorts : List ℕ} {t : Bool} → sorts ≡ p.sorts → t ≡ ltb 0 (sort_in sorts x) → Decides t (InUse (view p) x)
used_lent p x e q = decides_at (rw e at q ∙ sym (in_use_is p x)) (decides_in_use p x)

-- What is above g and not above x, as a set.
pub opened_set : (p : Policy) {x g object group : ℕ} → Above p x object → Above p g group
    → Opened p x g (bit_and group (2 ^ 64 - 1 - object))
opened_set p {group = group} o s =
    set_as
    (set_mask group (set_not o))
    (λ t w. (s.only t w.0, w.1.1))
    (λ t w. (s.all t w.0, (in_use_below p t (under_upper w.0), w.1)))

-- An object that is under nothing is not in use, and one that is under something is.
pub above_none : (p : Policy) {x r : ℕ} → Above p x r → r ≡ 0 → InUse (view p) x → ⊥
above_none p {x} s e i = set_empty s e x (itself i)

pub above_some : (p : Policy) {x r : ℕ} → Above p x r → (r ≡ 0 → ⊥) → InUse (view p) x
above_some p s n = under_lower (set_lowest s n).1

-- No one appointment of his covers the pair exactly if he does not administer it.
pub pair_lacked : (p : Policy) {u a b first second one other : ℕ} {t : Bool} → User (view p) u → Above p a first → Above p b second
    → Decides t (Some 32 (λ i. CoversPair (get_or p.appointments i no_appointment) u one other)) → one ≡ first → other ≡ second
    → Decides (not t) (Administers (view p) u a b → ⊥)
pair_lacked p {u = u} {a = a} {b = b} {t = t} user o s d e f =
    decides_not _ (decides_at (pair_covered p user (set_at e o) t (set_at f s) d) (administers_decides p u a b))

-- Nothing that he is appointed over in that way is above x, exactly if he does not hold x in that way.
pub held_lacked : (p : Policy) {kind u x held above : ℕ} → SetOf held (HeldOver (view p) kind u) → Above p x above
    → Decides (eqb (bit_and held above) 0) (Holds (view p) kind u x → ⊥)
held_lacked p {held = held} {above = above} h s =
    decides_as
    (decides_empty (set_mask held (set_bits above s.word)))
    (λ n o. n (holds_meet p h s o))
    (λ n m. n (meet_holds p h s m))

-- The same, of the word itself: that it is 0, and that it is not.
pub held_none : (p : Policy) {kind u x held above : ℕ} → SetOf held (HeldOver (view p) kind u) → Above p x above
    → bit_and held above ≡ 0 → Holds (view p) kind u x → ⊥
held_none p h s e = (held_lacked p h s).sound (eq-eqb _ _ e)

pub held_had : (p : Policy) {kind u x held above : ℕ} → SetOf held (HeldOver (view p) kind u) → Above p x above
    → (bit_and held above ≡ 0 → ⊥) → Holds (view p) kind u x
held_had p {held = held} {above = above} h s n =
    let r = set_lowest (set_mask held (set_bits above s.word)) n in meet_holds p h s (record { place = _; low = r.0; at = r.1 })
