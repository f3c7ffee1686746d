-- The places of a policy read as its tables have them, and each successor of a policy reads as its change says.
-- A store into a table is read back at its place and nowhere else, and so is a store into a set.
use mathlib.Core.Path.{◌≡◌, refl, sym, ap, ◌∙◌}
use mathlib.Core.Bool.{Bool, true, false, ◌&&◌}
use mathlib.Core.List.{List, map}
use Prim.Native.Nat.{ℕ, ◌^◌, ◌<◌}
use native.Mathlib.Nat.{zero-div}
use native.Mathlib.Decide.{ℕ_discrete}
use native.Mathlib.Omega.{arith}
use lib.Dec.{eqb, ltb}
use lib.ListN.{length, get_or, set, length-set, length-map, get_or-map}
use lib.Seq.{get_or-set_same, get_or-set_other}
use borrow.Author.Tests.{eq-eqb, ne_eqb, lt-ltb}
use Rattle.reach.specs.declared.Policy.{Policy}
use Rattle.reach.specs.declared.Appointment.{Appointment}
use Rattle.reach.specs.declared.AccessRule.{AccessRule}
use Rattle.reach.specs.Words.{bit, has}
use Rattle.reach.specs.Tests.{◌⇒◌∥◌}
use Rattle.reach.specs.Tables.{counted, sort, stored, appointment, no_appointment, rule, no_rule}
use Rattle.reach.specs.Tables.{View, view, Sized}
use Rattle.reach.specs.Successors.{with_bit, without_bit, with_members, with_sorts, on_table, add_to, remove_from, cleared}
use Rattle.reach.specs.Successors.{put, taken, made, appointed, dismissed, ruled, granted, withdrawn}
use Rattle.reach.specs.Changes.{view_made, view_put, view_taken, view_appointed, view_dismissed, view_ruled, view_granted, view_withdrawn}
use Rattle.reach.proofs.OneBit.{has_with, has_without}

-- Views that read alike are equal.
view_ext : {v w : View} → ((x : ℕ) → v.sort x ≡ w.sort x) → ((x g : ℕ) → v.stored x g ≡ w.stored x g)
    → ((i : ℕ) → v.appointment i ≡ w.appointment i) → ((i : ℕ) → v.rule i ≡ w.rule i) → v ≡ w
view_ext a b c d = λ t. record { sort = λ x. a x t; stored = λ x g. b x g t; appointment = λ i. c i t; rule = λ i. d i t }

-- ---- A store into a table

-- Read through any f, as the test of a number in a stored set.
read_set {ℓ ℓ'} : {A : Type ℓ} {B : Type ℓ'} (f : A → B) (l : List A) (i j : ℕ) (a d : A) → i < length l
    → f (get_or (set l i a) j d) ≡ (eqb j i ⇒ f a ∥ f (get_or l j d))
read_set f l i j a d h = go (ℕ_discrete j i)
  where
    go : Dec (j ≡ i) → f (get_or (set l i a) j d) ≡ (eqb j i ⇒ f a ∥ f (get_or l j d))
    go (yes e) = rw (e, eq-eqb i i refl, get_or-set_same l i a d h)
    go (no n) = rw (ne_eqb j i n, get_or-set_other l i j a d n)

-- One row of the table written over at g, read as the whole table.
row_written : (f : ℕ → ℕ) (b : Bool) (l : List ℕ) (x g y h : ℕ) → x < length l
    → has (f (get_or l x 0)) h ≡ (eqb h g ⇒ b ∥ has (get_or l x 0) h)
    → has (get_or (set l x (f (get_or l x 0))) y 0) h ≡ (eqb y x && eqb h g ⇒ b ∥ has (get_or l y 0) h)
row_written f b l x g y h low e = read_set (λ w. has w h) l x y (f (get_or l x 0)) 0 low ∙ go (ℕ_discrete y x)
  where
    go : Dec (y ≡ x)
        → (eqb y x ⇒ has (f (get_or l x 0)) h ∥ has (get_or l y 0) h) ≡ (eqb y x && eqb h g ⇒ b ∥ has (get_or l y 0) h)
    go (yes q) = rw (q, eq-eqb x x refl) e
    go (no n) = rw (ne_eqb y x n)

has_added : (l : List ℕ) (x g y h : ℕ) → x < length l
    → has (get_or (add_to l x g) y 0) h ≡ (eqb y x && eqb h g ⇒ true ∥ has (get_or l y 0) h)
has_added l x g y h low = row_written (with_bit g) true l x g y h low (has_with g (get_or l x 0) h)

has_removed : (l : List ℕ) (x g y h : ℕ) → x < length l
    → has (get_or (remove_from l x g) y 0) h ≡ (eqb y x && eqb h g ⇒ false ∥ has (get_or l y 0) h)
has_removed l x g y h low = row_written (without_bit g) false l x g y h low (has_without g (get_or l x 0) h)

has_none : (y : ℕ) → has 0 y ≡ false
unfolding has bit
has_none y = rw (zero-div (2 ^ y))

none_without : (x : ℕ) → without_bit x 0 ≡ 0
unfolding without_bit
none_without x = rw (has_none x)

row_without : (l : List ℕ) (x h : ℕ) → get_or (map (without_bit x) l) h 0 ≡ without_bit x (get_or l h 0)
row_without l x h = ap (get_or (map (without_bit x) l) h) (sym (none_without x)) ∙ get_or-map (without_bit x) l h 0

has_cleared : (l : List ℕ) (x y h : ℕ) → x < length l
    → has (get_or (cleared l x) y 0) h ≡ (eqb y x ⇒ false ∥ eqb h x ⇒ false ∥ has (get_or l y 0) h)
has_cleared l x y h low =
    read_set (λ w. has w h) (map (without_bit x) l) x y 0 0 (simp length-map low)
    ∙ rw (has_none h, row_without l x y, has_without x (get_or l y 0) h)

has_made : (l : List ℕ) (x g y h : ℕ) → x < length l
    → has (get_or (add_to (cleared l x) x g) y 0) h ≡ (eqb y x ⇒ eqb h g ∥ eqb h x ⇒ false ∥ has (get_or l y 0) h)
has_made l x g y h a =
    has_added (cleared l x) x g y h (simp (length-set, length-map) a)
    ∙ rw (has_cleared l x y h a) (go (eqb y x) (eqb h g) (eqb h x) (has (get_or l y 0) h))
  where
    go : (a b c s : Bool) → (a && b ⇒ true ∥ a ⇒ false ∥ c ⇒ false ∥ s) ≡ (a ⇒ b ∥ c ⇒ false ∥ s)
    go true true c s = refl
    go true false c s = refl
    go false b c s = refl

-- ---- The views

on_table_is : (x g : ℕ) (p q : Policy) → x < 64 → g < 64 → (on_table x g ⇒ p ∥ q) ≡ p
on_table_is x g p q a b = rw (lt-ltb x 64 a, lt-ltb g 64 b)

module _ (p : Policy) (z : Sized p) where
  pub view_of_made : (x s g : ℕ) → x < 64 → g < 64 → view (made p x s g) ≡ view_made (view p) x s g
  unfolding made sort stored appointment rule
  view_of_made x s g a b =
      ap view (on_table_is x g (with_sorts (with_members p (add_to (cleared p.memberships x) x g)) (set p.sorts x s)) p a b)
      ∙ view_ext (λ y. sorts y (ℕ_discrete y x))
      (λ y h. has_made p.memberships x g y h (omega (arith, z.memberships))) (λ i. refl) (λ i. refl)
    where
      sorts : (y : ℕ) → Dec (y ≡ x)
          → (ltb y 64 ⇒ counted (get_or (set p.sorts x s) y 0) ∥ 0)
          ≡ (eqb y x ⇒ counted s ∥ ltb y 64 ⇒ counted (get_or p.sorts y 0) ∥ 0)
      sorts y (yes e) = rw (e, lt-ltb x 64 a, eq-eqb x x refl, get_or-set_same p.sorts x s 0 (omega (arith, z.sorts)))
      sorts y (no n) = rw (ne_eqb y x n, get_or-set_other p.sorts x y s 0 n)

  -- With another table of members, nothing but what is stored reads otherwise.
  view_members : (x g : ℕ) (l : List ℕ) (m : ℕ → ℕ → Bool) → x < 64 → g < 64 → ((y h : ℕ) → has (get_or l y 0) h ≡ m y h)
      → view (on_table x g ⇒ with_members p l ∥ p)
      ≡ record { sort = sort p; stored = m; appointment = appointment p; rule = rule p }
  unfolding sort stored appointment rule
  view_members x g l m a b e =
      ap view (on_table_is x g (with_members p l) p a b) ∙ view_ext (λ y. refl) (λ y h. e y h) (λ i. refl) (λ i. refl)

  pub view_of_put : (x g : ℕ) → x < 64 → g < 64 → view (put p x g) ≡ view_put (view p) x g
  unfolding put stored
  view_of_put x g a b =
      view_members x g (add_to p.memberships x g) _ a b (λ y h. has_added p.memberships x g y h (omega (arith, z.memberships)))

  pub view_of_taken : (x g : ℕ) → x < 64 → g < 64 → view (taken p x g) ≡ view_taken (view p) x g
  unfolding taken stored
  view_of_taken x g a b =
      view_members x g (remove_from p.memberships x g) _ a b
      (λ y h. has_removed p.memberships x g y h (omega (arith, z.memberships)))

  pub view_of_appointed : (i : ℕ) (w : Appointment) → i < 32 → view (appointed p i w) ≡ view_appointed (view p) i w
  unfolding appointed sort stored appointment rule
  view_of_appointed i w a =
      view_ext (λ y. refl) (λ y h. refl)
      (λ j. read_set (λ r. r) p.appointments i j w no_appointment (omega (arith, z.appointments))) (λ j. refl)

  pub view_of_ruled : (i : ℕ) (r : AccessRule) → i < 64 → view (ruled p i r) ≡ view_ruled (view p) i r
  unfolding ruled sort stored appointment rule
  view_of_ruled i r a =
      view_ext (λ y. refl) (λ y h. refl) (λ j. refl)
      (λ j. read_set (λ r. r) p.rules i j r no_rule (omega (arith, z.rules)))

  pub view_of_dismissed : (i : ℕ) → i < 32 → view (dismissed p i) ≡ view_dismissed (view p) i
  view_of_dismissed i a = view_of_appointed i no_appointment a

  pub view_of_granted : (i u t o : ℕ) → i < 64
      → view (granted p i u t o) ≡ view_granted (view p) i u t o
  view_of_granted i u t o a = view_of_ruled i (record { used = true; users = u; targets = t; operations = o }) a

  pub view_of_withdrawn : (i : ℕ) → i < 64 → view (withdrawn p i) ≡ view_withdrawn (view p) i
  view_of_withdrawn i a = view_of_ruled i no_rule a

-- ---- The places of the tables, as they are read

pub appointment_is : (p : Policy) (i : ℕ) → (view p).appointment i ≡ get_or p.appointments i no_appointment
unfolding appointment
appointment_is p i = refl

pub rule_is : (p : Policy) (i : ℕ) → (view p).rule i ≡ get_or p.rules i no_rule
unfolding rule
rule_is p i = refl
