-- The picture is faithful: of every policy whose tables have their sizes and whose rows are words, the policy of its picture is the same
-- one. Each byte of the picture is a byte of one place of one table.
use mathlib.Core.Path.{◌≡◌, refl, sym, ap, ap₂, ◌∙◌}
use mathlib.Core.Bool.{Bool, true, false}
use mathlib.Core.List.{List, [], ◌∷◌, ◌++◌, append_assoc, append-nil}
use Prim.Native.Nat.{ℕ, zero, suc, ◌+◌, ◌*◌, ◌/◌, ◌%◌, ◌^◌, ◌≤◌, ◌<◌}
use native.Mathlib.Nat.{pow-suc, mul-suc, not-suc-le-zero, le_of_suc-le-suc}
use native.Mathlib.Omega.{arith}
use lib.Dec.{eqb, lit<}
use lib.ListN.{length, take, get_or, get_or-append}
use lib.Seq.{take-suc, take_all, get_or-append-add}
use Rattle.reach.specs.declared.Policy.{Policy}
use Rattle.reach.specs.Tables.{Sized, no_appointment, no_rule}
use Rattle.frame.specs.Fields.{byte}
use Rattle.text.specs.Text.{Bytes}
use Rattle.export.specs.Picture.{table, number_from, sort_at, row_at, appointment_at, rule_at, policy_of}
use Rattle.export.specs.Picture.{flat, bytes_of, row_bytes, appointment_bytes, mark, rule_bytes, picture_of}
use Rattle.export.proofs.Tabling.{table_of}
use Rattle.export.proofs.Storing.{bytes_length}
use Rattle.export.proofs.Picturing.{rows, appointments, rules, to_rows, to_appointments}

-- Byte j of place i of a table, w bytes to a place.
module _ {A : Type 0} (f : A → Bytes) (w : ℕ) (each : (x : A) → length (f x) ≡ w) (rest : Bytes) (d : A) where
  flat_byte : (xs : List A) (i j : ℕ) → i < length xs → j < w
      → byte (flat f xs ++ rest) (w * i + j) ≡ byte (f (get_or xs i d)) j
  unfolding flat
  flat_byte [] i j h k = absurd (not-suc-le-zero h)
  flat_byte (x ∷ xs) zero j h k =
      let first : w * 0 + j ≡ j = omega arith in
      rw (first, append_assoc) (get_or-append (f x) (flat f xs ++ rest) 0 j (omega (arith, each x)))
  flat_byte (x ∷ xs) (suc i) j h k =
      let next : w * suc i + j ≡ length (f x) + (w * i + j) = rw (each x, mul-suc) (omega arith) in
      rw (next, append_assoc) (get_or-append-add (f x) (flat f xs ++ rest) (w * i + j) 0 ∙ flat_byte xs i j (le_of_suc-le-suc h) k)

  -- The same where the table begins at a place of the picture.
  table_byte : (picture front : Bytes) (xs : List A) (start i j : ℕ) → picture ≡ front ++ (flat f xs ++ rest) → length front ≡ start
      → i < length xs → j < w → byte picture (start + w * i + j) ≡ byte (f (get_or xs i d)) j
  table_byte picture front xs start i j e long h k =
      let there : start + w * i + j ≡ length front + (w * i + j) = rw long (omega arith) in
      rw (there, e) (get_or-append-add front (flat f xs ++ rest) (w * i + j) 0 ∙ flat_byte xs i j h k)

-- ---- Numbers

-- A number goes by its bytes.
number_same : (k : ℕ) (b c : Bytes) (m n : ℕ) → ((j : ℕ) → j < k → byte b (m + j) ≡ byte c (n + j))
    → number_from k b m ≡ number_from k c n
unfolding number_from
number_same zero b c m n e = refl
number_same (suc k) b c m n e =
    ap₂ (λ (x y : ℕ). x + 256 * y)
    (ap (byte b) (omega arith) ∙ e 0 (omega arith) ∙ ap (byte c) (omega arith))
    (number_same k b c (suc m) (suc n) (λ j h. ap (byte b) (omega arith) ∙ e (suc j) (omega arith) ∙ ap (byte c) (omega arith)))

pub number_of_bytes : (k w : ℕ) → w < 256 ^ k → number_from k (bytes_of k w) 0 ≡ w
unfolding number_from bytes_of
number_of_bytes zero w h = omega arith
number_of_bytes (suc k) w h =
    let low = bytes_of k (w / 256) in
    let rest : number_from k (w % 256 ∷ low) 1 ≡ w / 256 =
    number_same k (w % 256 ∷ low) low 1 0 (λ j l. let a : 1 + j ≡ suc j = omega arith in let b : 0 + j ≡ j = omega arith in rw (a, b))
    ∙ number_of_bytes k (w / 256) (omega (arith, pow-suc 256 k)) in
    rw rest (omega arith)

-- ---- The four tables

mark_read : (used : Bool) → eqb (mark used) 1 ≡ used
mark_read true = refl
mark_read false = refl

module _ (p : Policy) (z : Sized p) where
  -- The sorts, and what stands behind them.
  split : picture_of p ≡ p.sorts ++ (rows p ++ (appointments p ++ rules p))
  unfolding picture_of
  split = simp append_assoc

  sorts_read : table 64 (sort_at (picture_of p)) ≡ p.sorts
  sorts_read =
      table_of 64 (sort_at (picture_of p)) p.sorts 0 z.sorts
      (λ i h.
      ap (λ (l : Bytes). byte l i) split
      ∙ get_or-append p.sorts (rows p ++ (appointments p ++ rules p)) 0 i (omega (arith, z.sorts)))

  row_byte : (x j : ℕ) → x < 64 → j < 8 → byte (picture_of p) (64 + 8 * x + j) ≡ byte (row_bytes (get_or p.memberships x 0)) j
  row_byte x j h k =
      table_byte row_bytes 8 (bytes_length 8) (appointments p ++ rules p) 0 (picture_of p) p.sorts p.memberships 64 x j
      split z.sorts (omega (arith, z.memberships)) k

  rows_read : ((x : ℕ) → get_or p.memberships x 0 < 2 ^ 64) → table 64 (row_at (picture_of p)) ≡ p.memberships
  rows_read words =
      table_of 64 (row_at (picture_of p)) p.memberships 0 z.memberships
      (λ x h.
      number_same 8 (picture_of p) (row_bytes (get_or p.memberships x 0)) (64 + 8 * x) 0
      (λ j k. row_byte x j h k ∙ ap (byte (row_bytes (get_or p.memberships x 0))) (omega arith))
      ∙ number_of_bytes 8 (get_or p.memberships x 0) (words x))

  appointment_byte : (i j : ℕ) → i < 32 → j < 4
      → byte (picture_of p) (576 + 4 * i + j) ≡ byte (appointment_bytes (get_or p.appointments i no_appointment)) j
  unfolding picture_of
  appointment_byte i j h k =
      table_byte appointment_bytes 4 (λ _. refl) (rules p) no_appointment (picture_of p) (p.sorts ++ rows p) p.appointments 576 i j
      (append_assoc (p.sorts ++ rows p) (appointments p) (rules p)) (to_rows p z) (omega (arith, z.appointments)) k

  appointments_read : table 32 (appointment_at (picture_of p)) ≡ p.appointments
  appointments_read =
      table_of 32 (appointment_at (picture_of p)) p.appointments no_appointment z.appointments
      (λ i h.
      let first : 576 + 4 * i ≡ 576 + 4 * i + 0 = omega arith in
      let kind : byte (picture_of p) (576 + 4 * i) ≡ (get_or p.appointments i no_appointment).kind =
      ap (byte (picture_of p)) first ∙ appointment_byte i 0 h (lit< tt) in
      rw (kind, appointment_byte i 1 h (lit< tt), appointment_byte i 2 h (lit< tt), appointment_byte i 3 h (lit< tt)))

  rule_byte : (i j : ℕ) → i < 64 → j < 4 → byte (picture_of p) (704 + 4 * i + j) ≡ byte (rule_bytes (get_or p.rules i no_rule)) j
  unfolding picture_of
  rule_byte i j h k =
      let front = p.sorts ++ rows p ++ appointments p in
      table_byte rule_bytes 4 (λ _. refl) [] no_rule (picture_of p) front p.rules 704 i j
      (ap (λ (l : Bytes). front ++ l) (sym (append-nil (rules p)))) (to_appointments p z) (omega (arith, z.rules)) k

  rules_read : table 64 (rule_at (picture_of p)) ≡ p.rules
  rules_read =
      table_of 64 (rule_at (picture_of p)) p.rules no_rule z.rules
      (λ i h.
      let first : 704 + 4 * i ≡ 704 + 4 * i + 0 = omega arith in
      let used : eqb (byte (picture_of p) (704 + 4 * i)) 1 ≡ (get_or p.rules i no_rule).used =
      ap (λ (n : ℕ). eqb n 1) (ap (byte (picture_of p)) first ∙ rule_byte i 0 h (lit< tt))
      ∙ mark_read (get_or p.rules i no_rule).used in
      rw (used, rule_byte i 1 h (lit< tt), rule_byte i 2 h (lit< tt), rule_byte i 3 h (lit< tt)))

  -- The picture of a policy gives the policy back.
  pub policy_of_picture : ((x : ℕ) → get_or p.memberships x 0 < 2 ^ 64) → policy_of (picture_of p) ≡ p
  unfolding policy_of
  policy_of_picture words = rw (sorts_read, rows_read words, appointments_read, rules_read)
