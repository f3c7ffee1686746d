-- The picture as a whole: its length, its four tables stored at their places, and the answer behind it.
use mathlib.Core.Path.{◌≡◌, refl, sym, ap, ◌∙◌}
use mathlib.Core.Bool.{true, false}
use mathlib.Core.List.{[], ◌∷◌, ◌++◌, append_assoc}
use Prim.Native.Nat.{ℕ, ◌+◌, ◌*◌, ◌≤◌, ◌<◌}
use native.Mathlib.Nat.{zero-add}
use native.Mathlib.Omega.{arith}
use lib.ListN.{length, take, drop, take-append-drop, set, length-append, length-drop}
use lib.Seq.{sets, drop-drop}
use borrow.Author.Tests.{eq-eqb, ne_eqb, le-leb, lt-leb}
use Rattle.reach.specs.declared.Policy.{Policy}
use Rattle.reach.specs.Tables.{Sized}
use Rattle.rules.specs.declared.Answer.{Answer}
use Rattle.rules.specs.Judging.{code_of, cited_of, judge}
use Rattle.rules.proofs.TwoWordings.{judge_sized}
use Rattle.text.specs.Text.{Bytes}
use Rattle.export.specs.Picture.{policy_of, flat, row_bytes, appointment_bytes, rule_bytes, picture_of, answer_bytes, fitting, Judged}
use Rattle.export.proofs.Tabling.{table_length}
use Rattle.export.proofs.Storing.{sets_append, sets_front, sets_all, bytes_length, flat_length}

-- The tables of a picture have their sizes, whatever its bytes.
pub policy_sized : (b : Bytes) → Sized (policy_of b)
unfolding policy_of
policy_sized b =
    record { sorts = table_length 64 _; memberships = table_length 64 _; appointments = table_length 32 _; rules = table_length 64 _ }

-- Bytes stored behind others.
store_next : (l a b : Bytes) {n : ℕ} → length a ≡ n → sets (sets l 0 a) n b ≡ sets l 0 (a ++ b)
store_next l a b e = rw (← e) (sym (sets_append l 0 a b ∙ rw zero-add))

-- ---- The tables in their places

-- The bytes of the tables behind the sorts.
abbrev pub rows : Policy → Bytes
rows p = flat row_bytes p.memberships

abbrev pub appointments : Policy → Bytes
appointments p = flat appointment_bytes p.appointments

abbrev pub rules : Policy → Bytes
rules p = flat rule_bytes p.rules

module _ (p : Policy) (z : Sized p) where
  rows_length : length (rows p) ≡ 512
  rows_length = flat_length row_bytes 8 (bytes_length 8) p.memberships ∙ ap (λ (n : ℕ). 8 * n) z.memberships

  appointments_length : length (appointments p) ≡ 128
  appointments_length = flat_length appointment_bytes 4 (λ _. refl) p.appointments ∙ ap (λ (n : ℕ). 4 * n) z.appointments

  rules_length : length (rules p) ≡ 256
  rules_length = flat_length rule_bytes 4 (λ _. refl) p.rules ∙ ap (λ (n : ℕ). 4 * n) z.rules

  -- The appointments begin at 576, and the rules at 704.
  pub to_rows : length (p.sorts ++ rows p) ≡ 576
  to_rows = length-append p.sorts (rows p) ∙ rw (z.sorts, rows_length)

  pub to_appointments : length (p.sorts ++ rows p ++ appointments p) ≡ 704
  to_appointments = length-append (p.sorts ++ rows p) (appointments p) ∙ rw (to_rows, appointments_length)

  -- "960 bytes"
  pub picture_length : length (picture_of p) ≡ 960
  unfolding picture_of
  picture_length = length-append (p.sorts ++ rows p ++ appointments p) (rules p) ∙ rw (to_appointments, rules_length)

  -- The sorts, and each other table stored at its place behind them, are the picture.
  pub picture_stored : (l : Bytes) → length l ≡ 960
      → sets (sets (sets (p.sorts ++ drop 64 l) 64 (rows p)) 576 (appointments p)) 704 (rules p) ≡ picture_of p
  unfolding picture_of
  picture_stored l long =
      let sorts : p.sorts ++ drop 64 l ≡ sets l 0 p.sorts =
      ap (λ (n : ℕ). p.sorts ++ drop n l) (sym z.sorts) ∙ sym (sets_front l p.sorts (omega (arith, z.sorts)))
      in
      ap (λ (m : Bytes). sets (sets (sets m 64 (rows p)) 576 (appointments p)) 704 (rules p)) sorts
      ∙ ap (λ (m : Bytes). sets (sets m 576 (appointments p)) 704 (rules p)) (store_next l p.sorts (rows p) z.sorts)
      ∙ ap (λ (m : Bytes). sets m 704 (rules p)) (store_next l (p.sorts ++ rows p) (appointments p) to_rows)
      ∙ store_next l (p.sorts ++ rows p ++ appointments p) (rules p) to_appointments
      ∙ sets_all l (picture_of p) (picture_length ∙ sym long)

-- ---- The answer

-- The two bytes behind the picture.
abbrev numbers : Answer → Bytes
numbers a = code_of a.verdict ∷ cited_of a.verdict ∷ []

-- The first 960 bytes of a buffer, and those behind them.
abbrev pub Halves : Bytes → Bytes → Bytes → Type 0
Halves buffer front behind = (front ≡ take 960 buffer) × (behind ≡ drop 960 buffer) × (length behind + 960 ≡ length buffer)

pub whole : (buffer : Bytes) {front behind : Bytes} → Halves buffer front behind → buffer ≡ front ++ behind
whole buffer s = sym (rw (s.0, s.1) (take-append-drop 960 buffer))

-- A byte, and two, stored at the start.
pub one_set : (l : Bytes) (x : ℕ) → 1 ≤ length l → set l 0 x ≡ x ∷ drop 1 l
one_set [] x h = absurd (omega arith)
one_set (a ∷ l) x h = refl

two_set : (l : Bytes) (x y : ℕ) → 2 ≤ length l → set (set l 0 x) 1 y ≡ x ∷ y ∷ drop 2 l
two_set [] x y h = absurd (omega arith)
two_set (a ∷ []) x y h = absurd (omega arith)
two_set (a ∷ b ∷ l) x y h = refl

module _ (a : Answer) where
  -- "962 bytes"
  pub answer_length : Sized a.policy → length (answer_bytes a) ≡ 962
  answer_length z = length-append (picture_of a.policy) (numbers a) ∙ rw (picture_length a.policy z)

  -- The answer, over the first bytes of a buffer.
  answer_stored : (buffer : Bytes) → 962 ≤ length buffer
      → picture_of a.policy ++ set (set (drop 960 buffer) 0 (code_of a.verdict)) 1 (cited_of a.verdict) ≡ answer_bytes a ++ drop 962 buffer
  answer_stored buffer h =
      let room : 2 ≤ length (drop 960 buffer) = omega (arith, length-drop 960 buffer) in
      ap (λ (l : Bytes). picture_of a.policy ++ l)
      (two_set (drop 960 buffer) (code_of a.verdict) (cited_of a.verdict) room ∙ ap (λ (l : Bytes). numbers a ++ l) (drop-drop 2 960 buffer))
      ∙ sym (append_assoc (picture_of a.policy) (numbers a) (drop 962 buffer))

module _ (picture bytes buffer : Bytes) where
  judged_not : fitting picture buffer ≡ false → Judged picture bytes buffer buffer 0
  judged_not e = record { written = rw e; count = rw e }

  -- A picture of another length.
  pub not_a_picture : (length picture ≡ 960 → ⊥) → Judged picture bytes buffer buffer 0
  not_a_picture n = judged_not (rw (ne_eqb (length picture) 960 n))

  -- A buffer with 960 bytes that has less than two behind them.
  pub no_room : {front behind : Bytes} → length picture ≡ 960 → Halves buffer front behind → length behind < 2
      → Judged picture bytes buffer (front ++ behind) 0
  no_room e s h =
      let short = lt-leb 962 (length buffer) (omega (arith, s.2)) in
      rw (← whole buffer s) (judged_not (rw (eq-eqb (length picture) 960 e, short)))

  -- The picture after, with the code and what is cited behind it.
  pub judged : {front₀ front behind : Bytes} (p : Policy) (a : Answer) (code cited : ℕ) → (length picture ≡ 960) × (p ≡ policy_of picture)
      → a ≡ judge p bytes → front ≡ picture_of a.policy → Halves buffer front₀ behind → 2 ≤ length behind
      → code ≡ code_of a.verdict → cited ≡ cited_of a.verdict
      → Judged picture bytes buffer (front ++ set (set behind 0 code) 1 cited) 962
  judged p a code cited is j drawn s low f g =
      let h : 962 ≤ length buffer = omega (arith, s.2) in
      let fits : fitting picture buffer ≡ true = rw (eq-eqb (length picture) 960 is.0, le-leb 962 (length buffer) h) in
      record { written = rw (fits, drawn, s.1, f, g, j, is.1) (answer_stored (judge (policy_of picture) bytes) buffer h); count = rw fits }
