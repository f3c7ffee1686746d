-- What is written one after the other stands one after the other in the buffer, as far as there is room. A buffer that is not full
-- holds all of its text, so the next byte follows it; a full one changes no more.
use mathlib.Core.Path.{◌≡◌, refl, sym, ap, ap₂, subst, ◌∙◌}
use mathlib.Core.Bool.{Bool, true, false}
use mathlib.Core.List.{[], ◌∷◌, ◌++◌, append_assoc, append-nil}
use Prim.Native.Nat.{ℕ, ◌+◌, ◌-◌, ◌≤◌, ◌<◌, min, zero-le}
use native.Mathlib.Nat.{le_refl}
use native.Mathlib.Numerals.{add-one}
use native.Mathlib.Omega.{arith}
use lib.ListN.{length, take, drop, set, length-set, length-take, length-append, length-drop, take-append-drop, drop_of_length-le}
use lib.Dec.{leb}
use borrow.Author.Tests.{leb-true, leb-false}
use lib.Seq.{take_all, take-nil, take-append-le, take-suc-set, take-append_seam, take-append-add, drop-set-lt, drop-drop, take_at, drop_at}
use Rattle.std.proofs.lemmas.List.{take_min}
use Rattle.text.specs.Text.{Bytes, Holds, Wrote, Printed}

-- As many bytes stand in the buffer as the text has, or as there is room for.
pub held_length : {buffer : Bytes} {n : ℕ} {text : Bytes} → Holds buffer n text → n ≡ min (length buffer) (length text)
held_length h = omega (arith, simp length-take at (ap length h.same))

-- Every buffer holds the empty text.
pub holds_none : (buffer : Bytes) → Holds buffer 0 []
holds_none buffer = record { within = zero-le; same = sym (take-nil (length buffer)) }

-- A buffer with room for the text holds all of it.
pub holds_whole : {buffer : Bytes} {n : ℕ} {text : Bytes}
    → Holds buffer n text
    → length text ≤ length buffer
    → take n buffer ≡ text
holds_whole {buffer} {n} {text} h room = h.same ∙ take_all (length buffer) text room

-- A byte stored at n, inside the buffer, is written there, and the next one goes to the place behind it.
pub wrote_byte : (buffer : Bytes) (n byte r : ℕ) → n < length buffer → r ≡ n + 1 → Wrote buffer n (byte ∷ []) (set buffer n byte) r
wrote_byte buffer n byte r room next = rw next (record {
  length_kept = simp length-set;
  extends = extended;
  onward = omega arith;
  nothing_past = λ past. absurd (omega arith);
  rest_kept = drop-set-lt (n + 1) buffer n byte (omega arith);
})
  where
    extended : (text : Bytes) → Holds buffer n text → Holds (set buffer n byte) (n + 1) (text ++ (byte ∷ []))
    extended text h =
        let whole : take n buffer ≡ text = holds_whole h (omega (arith, held_length h)) in
        let all = take_all (length (set buffer n byte)) (text ++ (byte ∷ [])) in
        record {
          within = simp length-set (omega arith);
          same =
              rw (add-one, take-suc-set buffer n byte, whole)
              (sym (all (simp (length-set, length-append) (omega (arith, held_length h)))));
        }

-- A byte that a full buffer has no room for is cut off.
pub wrote_full : (buffer : Bytes) (n byte : ℕ) → length buffer ≤ n → Wrote buffer n (byte ∷ []) buffer n
wrote_full buffer n byte full = record {
  length_kept = refl;
  extends = extended;
  onward = le_refl n;
  nothing_past = λ past. (refl, refl);
  rest_kept = refl;
}
  where
    extended : (text : Bytes) → Holds buffer n text → Holds buffer n (text ++ (byte ∷ []))
    extended text h = record {
      within = h.within;
      same = h.same ∙ sym (take-append-le (length buffer) text (byte ∷ []) (omega (arith, held_length h)));
    }

-- Nothing written is no change.
pub wrote_none : (buffer : Bytes) (n : ℕ) → Wrote buffer n [] buffer n
wrote_none buffer n = record {
  length_kept = refl;
  extends = λ text h. rw append-nil h;
  onward = le_refl n;
  nothing_past = λ past. (refl, refl);
  rest_kept = refl;
}

-- Equal texts are written alike.
pub wrote_as : {a v w b : Bytes} {n r : ℕ} → v ≡ w → Wrote a n v b r → Wrote a n w b r
wrote_as e p = rw e at p

-- What is the same from m on is the same from a later place on.
drop_further : (b a : Bytes) {m r : ℕ} → drop m b ≡ drop m a → m ≤ r → drop r b ≡ drop r a
drop_further b a {m} {r} same later =
    let e : m + (r - m) ≡ r = omega arith in
    subst (λ (k : ℕ). drop k b ≡ drop k a) e (sym (drop-drop (r - m) m b) ∙ ap (drop (r - m)) same ∙ drop-drop (r - m) m a)

-- Two texts written one after the other are their join, written.
pub wrote_then : {a v b w c : Bytes} {n m r : ℕ} → Wrote a n v b m → Wrote b m w c r → Wrote a n (v ++ w) c r
wrote_then {a} {v} {b} {n = n} {m} {r} p q = record {
  length_kept = q.length_kept ∙ p.length_kept;
  extends = λ text h. rw append_assoc at (q.extends (text ++ v) (p.extends text h));
  onward = omega (arith, p.onward, q.onward);
  nothing_past = λ past.
      let first = p.nothing_past past in
      let second = q.nothing_past (rw (first.0, first.1) past) in
      (second.0 ∙ first.0, second.1 ∙ first.1);
  rest_kept = q.rest_kept ∙ drop_further b a p.rest_kept q.onward;
}

-- As much of a text as there is room for, in the place of so many bytes of the buffer.
module _ (a w : Bytes) (n k : ℕ) (low : n < length a) (many : k ≡ min (length w) (length a - n)) where
  abbrev pub filled : Bytes
  filled = take n a ++ (take k w ++ drop k (drop n a))

  front : length (take n a) ≡ n
  front = simp length-take (omega arith)

  both : length (take n a ++ take k w) ≡ n + k
  both = simp (length-append, length-take) (omega arith)

  filled_length : length filled ≡ length a
  filled_length = simp (length-append, length-take, length-drop) (omega arith)

  -- More of the text than that has no room.
  room_for : take (length a - n) w ≡ take k w
  room_for =
      let e : min (length a - n) (length w) ≡ k = omega arith in
      sym (take_min (length a - n) w) ∙ ap (λ (i : ℕ). take i w) e

  pub wrote_part : Wrote a n w filled (n + k)
  wrote_part = record {
    length_kept = filled_length;
    extends = extended;
    onward = omega arith;
    nothing_past = λ past. absurd (omega arith);
    rest_kept =
        ap (drop (n + k)) (sym (append_assoc (take n a) (take k w) (drop k (drop n a))))
        ∙ drop_at (take n a ++ take k w) (drop k (drop n a)) (n + k) both
        ∙ drop-drop k n a;
  }
    where
      extended : (text : Bytes) → Holds a n text → Holds filled (n + k) (text ++ w)
      extended text h =
          let count : length text ≡ n = omega (arith, held_length h) in
          let whole : take n a ≡ text = holds_whole h (omega arith) in
          let rest : length a ≡ length text + (length a - n) = omega arith in
          record {
            within = rw filled_length (omega arith);
            same =
                ap (take (n + k)) (sym (append_assoc (take n a) (take k w) (drop k (drop n a))))
                ∙ take_at (take n a ++ take k w) (drop k (drop n a)) (n + k) both
                ∙ ap₂ ◌++◌ whole (sym room_for)
                ∙ sym (take-append-add text w (length a - n))
                ∙ ap (λ (m : ℕ). take m (text ++ w)) (sym (filled_length ∙ rest));
          }

-- What is written from the start of the buffer stands there, and the rest is as it was. Either all of the text is there, or the buffer is
-- full and nothing of the rest is left.
pub printed_of_wrote : {a w b : Bytes} {r : ℕ} → Wrote a 0 w b r → Printed a w b r
printed_of_wrote {a} {w} {b} {r} p =
    let held = p.extends [] (holds_none a) in
    let many : r ≡ min (length a) (length w) = subst (λ (k : ℕ). r ≡ min k (length w)) p.length_kept (held_length held) in
    record {
      bytes =
          sym (take-append-drop r b)
          ∙ ap₂ ◌++◌ (held.same ∙ ap (λ (k : ℕ). take k w) p.length_kept) (p.rest_kept ∙ cut a w r many);
      count = many;
    }
  where
    cut : (a w : Bytes) (r : ℕ) → r ≡ min (length a) (length w) → drop r a ≡ drop (length w) a
    cut a w r e = go (leb (length w) (length a)) refl
      where
        go : (fits : Bool) → leb (length w) (length a) ≡ fits → drop r a ≡ drop (length w) a
        go true h = let f : r ≡ length w = omega (arith, leb-true (length w) (length a) h) in rw f
        go false h =
            let f : length a ≤ r = omega (arith, leb-false (length w) (length a) h) in
            drop_of_length-le a f ∙ sym (drop_of_length-le a {i = length w} (omega (arith, leb-false (length w) (length a) h)))

-- A buffer with room for the text has all of it, from its start on.
pub printed_all : {a w b : Bytes} {n : ℕ} → Printed a w b n → length w ≤ length a → take n b ≡ w
printed_all {a} {w} {b} {n} p room =
    let all : take (length a) w ≡ w = take_all (length a) w room in
    let many : n ≡ length w = omega (arith, p.count) in
    rw (p.bytes, all, many) (take-append_seam w (drop (length w) a))

-- The buffer keeps its length, and what is counted lies in it.
pub printed_length : {a w b : Bytes} {n : ℕ} → Printed a w b n → length b ≡ length a
printed_length {a} {w} p = ap length p.bytes ∙ simp (length-append, length-take, length-drop) (omega arith)
