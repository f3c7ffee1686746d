-- What the loop of `run_from` keeps: the requests so far have their answers in the buffers, and those to come are run from the current
-- policy. Each turn moves one request over; at the end none is to come.
use Rattle.std.specs.Prelude.{Option, Some, None}
use mathlib.Core.Path.{◌≡◌, refl, sym, ap, ◌∙◌}
use mathlib.Core.Bool.{Bool, true, false, ◌&&◌}
use mathlib.Core.List.{List, [], ◌∷◌, ◌++◌, append_assoc, append-nil, map-append}
use Prim.Native.Nat.{ℕ, suc, ◌+◌, ◌≤◌, ◌<◌, zero-le}
use native.Mathlib.Numerals.{add-one}
use native.Mathlib.Omega.{arith}
use lib.Dec.{leb}
use lib.ListN.{length, drop, set, get_or, length-append, length-map, length-drop, drop_of_length-le}
use lib.Seq.{drop-cons, set-append_seam}
use borrow.Author.Tests.{le-leb, lt-leb}
use Rattle.reach.specs.declared.Policy.{Policy}
use Rattle.reach.specs.Tests.{◌⇒◌∥◌}
use Rattle.rules.specs.Judging.{judge, numbers_of, answers}
use Rattle.rules.proofs.Table.{answers_none, answers_next}
use Rattle.text.specs.Text.{Bytes}
use Rattle.list.specs.Runs.{run}
use Rattle.list.specs.Parts.{part, parts, handed}
use Rattle.list.specs.Filling.{codes_of, cites_of, over, room, RunInto}
use Rattle.list.proofs.Handed.{parts_length}

-- ---- Buffers

-- One byte more over the first ones.
over_next : (bytes buffer : Bytes) (byte : ℕ) → length bytes < length buffer
    → set (over bytes buffer) (length bytes) byte ≡ over (bytes ++ (byte ∷ [])) buffer
over_next bytes buffer byte low =
    ap (λ (l : Bytes). set (bytes ++ l) (length bytes) byte) (drop-cons buffer (length bytes) 0 low)
    ∙ set-append_seam bytes (get_or buffer (length bytes) 0) (drop (suc (length bytes)) buffer) byte
    ∙ simp (append_assoc, length-append, add-one)

-- The same of the buffer that the loop fills.
filled_next : {buffer : Bytes} (bytes buffer₀ : Bytes) (byte : ℕ) {i : ℕ} → buffer ≡ over bytes buffer₀ → length bytes ≡ i
    → i < length buffer₀ → set buffer i byte ≡ over (bytes ++ (byte ∷ [])) buffer₀
filled_next bytes buffer₀ byte e count low = rw (e, sym count) (over_next bytes buffer₀ byte (omega arith))

-- A buffer keeps its length.
over_length : (bytes buffer : Bytes) → length bytes ≤ length buffer → length (over bytes buffer) ≡ length buffer
over_length bytes buffer low = simp (length-append, length-drop) (omega arith)

-- ---- The loop

module _ (b ends codes₀ cited₀ : Bytes) (first : Policy) where
  pub record Running (codes cited : Bytes) (p : Policy) (start i : ℕ) : Type 0 where
    pub within : i ≤ length ends
    pub codes_room : length ends ≤ length codes₀
    pub cited_room : length ends ≤ length cited₀
    pub so_far : List (ℕ × ℕ)
    pub count : length so_far ≡ i
    pub codes_filled : codes ≡ over (codes_of so_far) codes₀
    pub cited_filled : cited ≡ over (cites_of so_far) cited₀
    pub policy_to_come : run p (parts b start (drop i ends)) ≡ run first (handed b ends)
    pub answers_to_come : so_far ++ answers p (parts b start (drop i ends)) ≡ answers first (handed b ends)

  pub running_start : length ends ≤ length codes₀ → length ends ≤ length cited₀ → Running codes₀ cited₀ first 0 0
  running_start h k = record {
    within = zero-le;
    codes_room = h;
    cited_room = k;
    so_far = [];
    count = refl;
    codes_filled = refl;
    cited_filled = refl;
    policy_to_come = refl;
    answers_to_come = refl;
  }

  -- The buffers keep their lengths.
  pub running_codes : {codes cited : Bytes} {p : Policy} {start i : ℕ} → Running codes cited p start i → length codes ≡ length codes₀
  running_codes s =
      ap length s.codes_filled
      ∙ over_length (codes_of s.so_far) codes₀
      (omega (arith, length-map s.so_far (λ (w : ℕ × ℕ). w.0), s.count, s.within, s.codes_room))

  pub running_cited : {codes cited : Bytes} {p : Policy} {start i : ℕ} → Running codes cited p start i → length cited ≡ length cited₀
  running_cited s =
      ap length s.cited_filled
      ∙ over_length (cites_of s.so_far) cited₀
      (omega (arith, length-map s.so_far (λ (w : ℕ × ℕ). w.1), s.count, s.within, s.cited_room))

  pub running_end : {codes cited : Bytes} {p : Policy} {start i : ℕ} → Running codes cited p start i → length ends ≤ i
      → RunInto first (handed b ends) codes₀ cited₀ codes cited (Some p)
  unfolding parts run
  running_end {codes} {cited} {p} {start} {i} s h =
      let none : drop i ends ≡ [] = drop_of_length-le ends h in
      let last : p ≡ run first (handed b ends) = ap (λ (l : Bytes). run p (parts b start l)) (sym none) ∙ s.policy_to_come in
      let all : s.so_far ≡ answers first (handed b ends) =
      sym (append-nil s.so_far)
      ∙ ap (λ (l : List (ℕ × ℕ)). s.so_far ++ l) (sym (answers_none p))
      ∙ ap (λ (l : Bytes). s.so_far ++ answers p (parts b start l)) (sym none)
      ∙ s.answers_to_come in
      let fits : room (handed b ends) codes₀ cited₀ ≡ true =
      rw (
        parts_length b 0 ends,
        le-leb (length ends) (length codes₀) s.codes_room,
        le-leb (length ends) (length cited₀) s.cited_room,
      ) in
      record {
        outcome = rw (fits, sym last);
        codes_written = rw (fits, sym all, s.codes_filled);
        cited_written = rw (fits, sym all, s.cited_filled);
      }

  module _ {codes cited : Bytes} {p : Policy} {start i : ℕ} (s : Running codes cited p start i) (low : i < length ends) where
    -- A request has its answer a, and the next one is judged on the policy of the answer.
    pub running_step : {p' : Policy} {start' i' : ℕ} {r : Bytes} {a : ℕ × ℕ} → r ≡ part b start (get_or ends i 0)
        → a ≡ numbers_of (judge p r).verdict → p' ≡ (judge p r).policy
        → start' ≡ get_or ends i 0 → i' ≡ i + 1
        → Running (set codes i a.0) (set cited i a.1) p' start' i'
    unfolding parts run
    running_step {a = a} e f h k next =
        let to_come : parts b start (drop i ends) ≡ part b start (get_or ends i 0) ∷ parts b (get_or ends i 0) (drop (suc i) ends) =
        ap (parts b start) (drop-cons ends i 0 low) in
        record {
          within = omega (arith, next);
          codes_room = s.codes_room;
          cited_room = s.cited_room;
          so_far = s.so_far ++ (a ∷ []);
          count = simp (length-append, s.count, next);
          codes_filled =
              filled_next (codes_of s.so_far) codes₀ a.0 s.codes_filled (length-map s.so_far _ ∙ s.count)
              (omega (arith, s.codes_room))
              ∙ ap (λ (l : Bytes). over l codes₀) (sym (map-append _ s.so_far (a ∷ [])));
          cited_filled =
              filled_next (cites_of s.so_far) cited₀ a.1 s.cited_filled (length-map s.so_far _ ∙ s.count)
              (omega (arith, s.cited_room))
              ∙ ap (λ (l : Bytes). over l cited₀) (sym (map-append _ s.so_far (a ∷ [])));
          policy_to_come = rw (next, add-one, k, h, e) (ap (run p) (sym to_come) ∙ s.policy_to_come);
          answers_to_come =
              rw (next, add-one, k, f, h, e, append_assoc)
              (ap (λ (l : List (ℕ × ℕ)). s.so_far ++ l)
              (sym (answers_next p (part b start (get_or ends i 0)) (parts b (get_or ends i 0) (drop (suc i) ends))))
              ∙ ap (λ (l : List Bytes). s.so_far ++ answers p l) (sym to_come)
              ∙ s.answers_to_come);
        }

-- A run by what it leaves in the two buffers, and by its outcome.
pub run_into : {p : Policy} {list : List Bytes} {codes cited codes' cited' : Bytes} {r : Option Policy}
    → ◌≡◌ {A = Bytes × Bytes} (codes', cited') (
      room list codes cited ⇒ over (codes_of (answers p list)) codes ∥ codes,
      room list codes cited ⇒ over (cites_of (answers p list)) cited ∥ cited,
    )
    → r ≡ (room list codes cited ⇒ Some (run p list) ∥ None)
    → RunInto p list codes cited codes' cited' r
run_into e f = record {
  outcome = f;
  codes_written = ap (λ (w : Bytes × Bytes). w.0) e;
  cited_written = ap (λ (w : Bytes × Bytes). w.1) e;
}

-- A buffer that is too short.
module _ (b ends codes cited : Bytes) (p : Policy) where
  abbrev Refused : Type 0
  Refused = RunInto p (handed b ends) codes cited codes cited None

  no_room : room (handed b ends) codes cited ≡ false → Refused
  no_room e = record { outcome = rw e; codes_written = rw e; cited_written = rw e }

  pub too_few_codes : length codes < length ends → Refused
  too_few_codes h = no_room (rw (parts_length b 0 ends, lt-leb (length ends) (length codes) h))

  pub too_few_cited : length cited < length ends → Refused
  too_few_cited h = no_room (rw (parts_length b 0 ends, lt-leb (length ends) (length cited) h) (go (leb (length ends) (length codes))))
    where
      go : (x : Bool) → (x && false) ≡ false
      go true = refl
      go false = refl
