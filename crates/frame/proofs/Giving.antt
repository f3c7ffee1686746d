-- What a reader gives, step after step, is what it had left: the records from its position on, and the mark of a torn place behind them.
use Rattle.std.specs.Prelude.{⊤, Option, Some, None, Result, Ok, Err, option_map, is_err}
use Rattle.std.specs.List.{list_any}
use Rattle.std.specs.Iterator.{YieldsFirstBy, MakesProgress, item_count}
use Rattle.std.specs.Borrow.{Bor}
use mathlib.Core.Path.{◌≡◌, refl, sym, ap, ap₂, ◌∙◌}
use mathlib.Core.Bool.{Bool, true, false, cond}
use mathlib.Core.List.{List, [], ◌∷◌, ◌++◌, map}
use Prim.Native.Nat.{ℕ, ◌+◌, ◌≤◌, zero-le}
use native.Mathlib.Omega.{arith}
use lib.ListN.{length, take, length-append, length-map}
use Rattle.frame.specs.declared.Torn as mark
use Rattle.frame.specs.declared.Reader.{Reader}
use Rattle.frame.specs.Reading.{Step, Record, Torn, End, step_at, record_bytes, records_from, torn_from, steps_of, Item, item, marked}
use Rattle.frame.specs.Reading.{items_from, left, found, step_told, place_after, bytes_after, Finds, Goes}
use Rattle.std.proofs.lemmas.List.{length-take}
use Rattle.std.proofs.lemmas.Iterator.{YieldsList}
use Rattle.std.proofs.lemmas.Iterator.Consumers.{YieldsList-from_shown}
use Rattle.frame.proofs.Steps.{Found, step_record, record_length, end_step}
use Rattle.frame.proofs.Records.{records_few, records_of_record, torn_of_record, records_of_torn, torn_of_torn, records_of_end, torn_of_end}

module _ (b : List ℕ) (at : ℕ) where
  pub items_of_record : (start len next : ℕ) → step_at b at ≡ Record start len next
      → items_from b at ≡ Ok (record_bytes b start len) ∷ items_from b next
  unfolding items_from
  items_of_record start len next e = rw (records_of_record b at start len next e, torn_of_record b at start len next e)

  pub items_of_torn : step_at b at ≡ Torn → items_from b at ≡ Err (record {}) ∷ []
  unfolding items_from
  items_of_torn e = rw (records_of_torn b at e, torn_of_torn b at e)

  pub items_of_end : step_at b at ≡ End → items_from b at ≡ []
  unfolding items_from
  items_of_end e = rw (records_of_end b at e, torn_of_end b at e)

-- What is given at a position tells the step there: so what stands there is found by it.
module _ (b : List ℕ) (at : ℕ) where
  told_found : (s : Step) → step_at b at ≡ s → step_told at (found b s) ≡ s
  told_found (Record start len next) e =
      let f : Found b at start len next = step_record b at start len next e in
      let l : length (record_bytes b start len) ≡ len = record_length b at start len next e in
      let n : at + len ≡ next = omega (arith, f.starts, f.ends) in
      rw (l, n, f.starts)
  told_found Torn e = refl
  told_found End e = refl

  pub finds : (given : Option (Result (Bor (List ℕ)) mark.Torn)) (s : Step) → step_at b at ≡ s → option_map item given ≡ found b s
      → Finds b at given
  finds given s e g = record { gives = rw e g; step = rw e (ap (step_told at) g ∙ told_found s e) }

-- What is found there, by the form that it has.
pub told : {b : List ℕ} {at : ℕ} {given i : Option (Result (Bor (List ℕ)) mark.Torn)} → Finds b at given → given ≡ i
    → step_at b at ≡ step_told at (option_map item i)
told {at = at} f is = sym f.step ∙ ap (λ o. step_told at (option_map item o)) is

-- So reading goes on by that form.
pub after_told : {b : List ℕ} {at : ℕ} {given i : Option (Result (Bor (List ℕ)) mark.Torn)} → Finds b at given → given ≡ i
    → place_after at (step_at b at) ≡ place_after at (step_told at (option_map item i))
after_told {at = at} f is = ap (place_after at) (told f is)

-- A step gives the first item of those left, and leaves the others.
module _ (r r' : Reader) where
  gives_at : (given : Option (Result (Bor (List ℕ)) mark.Torn)) (s : Step) → step_at r.bytes.now r.at ≡ s
      → option_map item given ≡ found r.bytes.now s → r'.at ≡ place_after r.at s
      → r'.bytes.now ≡ bytes_after r.bytes.now r.at s → YieldsFirstBy item left r given r'
  gives_at None (Record start len next) e g p b = cc
  gives_at None Torn e g p b = cc
  gives_at None End e g p b =
      let none : left r ≡ [] = items_of_end _ _ e in
      (none, ap₂ items_from b p ∙ none)
  gives_at (Some x) (Record start len next) e g p b =
      let first : left r ≡ Ok (record_bytes r.bytes.now start len) ∷ items_from r.bytes.now next = items_of_record _ _ start len next e in
      let rest : left r' ≡ items_from r.bytes.now next = ap₂ items_from b p in
      cc
  gives_at (Some x) Torn e g p b =
      let first : left r ≡ Err (record {}) ∷ [] = items_of_torn _ _ e in
      let short : length (take r.at r.bytes.now) ≤ r.at = simp length-take (omega arith) in
      let rest : left r' ≡ [] = ap₂ items_from b p ∙ items_of_end _ _ (end_step _ _ short) in
      cc
  gives_at (Some x) End e g p b = cc

  -- So a step that gives what stands at the position, and goes on, is one of the reader's.
  pub goes : (given : Option (Result (Bor (List ℕ)) mark.Torn)) (s : Step) → step_at r.bytes.now r.at ≡ s
      → option_map item given ≡ found r.bytes.now s → r'.at ≡ place_after r.at s
      → r'.bytes.now ≡ bytes_after r.bytes.now r.at s → Goes r given r'
  goes given s e g p b = record {
    first = gives_at given s e g p b;
    gives = rw e g;
    place = rw e p;
    bytes = rw e b;
  }

  -- Each item lowers what is left.
  pub goes_down : (x : Result (Bor (List ℕ)) mark.Torn) (s : Step) → step_at r.bytes.now r.at ≡ s
      → option_map item (Some x) ≡ found r.bytes.now s → r'.at ≡ place_after r.at s
      → r'.bytes.now ≡ bytes_after r.bytes.now r.at s → MakesProgress (λ _. ⊤) (item_count left) r (Some x) r'
  goes_down x s e g p b =
      let first : left r ≡ item x ∷ left r' = gives_at (Some x) s e g p b in
      record { on = λ _. (tt, tt, omega (arith, ap length first)); keeps = tt; rests = λ _. tt }

  -- So is one that gives what is found at the position, and goes on by the step that this tells.
  module _ {given i : Option (Result (Bor (List ℕ)) mark.Torn)} (f : Finds r.bytes.now r.at given) (is : given ≡ i)
      (p : r'.at ≡ place_after r.at (step_told r.at (option_map item i)))
      (b : r'.bytes.now ≡ bytes_after r.bytes.now r.at (step_told r.at (option_map item i))) where
    pub goes_found : Goes r given r'
    goes_found = goes given _ (told f is) (rw (told f is) at f.gives) p b

    pub goes_found_down : {x : Result (Bor (List ℕ)) mark.Torn} → i ≡ Some x → MakesProgress (λ _. ⊤) (item_count left) r given r'
    goes_found_down {x} e =
        let gives : option_map item (Some x) ≡ found r.bytes.now (step_told r.at (option_map item i)) =
        ap (option_map item) (sym (is ∙ e)) ∙ rw (told f is) at f.gives
        in
        rw (is, e) (goes_down x _ (told f is) gives p b)

-- There are as many items as steps: no more than bytes.
pub steps_items : (b : List ℕ) → length (items_from b 0) ≡ steps_of b
unfolding items_from
steps_items b = go (torn_from b 0)
  where
    go : (t : Bool) → length (map (λ (r : List ℕ). Ok r) (records_from b 0) ++ marked t) ≡ length (records_from b 0) + cond t 1 0
    go true = simp (length-append, length-map)
    go false = simp (length-append, length-map)

pub steps_few : (b : List ℕ) → steps_of b ≤ length b
steps_few b = omega (arith, records_few b 0 zero-le)

-- A mark is among what is given just where the bytes are torn.
pub is_mark : (x : Result (Bor (List ℕ)) mark.Torn) → is_err (item x) ≡ is_err x
is_mark (Ok bytes) = refl
is_mark (Err m) = refl

pub marks_torn : (b : List ℕ) (at : ℕ) → list_any is_err (items_from b at) ≡ torn_from b at
unfolding items_from
marks_torn b at = go (records_from b at) (torn_from b at)
  where
    go : (records : List (List ℕ)) (t : Bool) → list_any is_err (map (λ (r : List ℕ). Ok r) records ++ marked t) ≡ t
    go [] true = refl
    go [] false = refl
    go (r ∷ rest) t = go rest t

-- A reader gives all that it has left, in its order.
pub given_left : (r : Reader) → YieldsList Goes item r (left r)
given_left r = YieldsList-from_shown Goes item left (λ s t g. ap length g.first.0) (λ s x t g. g.first) r

-- ---- A loop over what a reader gives

-- What is to come: the records, and behind them, if the bytes are torn there, the mark.
pub record Coming (items : List Item) (records : List (List ℕ)) (torn : Bool) : Type 0 where
  pub are : items ≡ map (λ (r : List ℕ). Ok r) records ++ marked torn

-- At a position those from there on.
pub coming_from : (b : List ℕ) (at : ℕ) → Coming (items_from b at) (records_from b at) (torn_from b at)
unfolding items_from
coming_from b at = record { are = refl }

-- A record is the first of those to come.
pub record First (r : List ℕ) (items : List Item) (records : List (List ℕ)) (torn : Bool) : Type 0 where
  pub others : List (List ℕ)
  pub is_first : records ≡ r ∷ others
  pub coming : Coming items others torn

pub coming_record : {r : List ℕ} {all items : List Item} {records : List (List ℕ)} {torn : Bool} → Coming all records torn
    → all ≡ Ok r ∷ items → First r items records torn
coming_record {r} {all} {items} {records} {torn} c e = go records torn (sym e ∙ c.are)
  where
    go : (records : List (List ℕ)) (torn : Bool) → Ok r ∷ items ≡ map (λ (r : List ℕ). Ok r) records ++ marked torn
        → First r items records torn
    go [] true h = cc
    go [] false h = cc
    go (x ∷ rest) torn h = record { others = rest; is_first = cc; coming = record { are = cc } }

-- A mark comes where no record is left, and is the last.
pub record Last (items : List Item) (records : List (List ℕ)) (torn : Bool) : Type 0 where
  pub none : records ≡ []
  pub is_torn : torn ≡ true
  pub coming : Coming items [] false

pub coming_torn : {m : mark.Torn} {all items : List Item} {records : List (List ℕ)} {torn : Bool} → Coming all records torn
    → all ≡ Err m ∷ items → Last items records torn
coming_torn {m} {all} {items} {records} {torn} c e = go records torn (sym e ∙ c.are)
  where
    go : (records : List (List ℕ)) (torn : Bool) → Err m ∷ items ≡ map (λ (r : List ℕ). Ok r) records ++ marked torn
        → Last items records torn
    go [] true h = record { none = refl; is_torn = refl; coming = record { are = cc } }
    go [] false h = cc
    go (x ∷ rest) torn h = cc

-- At the end nothing is to come.
pub coming_none : {all : List Item} {records : List (List ℕ)} {torn : Bool} → Coming all records torn → all ≡ []
    → (records ≡ []) × (torn ≡ false)
coming_none {all} {records} {torn} c e = go records torn (sym e ∙ c.are)
  where
    go : (records : List (List ℕ)) (torn : Bool) → [] ≡ map (λ (r : List ℕ). Ok r) records ++ marked torn
        → (records ≡ []) × (torn ≡ false)
    go [] true h = cc
    go [] false h = (refl, refl)
    go (x ∷ rest) torn h = cc
