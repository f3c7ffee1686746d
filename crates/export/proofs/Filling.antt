-- What `selkaum_run` leaves in the three buffers, from what the run of the list leaves in two of them: the list ran exactly if there was
-- room for it, and the picture of the policy after it is 960 bytes.
use Rattle.std.specs.Prelude.{Option, Some, None}
use mathlib.Core.Path.{◌≡◌, refl, sym, ◌∙◌}
use mathlib.Core.Bool.{Bool, true, false}
use mathlib.Core.List.{List, ◌++◌}
use Prim.Native.Nat.{◌≤◌, ◌<◌}
use lib.Dec.{leb}
use lib.ListN.{length, drop}
use borrow.Author.Tests.{le-leb, lt-leb}
use Rattle.reach.specs.declared.Policy.{Policy}
use Rattle.reach.specs.Tests.{◌⇒◌∥◌}
use Rattle.reach.specs.Tables.{initial}
use Rattle.reach.proofs.Sizes.{sized_initial}
use Rattle.text.specs.Text.{Bytes}
use Rattle.list.specs.Runs.{run}
use Rattle.list.specs.Filling.{room, RunInto}
use Rattle.list.proofs.Positions.{run_sized}
use Rattle.export.specs.Picture.{picture_of}
use Rattle.export.specs.Listed.{Listed}
use Rattle.export.proofs.Picturing.{picture_length}

-- There is a policy after the list exactly if there was room.
no_room : (fits : Bool) (p : Policy) → None ≡ (fits ⇒ Some p ∥ None) → fits ≡ false
no_room true p e = cc
no_room false p e = refl

had_room : (fits : Bool) (p : Policy) {q : Policy} → Some q ≡ (fits ⇒ Some p ∥ None) → (fits ≡ true) × (q ≡ p)
had_room true p e = (refl, cc)
had_room false p e = cc

module _ (list : List Bytes) (codes cited policy : Bytes) where
  long : 960 ≤ length policy → leb 960 (length policy) ≡ true
  long h = le-leb 960 (length policy) h

  -- No room for a picture.
  pub no_picture : length policy < 960 → Listed list codes cited policy codes cited policy 0
  no_picture h =
      let short = lt-leb 960 (length policy) h in
      record { codes_written = rw short; cited_written = rw short; policy_written = rw short; count = rw short }

  module _ (h : 960 ≤ length policy) {codes' cited' : Bytes} where
    -- No room for the codes, or for the cited rules.
    pub not_run : {policy' : Bytes} {r : Option Policy} → r ≡ None → RunInto initial list codes cited codes' cited' r → policy' ≡ policy
        → Listed list codes cited policy codes' cited' policy' 0
    not_run e s same =
        let none : room list codes cited ≡ false = no_room _ _ (sym e ∙ s.outcome) in
        record {
          codes_written = rw (long h) s.codes_written;
          cited_written = rw (long h) s.cited_written;
          policy_written = rw (long h, none, same);
          count = rw (long h, none);
        }

    -- Room for all.
    pub has_run : {picture : Bytes} {q : Policy} {r : Option Policy} → r ≡ Some q → RunInto initial list codes cited codes' cited' r
        → picture ≡ picture_of q
        → Listed list codes cited policy codes' cited' (picture ++ drop 960 policy) 960
    has_run {q = q} e s d =
        let ran = had_room (room list codes cited) (run initial list) (sym e ∙ s.outcome) in
        let all : room list codes cited ≡ true = ran.0 in
        let last : q ≡ run initial list = ran.1 in
        let whole : length (picture_of (run initial list)) ≡ 960 =
        picture_length (run initial list) (run_sized initial list sized_initial) in
        record {
          codes_written = rw (long h) s.codes_written;
          cited_written = rw (long h) s.cited_written;
          policy_written = rw (long h, all, d, last, whole);
          count = rw (long h, all);
        }
