-- The card's theorems. What is read is the file of a sound policy and of no other; equal files say the same; and from a policy that was read
-- demand 3 holds. The reader gives each policy's own file back, so two policies with one file agree place by place.
use mathlib.Core.Path.{◌≡◌, refl, sym, ap, ◌∙◌, subst}
use mathlib.Core.Bool.{Bool, true, false}
use mathlib.Core.Logic.{⊎_elim}
use mathlib.Core.List.{List, ◌++◌}
use Prim.Native.Nat.{ℕ, ◌<◌}
use native.Mathlib.Omega.{arith}
use lib.ListN.{length, take, drop}
use lib.Seq.{take-append_seam}
use Rattle.frame.proofs.Steps.{clash}
use Rattle.reach.specs.declared.Policy.{Policy}
use Rattle.reach.specs.Tests.{Decides}
use Rattle.reach.specs.Tables.{View, view, Sized}
use Rattle.reach.proofs.Testing.{refuted}
use Rattle.reach.proofs.Chains.{in_use_below}
use Rattle.text.specs.Text.{Bytes}
use Rattle.list.specs.Demand.{Demand3}
use Rattle.soundness.specs.Soundness.{Sound}
use Rattle.soundness.proofs.Keeping.{sound_demand3}
use Rattle.std.specs.Prelude.{Result, Ok, Err, IfOk}
use Rattle.snapshot.specs.declared.CardError.{CardError}
use Rattle.snapshot.specs.declared.CardError.TheVariants.{Damaged}
use Rattle.snapshot.specs.Card.{file_of, Same}
use Rattle.snapshot.specs.Answers.{Writes, Reads, FileOf, EqualFiles, Returned, WrittenAndRead}
use Rattle.snapshot.specs.Loading.{places, entry, blank, load}
use Rattle.snapshot.proofs.Blank.{Inside}
use Rattle.snapshot.proofs.Taking.{Took, load_took, took_file, taken_or_damage}
use Rattle.snapshot.proofs.Returning.{Back, load_back}
use Rattle.snapshot.proofs.Alike.{same_of_entries, same_file}
use Rattle.snapshot.proofs.SoundAlike.{sound_same}

-- ---- Equal files

sound_inside : (p : Policy) → Sound (view p) → Inside (view p)
sound_inside p s x g e =
    let w = s.memberships x g e in
    (in_use_below p x w.0, in_use_below p g (omega (arith, w.1)))

same_policy : {p q : Policy} → ◌≡◌ {A = Result Policy CardError} (Ok p) (Ok q) → p ≡ q
same_policy e = cc

file_entries : (v w : View) → file_of v ≡ file_of w → (k : ℕ) → k < places → entry v k ≡ entry w k
file_entries v w e k h =
    let a = load_back v in
    let b = load_back w in
    let c : a.read ≡ b.read = same_policy (sym a.is ∙ ap (λ (f : Bytes). load (length f) blank 0 f) e ∙ b.is) in
    sym (a.entries k h) ∙ ap (λ (r : Policy). entry (view r) k) c ∙ b.entries k h

pub same_of_files : (p q : Policy) → Sized p → Sized q → Sound (view p) → Sound (view q) → file_of (view p) ≡ file_of (view q)
    → Same (view p) (view q)
same_of_files p q z y s t e = same_of_entries p q z y (sound_inside p s) (sound_inside q t) (file_entries (view p) (view q) e)

pub files_of_same : (p q : Policy) → Same (view p) (view q) → file_of (view p) ≡ file_of (view q)
files_of_same p q s = same_file (view p) (view q) s

pub equal_files : EqualFiles
equal_files p q z y s t = record { same_if_equal = same_of_files p q z y s t; equal_if_same = files_of_same p q }

-- ---- What is read

-- A sound policy's own file is loaded, and gives a sound policy.
record Given (b : Bytes) (r : Result Policy CardError) : Type 0 where
  read : Policy
  done : r ≡ Ok read
  sound : Sound (view read)

given : (p : Policy) (b : Bytes) → FileOf p b → Given b (load (length b) blank 0 b)
given p b f =
    subst
    (λ (c : Bytes). Given c (load (length c) blank 0 c))
    f.file
    (record {
      read = a.read;
      done = a.is;
      sound =
          sound_same (view p) (view a.read)
          (same_of_entries p a.read f.sized a.sized (sound_inside p f.sound) a.inside (λ k l. sym (a.entries k l)))
          f.sound;
    })
  where
    a : Back (view p) (load (length (file_of (view p))) blank 0 (file_of (view p)))
    a = load_back (view p)

-- What was loaded, and whether it is sound.
module _ {b : Bytes} {p : Policy} (e : Ok p ≡ load (length b) blank 0 b) {t : Bool} (d : Decides t (Sound (view p))) where
  read_took : Took blank 0 b p
  read_took = load_took b p (sym e)

  pub read_unsound : t ≡ false → Reads b (Err Damaged)
  read_unsound q = Reads.damaged none refl
    where
      none : (o : Policy) → FileOf o b → ⊥
      none o f =
          let g = given o b f in
          refuted d q (subst (λ (x : Policy). Sound (view x)) (sym (same_policy (e ∙ g.done))) g.sound)

  pub read_sound : t ≡ true → Reads b (Ok p)
  read_sound q = Reads.taken p refl file read_took.zeroed (λ o h. same_of_files o p h.sized file.sized h.sound file.sound (h.file ∙ sym file.file))
    where
      file : FileOf p b
      file = record { sized = read_took.sized; sound = d.sound q; file = took_file b p read_took }

-- Damage that the loop met: no policy has these bytes, sound or not.
pub read_damaged : {b : Bytes} {x : CardError} → Err x ≡ load (length b) blank 0 b → Reads b (Err x)
read_damaged {b} {x} e = ⊎_elim turned taken (taken_or_damage (length b) blank 0 b)
  where
    never_ok : {A : Type 0} {y : CardError} {p : Policy} → ◌≡◌ {A = Result Policy CardError} (Err y) (Ok p) → A
    never_ok c = clash cc

    turned : load (length b) blank 0 b ≡ Err Damaged → Reads b (Err x)
    turned c = Reads.damaged (λ p f. never_ok (sym c ∙ (given p b f).done)) (e ∙ c)

    taken : (p : Policy) × (load (length b) blank 0 b ≡ Ok p) → Reads b (Err x)
    taken w = never_ok (e ∙ w.1)

-- [02:2.9] "After a read, demand 3 holds for every list from the read sheet too"
pub read_demand3 : {b : Bytes} {r : Result Policy CardError} → Reads b r → IfOk r (λ p. (list : List Bytes) → Demand3 p list)
read_demand3 {b} (Reads.taken p e f z s) = rw e (sound_demand3 p f.sized f.sound)
read_demand3 {b} (Reads.damaged n e) = rw e tt

-- ---- Written and read

pub returned : WrittenAndRead
returned p lent after n r z (Writes.done s room is bytes) reads = by reads
  where
    long : {m k : ℕ} → ◌≡◌ {A = Result ℕ CardError} (Ok m) (Ok k) → k ≡ m
    long e = cc

    file : file_of (view p) ≡ take n after
    file =
        sym (take-append_seam (file_of (view p)) (drop (length (file_of (view p))) lent))
        ∙ ap (λ (k : ℕ). take k (file_of (view p) ++ drop (length (file_of (view p))) lent)) (long is)
        ∙ ap (take n) (sym bytes)

    mine : FileOf p (take n after)
    mine = record { sized = z; sound = s; file = file }

    by : Reads (take n after) r → Returned p r
    by (Reads.taken q c f zeros same) = record { read = q; done = c; same = same p mine }
    by (Reads.damaged none is) = absurd (none p mine)
returned p lent after n r z (Writes.damaged unsound is bytes) reads = clash cc
returned p lent after n r z (Writes.short s few is bytes) reads = clash cc
