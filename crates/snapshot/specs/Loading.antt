-- How the reader goes, for the contracts of its parts: every place has a number in the order of the file, and a record whose number does not
-- rise is damage. What it answers is said in Answers, with no word of this.
use Rattle.std.specs.Prelude.{Bool, false, ◌&&◌, ℕ, zero, suc, ◌+◌, ◌-◌, ◌*◌, ◌/◌, ◌%◌, eqb, leb, ltb, length, set, drop, replicate, Option, Some, None, Result, Ok, Err}
use Rattle.frame.specs.Fields.{byte, length_field, kind_field}
use Rattle.reach.specs.declared.Policy.{Policy}
use Rattle.reach.specs.Tests.{◌⇒◌∥◌}
use Rattle.reach.specs.Tables.{View, no_appointment, no_rule}
use Rattle.reach.specs.Successors.{with_sorts, put, appointed, granted}
use Rattle.text.specs.Text.{Bytes}
use Rattle.snapshot.specs.declared.Entry.{Entry}
use Rattle.snapshot.specs.declared.Entry.TheVariants.{Object, Membership, Appointed, Granted}
use Rattle.snapshot.specs.declared.CardError.{CardError}
use Rattle.snapshot.specs.declared.CardError.TheVariants.{Damaged}
use Rattle.snapshot.specs.Card.{known, object_at, membership_at, appointed_at, granted_at}

-- 64 objects, 64 * 64 memberships, 32 appointments, 64 rules.
unfoldable pub places : ℕ
places = 4256

unfoldable pub number_of : Option Entry → ℕ
number_of (Some (Object x s)) = x
number_of (Some (Membership x g)) = 64 + 64 * x + g
number_of (Some (Appointed i k h a b)) = 4160 + i
number_of (Some (Granted i u t o)) = 4192 + i
number_of None = 4256

-- What stands at the place with that number.
unfoldable pub entry : View → ℕ → Option Entry
entry v k =
    ltb k 64 ⇒ object_at v k ∥
    ltb k 4160 ⇒ membership_at v ((k - 64) / 64) ((k - 64) % 64) ∥
    ltb k 4192 ⇒ appointed_at v (k - 4160) ∥
    granted_at v (k - 4192)

abbrev pub size_of : Option Entry → ℕ
size_of (Some (Object x s)) = 6
size_of (Some (Membership x g)) = 6
size_of (Some (Appointed i k h a b)) = 9
size_of (Some (Granted i u t o)) = 8
size_of None = 0

-- The bytes begin with a whole record of n bytes and of kind k.
abbrev pub headed : Bytes → ℕ → ℕ → Bool
headed b n k = eqb (length_field b) n && eqb (kind_field b) k && leb n (length b)

-- The record at the front of the bytes; None where none of the four kinds stands there.
unfoldable pub front : Bytes → Option Entry
front b =
    headed b 6 16 ⇒ Some (Object (byte b 4) (byte b 5)) ∥
    headed b 6 17 ⇒ Some (Membership (byte b 4) (byte b 5)) ∥
    headed b 9 18 ⇒ Some (Appointed (byte b 4) (byte b 5) (byte b 6) (byte b 7) (byte b 8)) ∥
    headed b 8 19 ⇒ Some (Granted (byte b 4) (byte b 5) (byte b 6) (byte b 7)) ∥
    None

-- It has a place in the tables, and is in use there.
abbrev pub valid : Option Entry → Bool
valid (Some (Object x s)) = ltb x 64 && known s
valid (Some (Membership x g)) = ltb x 64 && ltb g 64
valid (Some (Appointed i k h a b)) = ltb i 32 && known k
valid (Some (Granted i u t o)) = ltb i 64
valid None = false

-- The policy with the record in its place.
abbrev pub store : Policy → Option Entry → Policy
store p (Some (Object x s)) = with_sorts p (set p.sorts x s)
store p (Some (Membership x g)) = put p x g
store p (Some (Appointed i k h a b)) = appointed p i (record { kind = k; holder = h; a = a; b = b })
store p (Some (Granted i u t o)) = granted p i u t o
store p None = p

-- The policy with nothing in it.
unfoldable pub blank : Policy
blank =
    record {
      sorts = replicate 64 0;
      memberships = replicate 64 0;
      appointments = replicate 32 no_appointment;
      rules = replicate 64 no_rule;
    }

-- The records of the bytes, stored in p one after the other; the next has number n or a higher one, and there are at most l.
unfoldable pub load : ℕ → Policy → ℕ → Bytes → Result Policy CardError
load zero p n b = eqb (length b) 0 ⇒ Ok p ∥ Err Damaged
load (suc l) p n b =
    eqb (length b) 0 ⇒ Ok p ∥
    valid (front b) && leb n (number_of (front b)) ⇒
    load l (store p (front b)) (suc (number_of (front b))) (drop (size_of (front b)) b) ∥
    Err Damaged
