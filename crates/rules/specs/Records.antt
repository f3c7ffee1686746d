-- What a record asks for.
use Rattle.std.specs.Prelude.{List, ℕ, eqb}
use Rattle.frame.specs.Fields.{byte, kind_field}
use Rattle.reach.specs.Tests.{◌⇒◌∥◌}
use Rattle.rules.specs.declared.Request.{Request}
use Rattle.rules.specs.declared.Request.TheVariants.{Make, Put, Take, Appoint, Dismiss, Grant, Withdraw, Use}

-- The table of kinds: [01:records.2] MAKE 8, [01:records.3] PUT 7, [01:records.4] TAKE 7, [01:records.5] APPOINT 10, [01:records.6]
-- DISMISS 6, [01:records.7] GRANT 9, [01:records.8] WITHDRAW 6, [01:records.9] USE 7. The length of a record of each kind; any other number
-- is no kind, and no record has its length:
unfoldable pub length_of : ℕ → ℕ
length_of k =
    eqb k 1 ⇒ 8 ∥
    eqb k 2 ⇒ 7 ∥
    eqb k 3 ⇒ 7 ∥
    eqb k 4 ⇒ 10 ∥
    eqb k 5 ⇒ 6 ∥
    eqb k 6 ⇒ 9 ∥
    eqb k 7 ⇒ 6 ∥
    eqb k 8 ⇒ 7 ∥
    0

-- The first byte after the kind is the sender.
abbrev pub sender : List ℕ → ℕ
sender b = byte b 4

-- What a record of each kind asks for, once it is neither torn, unknown nor a misfit. Any other kind is unknown; what stands for it here
-- names no target and no operation, so that check 5 would refuse it too.
unfoldable pub request : List ℕ → Request
request b =
    eqb (kind_field b) 1 ⇒ Make (byte b 5) (byte b 6) (byte b 7) ∥
    eqb (kind_field b) 2 ⇒ Put (byte b 5) (byte b 6) ∥
    eqb (kind_field b) 3 ⇒ Take (byte b 5) (byte b 6) ∥
    eqb (kind_field b) 4 ⇒ Appoint (byte b 5) (byte b 6) (byte b 7) (byte b 8) (byte b 9) ∥
    eqb (kind_field b) 5 ⇒ Dismiss (byte b 5) ∥
    eqb (kind_field b) 6 ⇒ Grant (byte b 5) (byte b 6) (byte b 7) (byte b 8) ∥
    eqb (kind_field b) 7 ⇒ Withdraw (byte b 5) ∥
    eqb (kind_field b) 8 ⇒ Use (byte b 5) (byte b 6) ∥
    Use 255 255
