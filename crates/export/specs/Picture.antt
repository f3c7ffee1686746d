-- The 960-byte picture of a policy, as C and Rust hand it in and get it back: 64 sort bytes; 64 rows of 8 bytes,
-- little-endian, row x the set of the groups that x is directly in, bit g group g; 32 appointments of 4 bytes (kind,
-- holder, A, B); 64 rules of 4 bytes (mark: 1 in use, else empty; U; T; operations). The definitions quote these words.
-- Every policy that the program can hold is the policy of its picture (proofs/Faithful, `policy_of_picture`).
use Rattle.std.specs.Prelude.{◌≡◌, Bool, ◌&&◌, List, [], ◌∷◌, ◌++◌, ℕ, zero, suc, ◌+◌, ◌*◌, ◌/◌, ◌%◌, eqb, leb, length, drop}
use Rattle.reach.specs.declared.Policy.{Policy}
use Rattle.reach.specs.declared.Appointment.{Appointment}
use Rattle.reach.specs.declared.AccessRule.{AccessRule}
use Rattle.reach.specs.Tests.{◌⇒◌∥◌}
use Rattle.frame.specs.Fields.{byte}
use Rattle.rules.specs.declared.Answer.{Answer}
use Rattle.rules.specs.Judging.{code_of, cited_of, judge}
use Rattle.text.specs.Text.{Bytes}

-- ---- The policy of a picture

-- A table of n places, each by its number.
unfoldable pub table : {A : Type 0} → ℕ → (ℕ → A) → List A
table zero f = []
table (suc n) f = table n f ++ (f n ∷ [])

-- "little-endian": the number of the k bytes that stand from a place on, the lowest byte first.
unfoldable pub number_from : ℕ → Bytes → ℕ → ℕ
number_from zero b at = 0
number_from (suc k) b at = byte b at + 256 * number_from k b (suc at)

-- "4 bytes (kind, holder, A, B)"
abbrev pub appointment_from : Bytes → ℕ → Appointment
appointment_from b at = record { kind = byte b at; holder = byte b (at + 1); a = byte b (at + 2); b = byte b (at + 3) }

-- "4 bytes (mark: 1 in use, else empty; U; T; operations)"
abbrev pub rule_from : Bytes → ℕ → AccessRule
rule_from b at =
    record { used = eqb (byte b at) 1; users = byte b (at + 1); targets = byte b (at + 2); operations = byte b (at + 3) }

-- "64 sort bytes"
abbrev pub sort_at : Bytes → ℕ → ℕ
sort_at b x = byte b x

-- "64 rows of 8 bytes, little-endian, row x the set of the groups that x is directly in, bit g group g"
abbrev pub row_at : Bytes → ℕ → ℕ
row_at b x = number_from 8 b (64 + 8 * x)

-- "32 appointments of 4 bytes"
abbrev pub appointment_at : Bytes → ℕ → Appointment
appointment_at b i = appointment_from b (576 + 4 * i)

-- "64 rules of 4 bytes"
abbrev pub rule_at : Bytes → ℕ → AccessRule
rule_at b i = rule_from b (704 + 4 * i)

-- The policy of a picture. A byte past the end of the bytes reads as 0, so all bytes have one.
unfoldable pub policy_of : Bytes → Policy
policy_of b =
    record {
      sorts = table 64 (sort_at b);
      memberships = table 64 (row_at b);
      appointments = table 32 (appointment_at b);
      rules = table 64 (rule_at b);
    }

-- ---- The picture of a policy

-- The bytes of a table: those of each place, one after the other.
unfoldable pub flat : {A : Type 0} → (A → Bytes) → List A → Bytes
flat f [] = []
flat f (x ∷ xs) = f x ++ flat f xs

-- "little-endian": the k bytes of a number, the lowest first.
unfoldable pub bytes_of : ℕ → ℕ → Bytes
bytes_of zero w = []
bytes_of (suc k) w = (w % 256) ∷ bytes_of k (w / 256)

-- "8 bytes, little-endian"
abbrev pub row_bytes : ℕ → Bytes
row_bytes w = bytes_of 8 w

-- "4 bytes (kind, holder, A, B)"
abbrev pub appointment_bytes : Appointment → Bytes
appointment_bytes w = w.kind ∷ w.holder ∷ w.a ∷ w.b ∷ []

-- The mark is written 1 or 0: one that was read as neither, an empty place, comes back as 0. It is the one byte of which a picture says
-- more than its policy.
abbrev pub mark : Bool → ℕ
mark used = used ⇒ 1 ∥ 0

-- "4 bytes (mark ..; U; T; operations)"
abbrev pub rule_bytes : AccessRule → Bytes
rule_bytes r = mark r.used ∷ r.users ∷ r.targets ∷ r.operations ∷ []

-- The picture of a policy: "64 sort bytes; 64 rows of 8 bytes, ..; 32 appointments of 4 bytes ..; 64 rules of 4 bytes".
unfoldable pub picture_of : Policy → Bytes
picture_of p = p.sorts ++ flat row_bytes p.memberships ++ flat appointment_bytes p.appointments ++ flat rule_bytes p.rules

-- ---- The answer

-- The policy after in the same picture, then the code, then the cited rule: 962 bytes.
abbrev pub answer_bytes : Answer → Bytes
answer_bytes a = picture_of a.policy ++ (code_of a.verdict ∷ cited_of a.verdict ∷ [])

-- Whether the picture has its 960 bytes and the buffer room for the answer.
abbrev pub fitting : Bytes → Bytes → Bool
fitting picture buffer = eqb (length picture) 960 && leb 962 (length buffer)

-- The buffer after the answer to a record, and the result. Bytes of the buffer past 962 stay as they were. Where the picture
-- isn't 960 bytes or the buffer is shorter than 962, nothing is written, and the result is 0.
pub record Judged (picture bytes buffer buffer' : Bytes) (n : ℕ) : Type 0 where
  pub written : buffer' ≡ (fitting picture buffer ⇒ answer_bytes (judge (policy_of picture) bytes) ++ drop 962 buffer ∥ buffer)
  pub count : n ≡ (fitting picture buffer ⇒ 962 ∥ 0)
