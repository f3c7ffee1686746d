-- Document 01's table of kinds from the other side: the record that is written for a request reads back as that request, of that sender,
-- with the kind and the length of the table, for all values of the fields. Kind by kind, by computation.
use mathlib.Core.Path.{◌≡◌, refl, ap}
use mathlib.Core.Bool.{Bool, false}
use mathlib.Core.List.{List, [], ◌∷◌}
use Prim.Native.Nat.{ℕ, zero, suc, ◌≤◌}
use native.Mathlib.Omega.{arith}
use lib.ListN.{length}
use Rattle.frame.specs.Fields.{byte, length_field, kind_field}
use Rattle.rules.specs.declared.Request.{Request}
use Rattle.rules.specs.declared.Request.TheVariants.{Make, Put, Take, Appoint, Dismiss, Grant, Withdraw, Use}
use Rattle.rules.specs.Records.{length_of, sender, request}
use Rattle.rules.specs.Refusals.{torn, unknown, misfit}
use Rattle.rules.specs.Allowing.{WellFormed}
use Rattle.rules.specs.Sample.{MAKE, PUT, TAKE, APPOINT, DISMISS, GRANT, WITHDRAW, USE}

-- The table: number and length of each kind, and the bytes after the sender.
abbrev pub kind_and_length : Request → ℕ × ℕ
kind_and_length (Make i s g) = (1, 8)
kind_and_length (Put x g) = (2, 7)
kind_and_length (Take x g) = (3, 7)
kind_and_length (Appoint i k h a b) = (4, 10)
kind_and_length (Dismiss i) = (5, 6)
kind_and_length (Grant i v t o) = (6, 9)
kind_and_length (Withdraw i) = (7, 6)
kind_and_length (Use x k) = (8, 7)

abbrev pub fields_of : Request → List ℕ
fields_of (Make place sort group) = place ∷ sort ∷ group ∷ []
fields_of (Put object group) = object ∷ group ∷ []
fields_of (Take object group) = object ∷ group ∷ []
fields_of (Appoint place kind holder a b) = place ∷ kind ∷ holder ∷ a ∷ b ∷ []
fields_of (Dismiss place) = place ∷ []
fields_of (Grant place u t operations) = place ∷ u ∷ t ∷ operations ∷ []
fields_of (Withdraw place) = place ∷ []
fields_of (Use gear operation) = gear ∷ operation ∷ []

-- The record by which u asks for q: the length, the kind, the sender, the fields.
abbrev pub encoded : ℕ → Request → List ℕ
encoded u q = (kind_and_length q).1 ∷ 0 ∷ (kind_and_length q).0 ∷ 0 ∷ u ∷ fields_of q

-- All that is read of a record before the policy is looked at.
pub record Read : Type 0 where
  pub asks : Request
  pub by : ℕ
  pub kind : ℕ
  pub field : ℕ
  pub bytes : ℕ
  pub is_torn : Bool
  pub is_unknown : Bool
  pub is_misfit : Bool

abbrev pub read : List ℕ → Read
read b =
    record {
      asks = request b;
      by = sender b;
      kind = kind_field b;
      field = length_field b;
      bytes = length b;
      is_torn = torn b;
      is_unknown = unknown b;
      is_misfit = misfit b;
    }

-- [01:records.2] to [01:records.9] Every request comes back from its record, whole and of the kind and length of its row.
abbrev pub ReadBack : ℕ → Request → Type 0
ReadBack u q =
    read (encoded u q) ≡ record {
      asks = q;
      by = u;
      kind = (kind_and_length q).0;
      field = (kind_and_length q).1;
      bytes = (kind_and_length q).1;
      is_torn = false;
      is_unknown = false;
      is_misfit = false;
    }

pub read_back : (u : ℕ) (q : Request) → ReadBack u q
unfolding length_of request torn unknown misfit
read_back u (Make i s g) = refl
read_back u (Put x g) = refl
read_back u (Take x g) = refl
read_back u (Appoint i k h a b) = refl
read_back u (Dismiss i) = refl
read_back u (Grant i v t o) = refl
read_back u (Withdraw i) = refl
read_back u (Use x k) = refl

-- The words of the sample write the same records.
abbrev pub sampled : ℕ → Request → List ℕ
sampled u (Make i s g) = MAKE u i s g
sampled u (Put x g) = PUT u x g
sampled u (Take x g) = TAKE u x g
sampled u (Appoint i k h a b) = APPOINT u i k h a b
sampled u (Dismiss i) = DISMISS u i
sampled u (Grant i v t o) = GRANT u i v t o
sampled u (Withdraw i) = WITHDRAW u i
sampled u (Use x k) = USE u x k

pub encoded_sampled : (u : ℕ) (q : Request) → encoded u q ≡ sampled u q
encoded_sampled u (Make i s g) = refl
encoded_sampled u (Put x g) = refl
encoded_sampled u (Take x g) = refl
encoded_sampled u (Appoint i k h a b) = refl
encoded_sampled u (Dismiss i) = refl
encoded_sampled u (Grant i v t o) = refl
encoded_sampled u (Withdraw i) = refl
encoded_sampled u (Use x k) = refl

-- [01:records.10] "In hexadecimal, 08 00 01 00 01 02 02 00: member 1 makes member 2 in group 0."
pub hexadecimal : 0x08 ∷ 0x00 ∷ 0x01 ∷ 0x00 ∷ 0x01 ∷ 0x02 ∷ 0x02 ∷ 0x00 ∷ [] ≡ encoded 1 (Make 2 2 0)
hexadecimal = refl

-- ---- The other way round: a well-formed record is the one that is written for what it asks

-- The list of the first n values of f, and a list as that of its bytes.
abbrev values : ℕ → (ℕ → ℕ) → List ℕ
values zero f = []
values (suc n) f = f 0 ∷ values n (λ i. f (suc i))

spelled : (b : List ℕ) → values (length b) (byte b) ≡ b
spelled [] = refl
spelled (x ∷ xs) = ap (λ (l : List ℕ). x ∷ l) (spelled xs)

module _ (b : List ℕ) (w : WellFormed b) where
  -- Its first four bytes are those of the two fields, for each kind and the number n of the bytes after them.
  headed : (n k : ℕ) → kind_field b ≡ k → length b ≡ suc (suc (suc (suc n))) → n ≤ 6
      → suc (suc (suc (suc n))) ∷ 0 ∷ k ∷ 0 ∷ values n (λ i. byte b (suc (suc (suc (suc i))))) ≡ b
  headed n k e l h =
      let f : length b ≡ length_field b = w.exact in
      let known : k ≤ 8 = omega (arith, w.known.1) in
      let b0 : suc (suc (suc (suc n))) ≡ byte b 0 = omega arith in
      let b1 : 0 ≡ byte b 1 = omega arith in
      let b2 : k ≡ byte b 2 = omega arith in
      let b3 : 0 ≡ byte b 3 = omega arith in
      cc (spelled b, ap (λ (m : ℕ). values m (byte b)) l)

  -- [01:records.2] to [01:records.9] So `request` and `sender` lose nothing of it.
  pub encoded_request : encoded (sender b) (request b) ≡ b
  unfolding length_of request
  encoded_request = go (kind_field b) refl
    where
      go : (k : ℕ) → kind_field b ≡ k → encoded (sender b) (request b) ≡ b
      go zero e = absurd (omega (arith, w.known.0))
      go (suc zero) e = rw e (headed 4 1 e (rw e at w.fitting) (omega arith))
      go (suc (suc zero)) e = rw e (headed 3 2 e (rw e at w.fitting) (omega arith))
      go (suc (suc (suc zero))) e = rw e (headed 3 3 e (rw e at w.fitting) (omega arith))
      go (suc (suc (suc (suc zero)))) e = rw e (headed 6 4 e (rw e at w.fitting) (omega arith))
      go (suc (suc (suc (suc (suc zero))))) e = rw e (headed 2 5 e (rw e at w.fitting) (omega arith))
      go (suc (suc (suc (suc (suc (suc zero)))))) e = rw e (headed 5 6 e (rw e at w.fitting) (omega arith))
      go (suc (suc (suc (suc (suc (suc (suc zero))))))) e = rw e (headed 2 7 e (rw e at w.fitting) (omega arith))
      go (suc (suc (suc (suc (suc (suc (suc (suc zero)))))))) e = rw e (headed 3 8 e (rw e at w.fitting) (omega arith))
      go (suc (suc (suc (suc (suc (suc (suc (suc (suc k))))))))) e = absurd (omega (arith, w.known.1))
