-- The set that a question asks for is there on every policy, whether it is told or not: each is a test on the numbers below 64.
use mathlib.Core.Path.{◌≡◌, refl, sym, ap, ◌∙◌}
use mathlib.Core.Bool.{Bool, true, false}
use Prim.Native.Nat.{ℕ, zero, suc, ◌+◌, ◌*◌, ◌/◌, ◌%◌, ◌^◌, ◌≤◌, ◌<◌}
use native.Mathlib.Nat.{pow-suc, pow-le-pow_right}
use native.Mathlib.Omega.{arith}
use lib.Dec.{lit<}
use Rattle.reach.specs.Tests.{◌⇒◌∥◌, Decides}
use Rattle.reach.specs.Words.{bit, SetOf}
use Rattle.reach.specs.declared.Policy.{Policy}
use Rattle.reach.specs.Tables.{view}
use Rattle.reach.specs.Reach.{Under, under}
use Rattle.reach.specs.Privileges.{Holds, holds, Administers, administers, Permitted, permitted}
use Rattle.reach.proofs.Chains.{in_use_below, under_decides}
use Rattle.reach.proofs.Reaching.{under_lower, under_upper}
use Rattle.reach.proofs.Deciding.{holds_decides, administers_decides, permitted_decides}
use Rattle.reach.proofs.Bits.{bit_at_zero, bit_suc, bit_none}

-- The numbers below k that pass the test.
word : (ℕ → Bool) → ℕ → ℕ
word t zero = 0
word t (suc k) = (t 0 ⇒ 1 ∥ 0) + 2 * word (λ x. t (suc x)) k

first : (b : Bool) → (b ⇒ 1 ∥ 0) ≤ 1
first true = omega arith
first false = omega arith

word_small : (t : ℕ → Bool) (k : ℕ) → word t k < 2 ^ k
unfolding word
word_small t zero = lit< tt
word_small t (suc k) = omega (arith, first (t 0), word_small (λ x. t (suc x)) k, pow-suc 2 k)

halved : (b : Bool) (w : ℕ) → ((b ⇒ 1 ∥ 0) + 2 * w) / 2 ≡ w
halved true w = omega arith
halved false w = omega arith

odd : (b : Bool) (w : ℕ) → ((b ⇒ 1 ∥ 0) + 2 * w) % 2 ≡ 1 → b ≡ true
odd true w e = refl
odd false w e = absurd (omega arith)

odd_of : (b : Bool) (w : ℕ) → b ≡ true → ((b ⇒ 1 ∥ 0) + 2 * w) % 2 ≡ 1
odd_of true w e = omega arith
odd_of false w e = absurd (cc)

word_only : (t : ℕ → Bool) (k x : ℕ) → bit (word t k) x ≡ 1 → t x ≡ true
unfolding word
word_only t zero x e = absurd (bit_none x e)
word_only t (suc k) zero e = odd (t 0) (word (λ x. t (suc x)) k) (sym (bit_at_zero _) ∙ e)
word_only t (suc k) (suc x) e =
    word_only (λ x'. t (suc x')) k x (ap (λ (w : ℕ). bit w x) (sym (halved (t 0) _)) ∙ sym (bit_suc _ x) ∙ e)

word_all : (t : ℕ → Bool) (k x : ℕ) → x < k → t x ≡ true → bit (word t k) x ≡ 1
unfolding word
word_all t zero x h e = absurd (omega arith)
word_all t (suc k) zero h e = bit_at_zero _ ∙ odd_of (t 0) _ e
word_all t (suc k) (suc x) h e =
    bit_suc _ x ∙ ap (λ (w : ℕ). bit w x) (halved (t 0) _) ∙ word_all (λ x'. t (suc x')) k x (omega arith) e

pub set_of : (P : ℕ → Type 0) (t : ℕ → Bool) → ((x : ℕ) → Decides (t x) (P x)) → ((x : ℕ) → P x → x < 64) → (s : ℕ) × SetOf s P
set_of P t d low = (
  word t 64,
  record {
    word = word_small t 64;
    only = λ x e. (d x).sound (word_only t 64 x e);
    all = λ x h. word_all t 64 x (low x h) ((d x).complete h);
  },
)

-- ---- The questions

module _ (p : Policy) where
  pub above_there : (x : ℕ) → (s : ℕ) × SetOf s (λ g. Under (view p) x g)
  above_there x = set_of (λ g. Under (view p) x g) (λ g. under p x g) (λ g. under_decides p x g) (λ g h. in_use_below p g (under_upper h))

  pub below_there : (g : ℕ) → (s : ℕ) × SetOf s (λ x. Under (view p) x g)
  below_there g = set_of (λ x. Under (view p) x g) (λ x. under p x g) (λ x. under_decides p x g) (λ x h. in_use_below p x (under_lower h))

  pub held_there : (kind u : ℕ) → (s : ℕ) × SetOf s (λ x. Holds (view p) kind u x)
  held_there kind u =
      set_of (λ x. Holds (view p) kind u x) (λ x. holds p kind u x) (λ x. holds_decides p kind u x)
      (λ x h. in_use_below p x (under_lower h.by.at.covers))

  pub administered_there : (u a : ℕ) → (s : ℕ) × SetOf s (λ b. Administers (view p) u a b)
  administered_there u a =
      set_of (λ b. Administers (view p) u a b) (λ b. administers p u a b) (λ b. administers_decides p u a b)
      (λ b h. in_use_below p b (under_lower h.by.at.covers_b))

  pub permitted_there : (u k : ℕ) → (s : ℕ) × SetOf s (λ x. Permitted (view p) u k x)
  permitted_there u k =
      set_of (λ x. Permitted (view p) u k x) (λ x. permitted p u k x) (λ x. permitted_decides p u k x)
      (λ x h. in_use_below p x (under_lower h.by.at.covers_target))
