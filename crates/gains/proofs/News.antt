-- What is in one word and not in another, as a set. From the laws of words as sets.
use mathlib.Core.Path.{◌≡◌}
use Prim.Native.Nat.{ℕ, ◌-◌, ◌^◌, ◌<◌}
use lib.Bits.{bit_and}
use Rattle.reach.specs.Words.{SetOf}
use Rattle.reach.specs.Tests.{Some}
use Rattle.reach.proofs.WordSets.{set_as, set_bits, set_below, set_mask, set_not, set_empty}
use Rattle.gains.specs.Searching.{New}

-- `got & !had` is the set of what is new.
pub new_set : (had got : ℕ) → had < 2 ^ 64 → got < 2 ^ 64 → SetOf (bit_and got (2 ^ 64 - 1 - had)) (New had got)
new_set had got h g =
    set_as
    (set_mask got (set_not (set_bits had h)))
    (λ x w. record { now = w.0; lacked = w.1.1 })
    (λ x n. (n.now, (set_below (set_bits got g) x n.now, n.lacked)))

pub news_no : (had got : ℕ) → had < 2 ^ 64 → got < 2 ^ 64 → bit_and got (2 ^ 64 - 1 - had) ≡ 0 → Some 64 (New had got) → ⊥
news_no had got h g e w = set_empty (new_set had got h g) e w.place w.at

pub new_at : {P Q : ℕ → Type 0} {had got : ℕ} → SetOf had P → SetOf got Q → {x : ℕ} → New had got x → Q x × (P x → ⊥)
new_at s t {x} n = (t.only x n.now, λ w. n.lacked (s.all x w))

pub at_new : {P Q : ℕ → Type 0} {had got : ℕ} → SetOf had P → SetOf got Q → {x : ℕ} → Q x × (P x → ⊥) → New had got x
at_new s t {x} w = record { now = t.all x w.0; lacked = λ b. w.1 (s.only x b) }
