-- What the search for a permission goes by: words as sets, tables of eight of them, and the lent tables of reach.
use Rattle.std.specs.Prelude.{◌≡◌, true, List, ◌⊎◌, ℕ, ◌<◌, length, get_or, Option, Some as Found, None}
use Rattle.reach.specs.declared.AccessRule.{AccessRule}
use Rattle.reach.specs.Words.{bit, SetOf}
use Rattle.reach.specs.Tests.{Some}
use Rattle.reach.specs.Tables.{sort_in}
use Rattle.reach.specs.Asking.{UnderBy}
use Rattle.gains.specs.declared.Permission.{Permission}

-- n sets, each with what it had and what Q says that it comes to have.
pub record Joined (n : ℕ) (sets : List ℕ) (Q : ℕ → ℕ → Type 0) (r : List ℕ) : Type 0 where
  pub long : length r ≡ n
  pub row : (i : ℕ) → i < n → SetOf (get_or r i 0) (λ x. (bit (get_or sets i 0) x ≡ 1) ⊎ Q i x)

-- The rule is in use, and its U is in the set.
pub record Covers (r : AccessRule) (users : ℕ) : Type 0 where
  pub used : r.used ≡ true
  pub in_u : bit users r.users ≡ 1

-- The rule is in use, has the operation k, and its U and its T are in the sets.
pub record GrantsOver (r : AccessRule) (users targets k : ℕ) : Type 0 where
  pub used : r.used ≡ true
  pub operation : bit r.operations k ≡ 1
  pub in_u : bit users r.users ≡ 1
  pub in_t : bit targets r.targets ≡ 1

-- x is in the one set and not in the other.
pub record New (had got x : ℕ) : Type 0 where
  pub now : bit got x ≡ 1
  pub lacked : bit had x ≡ 1 → ⊥

-- The first pair of a target and an operation of which P holds, target by target and operation by operation, or that there is none.
abbrev pub FirstFresh : (ℕ → ℕ → Type 0) → Option Permission → Type 0
FirstFresh P (Found w) =
    (w.operation < 8) × P w.target w.operation × ((y j : ℕ) → y < w.target → j < 8 → P y j → ⊥)
    × ((j : ℕ) → j < w.operation → P w.target j → ⊥)
FirstFresh P None = (y j : ℕ) → j < 8 → P y j → ⊥

abbrev pub FirstNew : List ℕ → List ℕ → Option Permission → Type 0
FirstNew had got r = FirstFresh (λ x k. New (get_or had k 0) (get_or got k 0) x) r

-- y is a target, the groups granted for operation k meet what y is under once x is put where `over` is above, and those granted before met
-- nothing that y is under.
pub record Fresh (sorts memberships had got : List ℕ) (x over y k : ℕ) : Type 0 where
  pub target : sort_in sorts y ≡ 3
  pub now : Some 64 (λ t.
      (bit (get_or got k 0) t ≡ 1)
      × (UnderBy sorts memberships y t ⊎ (UnderBy sorts memberships y x × (bit over t ≡ 1))))
  pub lacked : Some 64 (λ t. (bit (get_or had k 0) t ≡ 1) × UnderBy sorts memberships y t) → ⊥

-- The rule is in use, and it newly covers him, or it covers him and its T is newly above something.
pub record Opens (r : AccessRule) (users more opened : ℕ) : Type 0 where
  pub used : r.used ≡ true
  pub by : (bit more r.users ≡ 1) ⊎ ((bit users r.users ≡ 1) × (bit opened r.targets ≡ 1))
