-- Rows of a table joined with what comes to them: with a set that is added to those named, and with what each place of another table gives.
use mathlib.Core.Path.{◌≡◌, subst}
use mathlib.Core.Bool.{true}
use mathlib.Core.List.{List}
use mathlib.Core.Logic.{◌⊎◌, inl, inr, ⊎_elim}
use Prim.Native.Nat.{ℕ, ◌+◌, ◌^◌, ◌<◌}
use native.Mathlib.Nat.{not-suc-le-zero}
use native.Mathlib.Omega.{arith}
use lib.Bits.{bit_or}
use lib.ListN.{length, get_or}
use Rattle.reach.specs.Words.{bit, has, SetOf, TableOf}
use Rattle.reach.specs.Tests.{Some}
use Rattle.reach.proofs.Testing.{some_up}
use Rattle.reach.proofs.WordSets.{has_decides, set_as, set_at, set_bits, set_none, set_or, below_next}
use Rattle.gains.specs.Searching.{Joined}

-- The row r has what the row s had, and what is added to those named if it is one of them.
pub spread_row : (which added i : ℕ) {s r v : ℕ} → s < 2 ^ 64 → SetOf v (λ x. (has which i ≡ true) × (bit added x ≡ 1)) → r ≡ bit_or s v
    → SetOf r (λ x. (bit s x ≡ 1) ⊎ ((bit which i ≡ 1) × (bit added x ≡ 1)))
spread_row which added i {s} h u e =
    let d = has_decides which i in
    set_at
    e
    (set_as
    (set_or (set_bits s h) u)
    (λ x w. ⊎_elim (λ b. inl b) (λ b. inr (d.sound b.0, b.1)) w)
    (λ x w. ⊎_elim (λ b. inl b) (λ b. inr (d.complete b.0, b.1)) w))

-- ---- Rows joined with what comes to them

-- Nothing comes.
pub joined_none : {n : ℕ} {rows : List ℕ} (Q : ℕ → ℕ → Type 0) → length rows ≡ n → ((j : ℕ) → get_or rows j 0 < 2 ^ 64)
    → ((i x : ℕ) → Q i x → ⊥) → Joined n rows Q rows
joined_none Q e w none =
    record {
      long = e;
      row = λ i l. set_as (set_bits _ (w i)) (λ x b. inl b) (λ x s. ⊎_elim (λ b. b) (λ q. absurd (none i x q)) s);
    }

-- The same, said another way.
pub joined_as : {n : ℕ} {rows r : List ℕ} {P : ℕ → ℕ → Type 0} (Q : ℕ → ℕ → Type 0) → Joined n rows P r
    → ((i x : ℕ) → i < n → P i x → Q i x) → ((i x : ℕ) → i < n → Q i x → P i x) → Joined n rows Q r
joined_as Q s f g =
    record {
      long = s.long;
      row = λ i l.
          set_as
          (s.row i l)
          (λ x w. ⊎_elim (λ b. inl b) (λ q. inr (f i x l q)) w)
          (λ x w. ⊎_elim (λ b. inl b) (λ q. inr (g i x l q)) w);
    }

-- A loop over places that joins what each gives: after m places the table has what some place below m gives.
module _ (n : ℕ) (Q : ℕ → ℕ → ℕ → Type 0) where
  abbrev pub Tabled : ℕ → List ℕ → Type 0
  Tabled m rows = TableOf n rows (λ i x. Some m (λ p. Q p i x))

  pub tabled_none : {rows : List ℕ} → length rows ≡ n → ((i : ℕ) → i < n → get_or rows i 0 ≡ 0) → Tabled 0 rows
  tabled_none e z =
      record { long = e; row = λ i l. set_at (z i l) (set_none (λ x w. not-suc-le-zero w.low)) }

  pub tabled_next : {m : ℕ} {rows r : List ℕ} → Tabled m rows → Joined n rows (Q m) r → Tabled (m + 1) r
  tabled_next {m} t s =
      record {
        long = s.long;
        row = λ i l.
            set_as
            (s.row i l)
            (λ x w. ⊎_elim (λ b. some_up ((t.row i l).only x b)) (λ q. record { place = m; low = omega arith; at = q }) w)
            (λ x w.
            ⊎_elim
            (λ e. inr (subst (λ (p : ℕ). Q p i x) e w.at))
            (λ h. inl ((t.row i l).all x (record { place = w.place; low = h; at = w.at })))
            (below_next w.place m w.low));
      }
