-- A check lets a request pass exactly if P: the algebra of the conditions of the refusal table, read as what they leave. By cases on the
-- tests.
use mathlib.Core.Path.{◌≡◌, refl}
use mathlib.Core.Bool.{Bool, true, false, not, ◌&&◌, ◌||◌, true≢false, false≢true}
use Prim.Native.Nat.{ℕ, ◌≤◌}
use lib.Dec.{leb, ltb}
use borrow.Author.Tests.{ltb-false, le-ltb, leb-true, le-leb}
use Rattle.reach.specs.Tests.{◌⇒◌∥◌, Decides}
use Rattle.reach.proofs.Testing.{refuted, fails}

pub record Passes (t : Bool) (P : Type 0) : Type 0 where
  pub sound : t ≡ false → P
  pub complete : P → t ≡ false

pub passes_as : {t : Bool} {P Q : Type 0} → Passes t P → (P → Q) → (Q → P) → Passes t Q
passes_as d f g = record { sound = λ e. f (d.sound e); complete = λ q. d.complete (g q) }

-- A condition that nothing meets.
pub passes_all : Passes false (Unit {0})
passes_all = record { sound = λ e. tt; complete = λ u. refl }

pub passes_or : {P Q : Type 0} (a b : Bool) → Passes a P → Passes b Q → Passes (a || b) (P × Q)
passes_or true b d e = record { sound = λ t. absurd (true≢false t); complete = λ w. d.complete w.0 }
passes_or false b d e = record { sound = λ t. (d.sound refl, e.sound t); complete = λ w. e.complete w.1 }

pub passes_not : {P : Type 0} (t : Bool) → Decides t P → Passes (not t) P
passes_not true d = record { sound = λ e. d.sound refl; complete = λ p. refl }
passes_not false d = record { sound = λ e. absurd (true≢false e); complete = λ p. absurd (false≢true (d.complete p)) }

-- A condition that is a fact: what it leaves is that the fact is not.
pub passes_of : {P : Type 0} (t : Bool) → Decides t P → Passes t (P → ⊥)
passes_of t d = record { sound = λ e. refuted d e; complete = λ n. fails t d n }

pub passes_ltb : (n x : ℕ) → Passes (ltb n x) (x ≤ n)
passes_ltb n x = record { sound = ltb-false n x; complete = le-ltb n x }

-- A condition that is asked only where A holds.
pub passes_where : {A P : Type 0} (a t : Bool) → Decides a A → Passes t P → Passes (a && t) (A → P)
passes_where true t d e = record { sound = λ f a. e.sound f; complete = λ f. e.complete (f (d.sound refl)) }
passes_where false t d e = record { sound = λ f a. absurd (false≢true (d.complete a)); complete = λ f. refl }

-- One condition where A holds, and another elsewhere.
pub passes_either : {A P Q : Type 0} (a s t : Bool) → Decides a A → Passes s P → Passes t Q
    → Passes (a ⇒ s ∥ t) ((A → P) × ((A → ⊥) → Q))
passes_either true s t d e f =
    record {
      sound = λ z. (λ a. e.sound z, λ n. absurd (n (d.sound refl)));
      complete = λ w. e.complete (w.0 (d.sound refl));
    }
passes_either false s t d e f =
    record {
      sound = λ z. (λ a. absurd (false≢true (d.complete a)), λ n. f.sound z);
      complete = λ w. f.complete (w.1 (λ a. false≢true (d.complete a)));
    }

pub decides_leb : (a b : ℕ) → Decides (leb a b) (a ≤ b)
decides_leb a b = record { sound = leb-true a b; complete = le-leb a b }
