-- The two tables are what the user is permitted before the request and after it, both of what was in use before; so the first that is new
-- between them is the first that he gains.
use mathlib.Core.Path.{◌≡◌, subst}
use mathlib.Core.List.{List}
use Prim.Native.Nat.{ℕ}
use native.Mathlib.Omega.{arith}
use Rattle.reach.specs.declared.Policy.{Policy}
use Rattle.reach.specs.Words.{bit, SetOf, TableOf}
use Rattle.reach.specs.Tables.{view}
use Rattle.reach.specs.Reach.{InUse}
use Rattle.reach.specs.Privileges.{Permitted}
use Rattle.reach.proofs.WordSets.{set_as, set_at}
use Rattle.rules.specs.declared.Request.{Request}
use Rattle.rules.specs.Doing.{after}
use Rattle.gains.proofs.FirstFound.{PermittedThere, first_permission}
use Rattle.judge.proofs.gaining.permission_gained.Goals as goal

module _ (p : Policy) (u : ℕ) {objects : ℕ} (o : SetOf objects (InUse (view p))) {t : List ℕ} where
  -- All that he is permitted before is in use before.
  before : TableOf 8 t (λ k x. (bit objects x ≡ 1) × Permitted (view p) u k x) → TableOf 8 t (λ k x. Permitted (view p) u k x)
  before s =
      record {
        long = s.long;
        row = λ k l. set_as (s.row k l) (λ x w. w.1) (λ x w. (o.all x (omega (arith, w.target)), w));
      }

  then : (q : Request) {n : Policy} → n ≡ after p q → TableOf 8 t (λ k x. (bit objects x ≡ 1) × Permitted (view n) u k x)
      → TableOf 8 t (PermittedThere p u q)
  then q e s =
      let w = subst (λ (n : Policy). TableOf 8 t (λ k x. (bit objects x ≡ 1) × Permitted (view n) u k x)) e s in
      record {
        long = w.long;
        row = λ k l. set_as (w.row k l) (λ x w. (o.only x w.0, w.1)) (λ x w. (o.all x w.0, w.1));
      }

pub returns : goal.returns
returns c =
    let a = c.args in
    first_permission a.p a.u a.q
    (before a.p a.u (set_at (omega arith) c.masks-m.ensures.objects) c.permissions-had.ensures)
    (then a.p a.u (set_at (omega arith) c.masks-m.ensures.objects) a.q c.after.ensures
    c.permissions-got.ensures)
    c.gained.result c.gained.ensures
