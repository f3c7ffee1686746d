-- The first permission that is new between two tables of words is the first that the user gains, if the tables are what he is permitted
-- before the request, and after it of what was in use before. Then what is new between them is what he comes to use.
use mathlib.Core.List.{List}
use Prim.Native.Nat.{ℕ, ◌<◌}
use lib.ListN.{get_or}
use Rattle.reach.specs.declared.Policy.{Policy}
use Rattle.reach.specs.Words.{TableOf}
use Rattle.reach.specs.Tables.{view}
use Rattle.reach.specs.Reach.{InUse}
use Rattle.reach.specs.Privileges.{Permitted}
use Rattle.rules.specs.declared.Request.{Request}
use Rattle.rules.specs.Doing.{after}
use Rattle.gains.specs.declared.Permission.{Permission}
use Rattle.std.proofs.Common.{Option, Some, None}
use Rattle.gains.specs.Searching.{New, FirstNew}
use Rattle.gains.proofs.News.{new_at, at_new}
use Rattle.gains.specs.Giving.{ComesToUse, FirstPermission}

module _ (p : Policy) (u : ℕ) (q : Request) where
  -- What he is permitted after the request, of what was in use before it.
  abbrev pub PermittedThere : ℕ → ℕ → Type 0
  PermittedThere k x = InUse (view p) x × Permitted (view (after p q)) u k x

  module _ {had got : List ℕ} (h : TableOf 8 had (λ k x. Permitted (view p) u k x)) (g : TableOf 8 got PermittedThere) where
    comes : {x k : ℕ} → k < 8 → New (get_or had k 0) (get_or got k 0) x → ComesToUse p u q x k
    comes {x} {k} l n =
        let w = new_at (h.row k l) (g.row k l) n in record { there = w.0.0; has = w.0.1; lacked = w.1 }

    new : {x k : ℕ} → ComesToUse p u q x k → New (get_or had k 0) (get_or got k 0) x
    new {x} {k} w = at_new (h.row k w.has.number) (g.row k w.has.number) ((w.there, w.has), w.lacked)

    pub first_permission : (r : Option Permission) → FirstNew had got r → FirstPermission p u q r
    first_permission (Some w) f = (
      comes f.0 f.1,
      λ y j l c. f.2 y j l c.has.number (new c),
      λ j l c. f.3 j l (new c),
    )
    first_permission None f = λ y j w. f y j w.has.number (new w)
