-- Row by row it is what is permitted, of the objects.
use Rattle.std.proofs.Common.{◌≡◌, ℕ, bit_and, rules}
use Rattle.reach.specs.Words.{SetOf}
use Rattle.reach.specs.Tables.{view}
use Rattle.reach.specs.Privileges.{Permitted}
use Rattle.reach.proofs.WordSets.{set_at, set_mask}
use Rattle.gains.proofs.Calls.{each_made}
use Rattle.judge.proofs.gaining.permissions.Goals as goal

pub returns : goal.returns
returns c =
    let a = c.args in
    record {
      long = c.from_fn.ensures.items.long;
      row = λ i l.
          let made =
          each_made _
          (λ k r. (v : ℕ) × SetOf v (Permitted (view a.p) a.u k) × (r ≡ bit_and a.objects v))
          _
          (λ k r f' s. search rules)
          _
          8
          c.from_fn.ensures.items
          i
          0
          l in
          set_at made.2 (set_mask _ made.1);
    }
