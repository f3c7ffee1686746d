use Rattle.std.proofs.Common.{◌≡◌, ℕ, bit_or, get_or, rules, true, Fits, w64}
use Rattle.reach.specs.Words.{bit, has, SetOf}
use Rattle.gains.proofs.Calls.{each_made}
use Rattle.gains.proofs.Spreading.{spread_row}
use Rattle.gains.proofs.granting.spread.Goals as goal

pub returns : goal.returns
returns c =
    let a = c.args in
    record {
      long = c.from_fn.ensures.items.long;
      row = λ i l.
          let made =
          each_made _
          (λ k r. (v : ℕ) × SetOf v (λ x. (has a.which k ≡ true) × (bit a.added x ≡ 1)) × (r ≡ bit_or (get_or a.sets k 0) v))
          _
          (λ k r f' s. search rules)
          _
          8
          c.from_fn.ensures.items
          i
          0
          l in
          let h : Fits w64 (get_or a.sets i 0) = search rules in
          spread_row _ _ _ h.fits made.1 made.2;
    }
