use mathlib.Core.Path.{ap}
use Prim.Native.Nat.{ℕ, ◌-◌, ◌^◌, ◌<◌}
use Rattle.reach.proofs.Bits.{one_shl, lowest_bit, lowest_none}
use Rattle.reach.proofs.Gathering.{left_least}
use Rattle.std.proofs.Common.{rules}
use Rattle.reach.proofs.sets.MembersIterator.next.Goals as goal

pub overflow_sub-self : goal.overflow_sub-self
overflow_sub-self c =
    let word : c.args.self.now.0 < 2 ^ 64 = search rules in
    (left_least word _ (lowest_bit 64 _ c.if-self-eq0.false word).1).1

pub returns-clause-steps : goal.returns-clause-steps
returns-clause-steps c =
    let s = c.args.self.now.0 in
    let word : s < 2 ^ 64 = search rules in
    let low = lowest_bit 64 s c.if-self-eq0.false word in
    record {
      low = low.0;
      in_set = low.1;
      least = λ y l. lowest_none 64 s y l;
      rest = ap (λ (n : ℕ). s - n) (one_shl _ low.0);
    }
