-- The masks are the sets of the objects of each sort, each of two halves, and all that is in use is of one of the three sorts.
use native.Mathlib.Omega.{arith}
use Rattle.reach.proofs.Sorts.{sort_set, in_use_cases, in_use_of_sort}
use Rattle.reach.proofs.WordSets.{set_as, set_or, set_equal, set_halves}
use Rattle.reach.proofs.surveying.masks_of.Goals as goal

pub returns : goal.returns
returns c = λ p e.
    let low = c.half_of-low.ensures in
    let high = c.half_of-high.ensures in
    let groups = sort_set p _ e 1 (omega arith) (omega arith) (set_halves c.joined-groups.ensures low.0 high.0) in
    let users = sort_set p _ e 2 (omega arith) (omega arith) (set_halves c.joined-users.ensures low.1 high.1) in
    let targets = sort_set p _ e 3 (omega arith) (omega arith) (set_halves c.joined-targets.ensures low.2 high.2) in
    record {
      objects = set_equal (set_as (set_or (set_or groups users) targets) (in_use_of_sort p) (in_use_cases p)) (omega arith);
      groups = groups;
      users = users;
      targets = targets;
    }
