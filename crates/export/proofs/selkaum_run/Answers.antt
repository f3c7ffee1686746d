-- `selkaum_run` leaves the codes and the cited rules that `run_list` writes, and draws the policy after. A third buffer that is too short
-- is refused before the list is run; whether there is room for the answers, the outcome says. Demand 3 comes with the list.
use Rattle.std.proofs.Common.{rules}
use lib.ListN.{take-append-drop}
use Rattle.list.proofs.Demanded.{third}
use Rattle.export.proofs.Filling.{no_picture, not_run, has_run}
use Rattle.export.proofs.selkaum_run.Goals as goal

pub returns-in_default : goal.returns-in_default
returns-in_default c = record {
  listed = no_picture _ _ _ _ c.in_default.ensures.cases;
  founding_demand3 = third _;
}

pub returns-in_default-run_list : goal.returns-in_default-run_list
returns-in_default-run_list c = record {
  listed = not_run _ _ _ _ c.in-Some.ensures.cases.enough c.in_default-run_list.is c.run_list.ensures.run_into
      (rw c.in-Some.ensures.cases.same (take-append-drop 960 c.args.policy.now));
  founding_demand3 = c.run_list.ensures.founding_demand3;
}

pub returns : goal.returns
returns c = record {
  listed = has_run _ _ _ _ c.in-Some.ensures.cases.enough c.in-Some-run_list.is c.run_list.ensures.run_into c.put_policy.ensures;
  founding_demand3 = c.run_list.ensures.founding_demand3;
}
