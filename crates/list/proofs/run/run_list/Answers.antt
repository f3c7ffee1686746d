-- `run_list` runs the list from the founding, by `run_from`; that demand 3 holds of the list is `third`.
use Rattle.list.proofs.Demanded.{third}
use Rattle.list.proofs.Running.{run_into}
use Rattle.list.proofs.run.run_list.Goals as goal

pub returns : goal.returns
returns c =
    let ran = c.run_from.ensures in
    let founding = c.initial.ensures in
    record {
      run_into = run_into (simp (ran.codes_written, ran.cited_written, founding)) (simp (ran.outcome, founding));
      founding_demand3 = third _;
    }
