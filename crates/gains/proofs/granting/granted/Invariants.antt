-- The table joins what each place gives, place by place.
use Rattle.std.proofs.Common.{◌<◌, get_or}
use Rattle.reach.specs.Tables.{no_rule}
use Rattle.reach.specs.Asking.{HasT}
use Rattle.gains.proofs.Spreading.{Tabled}
use Rattle.gains.proofs.granting.granted.Given as goal

abbrev pub invariant-loop-rule : goal.invariant-loop-rule
invariant-loop-rule l = Tabled 8 (λ j k t. (t < 64) × HasT (get_or l.rules j no_rule) k l.users t) l.rule-index l.sets
