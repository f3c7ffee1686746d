-- Check 4, by the lent sorts.
use mathlib.Core.Path.{sym}
use Rattle.judge.proofs.Sorting.{stranger_lent}
use Rattle.judge.proofs.form.stranger.Goals as goal

pub returns : goal.returns
returns c = rw c.is_user.ensures (stranger_lent _ (sym c.objects.ensures.sorts) _)
