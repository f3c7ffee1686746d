-- Check 6, where those before it have passed.
use Rattle.rules.proofs.Checking.{passed, applied, refused}
use Rattle.judge.proofs.formed.Goals as goal

pub returns-in_err-if_so-6 : goal.returns-in_err-if_so-6
returns-in_err-if_so-6 c =
    rw (
      refused _ _ c.in_err-if_so-6.ensures c.from_residual-in_err-if_so-6.ensures.1,
      ← c.torn.ensures,
      passed _ _ c.in_ok-if_so.ensures,
      ← c.unknown.ensures,
      passed _ _ c.in_ok-if_so-2.ensures,
      ← c.misfit.ensures,
      passed _ _ c.in_ok-if_so-3.ensures,
      ← c.stranger.ensures,
      passed _ _ c.in_ok-if_so-4.ensures,
      ← c.off_the_sheet.ensures,
      passed _ _ c.in_ok-if_so-5.ensures,
      ← c.absent.ensures,
      applied _ _ c.in_err-if_so-6.ensures,
    )
