-- Check 7 of an APPOINT: the lent sorts say of what sort an object is.
use Rattle.reach.proofs.Sorts.{is_group_is, is_user_is}
use Rattle.rules.specs.Refusals.{wrong_sort}
use Rattle.judge.proofs.form.wrong_sort.Goals as goal

pub returns-in-Appoint : goal.returns-in-Appoint
unfolding wrong_sort
returns-in-Appoint c =
    rw (
      c.in-Appoint.is,
      c.is_group-in-Appoint.ensures,
      c.is_group-in-Appoint-2.ensures,
      c.is_user.ensures,
      c.objects-objects.ensures.sorts,
      is_group_is _ c.in-Appoint.a,
      is_group_is _ c.in-Appoint.b,
      is_user_is _ _,
    )
