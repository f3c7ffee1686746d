-- Where the two checks come to an end, kind by kind: each test is what the rules ask, and so both clauses hold.
use mathlib.Core.Path.{refl, sym, ap, ◌∙◌}
use Rattle.reach.specs.declared.AccessRule.{AccessRule}
use Rattle.reach.proofs.AsRead.{appointment_is, rule_is}
use Rattle.rules.specs.Authority.{may, may_withdraw}
use Rattle.rules.specs.Refusals.{already_so, no_authority}
use Rattle.rules.specs.Judging.{done}
use Rattle.rules.proofs.Checking.{handed_on, passed, applied, refused}
use Rattle.judge.proofs.Sorting.{used_lent}
use Rattle.judge.proofs.Entitling.{is_so, not_entitled, is_entitled, put_refused, put_passes}
use Rattle.judge.proofs.authority.allowed.Goals as goal

pub returns-in_err-if_so-in-Make : goal.returns-in_err-if_so-in-Make
unfolding already_so
returns-in_err-if_so-in-Make c =
    let a =
    is_so _ _ _
    (rw c.in-Make.is (c.in_use.ensures ∙ used_lent _ (sym c.objects.ensures.sorts) c.in-Make.place))
    (applied _ _ c.in_err-if_so-in-Make.ensures)
    (refused _ _ c.in_err-if_so-in-Make.ensures c.from_residual.ensures.1) in
    record { value = a.0; looked_at = a.1 }

pub returns-in_err-if_so-in-Make-2 : goal.returns-in_err-if_so-in-Make-2
unfolding already_so no_authority may
returns-in_err-if_so-in-Make-2 c =
    let a =
    not_entitled _ _ _
    (rw c.in-Make.is (c.in_use.ensures ∙ used_lent _ (sym c.objects.ensures.sorts) c.in-Make.place))
    (rw (c.in-Make.is, c.governs.ensures, c.held.ensures))
    (passed _ _ c.in_ok-if_so-in-Make.ensures)
    (applied _ _ c.in_err-if_so-in-Make-2.ensures)
    (refused _ _ c.in_err-if_so-in-Make-2.ensures c.from_residual-in_err-if_so-in-Make-2.ensures.1) in
    record { value = a.0; looked_at = a.1 }

pub returns-in_ok-if_so-in-Make-2 : goal.returns-in_ok-if_so-in-Make-2
unfolding already_so no_authority may done
returns-in_ok-if_so-in-Make-2 c =
    let a =
    is_entitled _ _ _
    (rw c.in-Make.is (c.in_use.ensures ∙ used_lent _ (sym c.objects.ensures.sorts) c.in-Make.place))
    (rw (c.in-Make.is, c.governs.ensures, c.held.ensures))
    (passed _ _ c.in_ok-if_so-in-Make.ensures)
    (passed _ _ c.in_ok-if_so-in-Make-2.ensures)
    (rw c.in-Make.is) in
    record { value = a.0; looked_at = a.1 }

pub returns-in_err-put_verdict-in-Put : goal.returns-in_err-put_verdict-in-Put
returns-in_err-put_verdict-in-Put c =
    let a = put_refused _ _ _ c.in-Put.is c.in_err-put_verdict-in-Put.ensures (handed_on _ c.from_residual-in_err-put_verdict-in-Put.ensures.1) in
    record { value = a.0; looked_at = a.1 }

pub returns-in_ok-put_verdict-in-Put : goal.returns-in_ok-put_verdict-in-Put
returns-in_ok-put_verdict-in-Put c =
    let a = put_passes _ _ _ c.in-Put.is c.in_ok-put_verdict-in-Put.ensures in
    record { value = a.0; looked_at = a.1 }

pub returns-in_err-if_so-in-Take : goal.returns-in_err-if_so-in-Take
unfolding already_so
returns-in_err-if_so-in-Take c =
    let a =
    is_so _ _ _
    (rw (c.in-Take.is, c.held-held.ensures))
    (applied _ _ c.in_err-if_so-in-Take.ensures)
    (refused _ _ c.in_err-if_so-in-Take.ensures c.from_residual-in_err-if_so-in-Take.ensures.1) in
    record { value = a.0; looked_at = a.1 }

pub returns-in_err-if_so-in-Take-2 : goal.returns-in_err-if_so-in-Take-2
unfolding already_so no_authority may
returns-in_err-if_so-in-Take-2 c =
    let a =
    not_entitled _ _ _
    (rw (c.in-Take.is, c.held-held.ensures))
    (rw (c.in-Take.is, c.governs-in-Take.ensures, c.governs-in-Take-2.ensures, c.held-held.ensures))
    (passed _ _ c.in_ok-if_so-in-Take.ensures)
    (applied _ _ c.in_err-if_so-in-Take-2.ensures)
    (refused _ _ c.in_err-if_so-in-Take-2.ensures c.from_residual-in_err-if_so-in-Take-2.ensures.1) in
    record { value = a.0; looked_at = a.1 }

pub returns-in_ok-if_so-in-Take-2 : goal.returns-in_ok-if_so-in-Take-2
unfolding already_so no_authority may done
returns-in_ok-if_so-in-Take-2 c =
    let a =
    is_entitled _ _ _
    (rw (c.in-Take.is, c.held-held.ensures))
    (rw (c.in-Take.is, c.governs-in-Take.ensures, c.governs-in-Take-2.ensures, c.held-held.ensures))
    (passed _ _ c.in_ok-if_so-in-Take.ensures)
    (passed _ _ c.in_ok-if_so-in-Take-2.ensures)
    (rw c.in-Take.is) in
    record { value = a.0; looked_at = a.1 }

pub returns-in_err-if_so-in-Appoint : goal.returns-in_err-if_so-in-Appoint
unfolding already_so
returns-in_err-if_so-in-Appoint c =
    let a =
    is_so _ _ _
    (rw (c.in-Appoint.is, c.standing-stands.ensures, c.appointment_at.ensures, appointment_is _ _))
    (applied _ _ c.in_err-if_so-in-Appoint.ensures)
    (refused _ _ c.in_err-if_so-in-Appoint.ensures c.from_residual-in_err-if_so-in-Appoint.ensures.1) in
    record { value = a.0; looked_at = a.1 }

pub returns-in_err-if_so-in-Appoint-2 : goal.returns-in_err-if_so-in-Appoint-2
unfolding already_so no_authority may
returns-in_err-if_so-in-Appoint-2 c =
    let a =
    not_entitled _ _ _
    (rw (c.in-Appoint.is, c.standing-stands.ensures, c.appointment_at.ensures, appointment_is _ _))
    (rw (c.in-Appoint.is, c.may_appoint.ensures))
    (passed _ _ c.in_ok-if_so-in-Appoint.ensures)
    (applied _ _ c.in_err-if_so-in-Appoint-2.ensures)
    (refused _ _ c.in_err-if_so-in-Appoint-2.ensures c.from_residual-in_err-if_so-in-Appoint-2.ensures.1) in
    record { value = a.0; looked_at = a.1 }

pub returns-in_ok-if_so-in-Appoint-2 : goal.returns-in_ok-if_so-in-Appoint-2
unfolding already_so no_authority may done
returns-in_ok-if_so-in-Appoint-2 c =
    let a =
    is_entitled _ _ _
    (rw (c.in-Appoint.is, c.standing-stands.ensures, c.appointment_at.ensures, appointment_is _ _))
    (rw (c.in-Appoint.is, c.may_appoint.ensures))
    (passed _ _ c.in_ok-if_so-in-Appoint.ensures)
    (passed _ _ c.in_ok-if_so-in-Appoint-2.ensures)
    (rw c.in-Appoint.is) in
    record { value = a.0; looked_at = a.1 }

pub returns-in_err-if_so-in-Dismiss : goal.returns-in_err-if_so-in-Dismiss
unfolding already_so no_authority may
returns-in_err-if_so-in-Dismiss c =
    let a =
    not_entitled _ _ _
    (rw c.in-Dismiss.is)
    (rw (c.in-Dismiss.is, c.may_appoint-in-Dismiss.ensures, c.appointment_at-w.ensures, appointment_is _ _))
    refl
    (applied _ _ c.in_err-if_so-in-Dismiss.ensures)
    (refused _ _ c.in_err-if_so-in-Dismiss.ensures c.from_residual-in_err-if_so-in-Dismiss.ensures.1) in
    record { value = a.0; looked_at = a.1 }

pub returns-in_ok-if_so-in-Dismiss : goal.returns-in_ok-if_so-in-Dismiss
unfolding already_so no_authority may done
returns-in_ok-if_so-in-Dismiss c =
    let a =
    is_entitled _ _ _
    (rw c.in-Dismiss.is)
    (rw (c.in-Dismiss.is, c.may_appoint-in-Dismiss.ensures, c.appointment_at-w.ensures, appointment_is _ _))
    refl
    (passed _ _ c.in_ok-if_so-in-Dismiss.ensures)
    (rw c.in-Dismiss.is) in
    record { value = a.0; looked_at = a.1 }

pub returns-in_err-if_so-in-Grant : goal.returns-in_err-if_so-in-Grant
unfolding already_so
returns-in_err-if_so-in-Grant c =
    let a =
    is_so _ _ _
    (rw c.in-Grant.is (ap (λ (r : AccessRule). r.used) (c.rule_at.ensures ∙ sym (rule_is _ _))))
    (applied _ _ c.in_err-if_so-in-Grant.ensures)
    (refused _ _ c.in_err-if_so-in-Grant.ensures c.from_residual-in_err-if_so-in-Grant.ensures.1) in
    record { value = a.0; looked_at = a.1 }

pub returns-in_err-if_so-in-Grant-2 : goal.returns-in_err-if_so-in-Grant-2
unfolding already_so no_authority may
returns-in_err-if_so-in-Grant-2 c =
    let a =
    not_entitled _ _ _
    (rw c.in-Grant.is (ap (λ (r : AccessRule). r.used) (c.rule_at.ensures ∙ sym (rule_is _ _))))
    (rw (c.in-Grant.is, c.held-in-Grant.ensures))
    (passed _ _ c.in_ok-if_so-in-Grant.ensures)
    (applied _ _ c.in_err-if_so-in-Grant-2.ensures)
    (refused _ _ c.in_err-if_so-in-Grant-2.ensures c.from_residual-in_err-if_so-in-Grant-2.ensures.1) in
    record { value = a.0; looked_at = a.1 }

pub returns-in_ok-if_so-in-Grant-2 : goal.returns-in_ok-if_so-in-Grant-2
unfolding already_so no_authority may done
returns-in_ok-if_so-in-Grant-2 c =
    let a =
    is_entitled _ _ _
    (rw c.in-Grant.is (ap (λ (r : AccessRule). r.used) (c.rule_at.ensures ∙ sym (rule_is _ _))))
    (rw (c.in-Grant.is, c.held-in-Grant.ensures))
    (passed _ _ c.in_ok-if_so-in-Grant.ensures)
    (passed _ _ c.in_ok-if_so-in-Grant-2.ensures)
    (rw c.in-Grant.is) in
    record { value = a.0; looked_at = a.1 }

pub returns-in_err-if_so-in-Withdraw : goal.returns-in_err-if_so-in-Withdraw
unfolding already_so no_authority may may_withdraw
returns-in_err-if_so-in-Withdraw c =
    let a =
    not_entitled _ _ _
    (rw c.in-Withdraw.is)
    (rw (c.in-Withdraw.is, c.held-held-in-Withdraw.ensures, c.rule_at-rule.ensures, rule_is _ _))
    refl
    (applied _ _ c.in_err-if_so-in-Withdraw.ensures)
    (refused _ _ c.in_err-if_so-in-Withdraw.ensures c.from_residual-in_err-if_so-in-Withdraw.ensures.1) in
    record { value = a.0; looked_at = a.1 }

pub returns-in_ok-if_so-in-Withdraw : goal.returns-in_ok-if_so-in-Withdraw
unfolding already_so no_authority may may_withdraw done
returns-in_ok-if_so-in-Withdraw c =
    let a =
    is_entitled _ _ _
    (rw c.in-Withdraw.is)
    (rw (c.in-Withdraw.is, c.held-held-in-Withdraw.ensures, c.rule_at-rule.ensures, rule_is _ _))
    refl
    (passed _ _ c.in_ok-if_so-in-Withdraw.ensures)
    (rw c.in-Withdraw.is) in
    record { value = a.0; looked_at = a.1 }
