-- From 10 on the tenth, by the call of itself, and then, as below 10, the last digit.
use Rattle.std.proofs.Common.{sym, arith, ◌≡◌, ◌/◌, ◌≤◌, ◌∷◌, [], ℕ}
use Rattle.text.specs.declared.Page.{Page}
use Rattle.text.specs.Text.{decimal, last_digit}
use Rattle.text.specs.Paging.{Puts}
use Rattle.text.proofs.Paging.{puts_then, puts_as}
use Rattle.text.proofs.Decimals.{decimal_last, decimal_more}
use Rattle.text.proofs.Page.+number.Goals.{then-x-ge10, else-x-ge10}
use Rattle.text.proofs.Page.+number.Goals as goal

tenth_and_last : {p q r : Page} {tenth : ℕ} (x : ℕ) → 10 ≤ x → Puts p (decimal tenth) q → tenth ≡ x / 10 → Puts q (last_digit x ∷ []) r
    → Puts p (decimal x) r
tenth_and_last x h front e last = puts_as (sym (decimal_more x h)) (puts_then (rw e at front) last)

pub returns : goal.returns
returns t c = elim c.if-x-ge10.branch [
  | then-x-ge10 w ↦ tenth_and_last _ w.if-x-ge10.true w.number.ensures (omega arith) (rw w.self-is at c.byte.ensures)
  | else-x-ge10 w ↦ puts_as (decimal_last _ w.if-x-ge10.false) (rw w.self-is at c.byte.ensures)
]
