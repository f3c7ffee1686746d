-- The measure is the number, since a tenth is less from 10 on.
use Rattle.text.proofs.Page.+number.Given as goal

abbrev pub decreases-number : goal.decreases-number
decreases-number l = l.x
