-- What each request does, were it accepted.
use Rattle.reach.specs.declared.Policy.{Policy}
use Rattle.reach.specs.Successors.{made, put, taken, appointed, dismissed, granted, withdrawn}
use Rattle.rules.specs.declared.Request.{Request}
use Rattle.rules.specs.declared.Request.TheVariants.{Make, Put, Take, Appoint, Dismiss, Grant, Withdraw, Use}

-- [01:who.3] [01:who.4] MAKE, [01:who.6] PUT and TAKE, [01:who.10] "Fills or empties that place.", [01:who.12] USE "Changes nothing.",
-- [01:who.13] "No withdrawal cascades: what a dismissed member did stands.": each is the one change that its name says.
unfoldable pub after : Policy → Request → Policy
after p (Make i s g) = made p i s g
after p (Put x g) = put p x g
after p (Take x g) = taken p x g
after p (Appoint i k h a b) = appointed p i (record { kind = k; holder = h; a = a; b = b })
after p (Dismiss i) = dismissed p i
after p (Grant i u t o) = granted p i u t o
after p (Withdraw i) = withdrawn p i
after p (Use x k) = p
