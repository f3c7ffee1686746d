-- Who may send what. [01:who.1] "All of this is tested on the sheet before the request."
use Rattle.std.specs.Prelude.{Bool, ◌&&◌, ◌||◌, ℕ, eqb}
use Rattle.reach.specs.declared.Policy.{Policy}
use Rattle.reach.specs.declared.Appointment.{Appointment}
use Rattle.reach.specs.declared.AccessRule.{AccessRule}
use Rattle.reach.specs.Tests.{◌⇒◌∥◌}
use Rattle.reach.specs.Tables.{appointment, rule}
use Rattle.reach.specs.Privileges.{administrator, owns, manages, administers, permitted}
use Rattle.rules.specs.declared.Request.{Request}
use Rattle.rules.specs.declared.Request.TheVariants.{Make, Put, Take, Appoint, Dismiss, Grant, Withdraw, Use}

-- Owns or manages.
abbrev pub governs : Policy → ℕ → ℕ → Bool
governs p u x = owns p u x || manages p u x

-- [01:who.7] "APPOINT, DISMISS of owner or manager: owns A." [01:who.8] "Of an administrator: manages A and manages B."
unfoldable pub may_appoint : Policy → ℕ → Appointment → Bool
may_appoint p u w = eqb w.kind administrator ⇒ manages p u w.a && manages p u w.b ∥ owns p u w.a

-- [02:1.2] "WITHDRAW is accepted from a member who administers (U, T) or who owns T."
unfoldable pub may_withdraw : Policy → ℕ → AccessRule → Bool
may_withdraw p u r = administers p u r.users r.targets || owns p u r.targets

-- [01:who.2] "MAKE: owns or manages the group." [01:who.5] "PUT, TAKE: owns or manages the object, and owns or manages the group."
-- [01:who.9] "GRANT, WITHDRAW: administers (U, T) by one warrant."; [02:1.4] "GRANT keeps its condition." [01:who.11] "USE: is permitted."
-- DISMISS and WITHDRAW go by the numbers that the place holds (D17).
unfoldable pub may : Policy → ℕ → Request → Bool
may p u (Make i s g) = governs p u g
may p u (Put x g) = governs p u x && governs p u g
may p u (Take x g) = governs p u x && governs p u g
may p u (Appoint i k h a b) = may_appoint p u (record { kind = k; holder = h; a = a; b = b })
may p u (Dismiss i) = may_appoint p u (appointment p i)
may p u (Grant i v t o) = administers p u v t
may p u (Withdraw i) = may_withdraw p u (rule p i)
may p u (Use x k) = permitted p u k x
