-- What a change from the policy p to the policy n gives and hands over.
use Rattle.std.specs.Prelude.{Bool, not, ◌&&◌, ◌||◌, ℕ}
use Rattle.reach.specs.declared.Policy.{Policy}
use Rattle.reach.specs.Tests.{some}
use Rattle.reach.specs.Reach.{in_use}
use Rattle.reach.specs.Privileges.{owns, manages, administers, permitted}

-- [01:reach.8] "A request gives a holding if he has it after and lacked it before, where every object in it was in use before."
-- [01:reach.9] "An object that the request itself makes is never counted."
abbrev pub comes_to_own : Policy → Policy → ℕ → ℕ → Bool
comes_to_own p n u x = in_use p x && owns n u x && not (owns p u x)

abbrev pub comes_to_manage : Policy → Policy → ℕ → ℕ → Bool
comes_to_manage p n u x = in_use p x && manages n u x && not (manages p u x)

abbrev pub comes_to_administer : Policy → Policy → ℕ → ℕ → ℕ → Bool
comes_to_administer p n u a b = in_use p a && in_use p b && administers n u a b && not (administers p u a b)

abbrev pub comes_to_use : Policy → Policy → ℕ → ℕ → ℕ → Bool
comes_to_use p n u x k = in_use p x && permitted n u k x && not (permitted p u k x)

-- [01:reach.7] "His holdings are these four sets."
unfoldable pub gives : Policy → Policy → ℕ → Bool
gives p n u =
    some 64 (comes_to_own p n u)
    || some 64 (comes_to_manage p n u)
    || some 64 (λ a. some 64 (comes_to_administer p n u a))
    || some 64 (λ x. some 8 (comes_to_use p n u x))

-- Some user comes to own or manage an object that u does not own before.
unfoldable pub hands_over : Policy → Policy → ℕ → Bool
hands_over p n u = some 64 (λ x. not (owns p u x) && some 64 (λ w. comes_to_own p n w x || comes_to_manage p n w x))
