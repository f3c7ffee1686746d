-- The waiting line at one radio, and what each event does to it.
use Rattle.std.specs.Prelude.{Bool, true, false, not, ◌||◌, List, [], ◌∷◌, ◌++◌, ℕ, ◌-◌, eqb, ltb, length, Result, Ok, Err}
use Rattle.reach.specs.declared.Policy.{Policy}
use Rattle.reach.specs.Tests.{◌⇒◌∥◌}
use Rattle.reach.specs.Privileges.{permitted}
use Rattle.rules.specs.Judging.{number_of}
use Rattle.queue.specs.declared.Refused.{Refused}
use Rattle.queue.specs.declared.Refused.TheVariants.{Use, InLine, Full}

-- [02:4.1] "Up to 8 may wait, first come first served, besides the one holding it." The radio is free, and nobody
-- waits; or it is held: by whom, how many ticks are left of his turn, and who waits, in the order in which they came.
pub data Line : Type 0 where
  free : Line
  held : ℕ → ℕ → List ℕ → Line

-- [02:4.3] "N from 1 to 600; 0 counts as 1, more than 600 as 600."
unfoldable pub counted : ℕ → ℕ
counted n = eqb n 0 ⇒ 1 ∥ ltb 600 n ⇒ 600 ∥ n

-- [02:4.7] ".. then permitted operation 2": u on the gear x, by the policy p of the event.
unfoldable pub may_transmit : Policy → ℕ → ℕ → Bool
may_transmit p x u = permitted p u 2 x

-- ---- Who is in the line

-- u is one of these.
unfoldable pub is_in : ℕ → List ℕ → Bool
is_in u [] = false
is_in u (w ∷ ws) = eqb w u || is_in u ws

-- All of these but u, in their order.
unfoldable pub without : ℕ → List ℕ → List ℕ
without u [] = []
without u (w ∷ ws) = eqb w u ⇒ without u ws ∥ w ∷ without u ws

-- [02:4.13] ".. one who waits or holds"
abbrev pub there : ℕ → Line → Bool
there u free = false
there u (held h t ws) = eqb h u || is_in u ws

-- [02:4.13] ".. line full, when the radio is held and 8 wait"
abbrev pub full : Line → Bool
full free = false
full (held h t ws) = eqb (length ws) 8

abbrev pub is_free : Line → Bool
is_free free = true
is_free (held h t ws) = false

-- ---- The events. `may` says who is permitted to transmit, and n is N as it counts.

-- [02:4.7] The call "hands the radio to the first waiter then permitted operation 2 and strikes all ahead of him; if
-- none is permitted, all are struck."
unfoldable pub called : (ℕ → Bool) → ℕ → List ℕ → Line
called may n [] = free
called may n (w ∷ ws) = may w ⇒ held w n ws ∥ called may n ws

-- [02:4.1] ".. first come first served": he goes to the end of the line. [02:4.6] "The last step .. of an accepted join
-- while it is free, is a call."
abbrev pub joined_by : (ℕ → Bool) → ℕ → ℕ → Line → Line
joined_by may n u free = called may n (u ∷ [])
joined_by may n u (held h t ws) = held h t (ws ++ u ∷ [])

-- [02:4.6] "The last step of an event that freed the radio .. is a call": here the holder left. When a waiter leaves,
-- nothing else changes (D46).
abbrev pub left_by : (ℕ → Bool) → ℕ → ℕ → Line → Line
left_by may n u free = free
left_by may n u (held h t ws) = eqb h u ⇒ called may n ws ∥ held h t (without u ws)

-- [02:4.3] "A turn ends at the N-th tick after it began", and a call follows. [02:4.8] "A holder keeps his turn though
-- his permit ends": he is not asked again.
abbrev pub ticked : (ℕ → Bool) → ℕ → Line → Line
ticked may n free = free
ticked may n (held h t ws) = eqb t 1 ⇒ called may n ws ∥ held h (t - 1) ws

-- [02:4.13] "a join fails first with the USE refusals of document 01, then 15 already there, for one who waits or
-- holds, then 16 line full": the number, where `refusal` is that of the USE refusal, 0 for none.
abbrev pub join_code : ℕ → ℕ → Line → ℕ
join_code refusal u l = not (eqb refusal 0) ⇒ refusal ∥ there u l ⇒ 15 ∥ full l ⇒ 16 ∥ 0

-- [02:4.13] The number of each refusal: "the USE refusals of document 01, then 15 already there, .. then 16 line full".
abbrev pub refused_number : Refused → ℕ
refused_number (Use r) = number_of r
refused_number InLine = 15
refused_number Full = 16

-- The number of an answer, 0 for an accepted join.
abbrev pub answer_code : Result (Unit {0}) Refused → ℕ
answer_code (Ok none) = 0
answer_code (Err r) = refused_number r
