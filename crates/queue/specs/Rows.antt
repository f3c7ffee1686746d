-- How the code puts a record together.
use Rattle.std.specs.Prelude.{ℕ, ◌+◌, set, Result, Ok, Err}
use Rattle.queue.specs.declared.Queue.{Queue}
use Rattle.queue.specs.declared.Refused.{Refused}
use Rattle.queue.specs.Line.{refused_number}
use Rattle.queue.specs.Stored.{Joined}

-- One more waits, at the next place.
abbrev pub followed : Queue → ℕ → Queue
followed q u = record q { count = q.count + 1; waiting = set q.waiting q.count u }

-- A record with the number of a join.
abbrev pub joined_as : Queue → ℕ → Joined
joined_as q c = record { queue = q; code = c }

-- What the answer to a join says of the record q: the record after it, or that it stays as it is.
abbrev pub joined_of : Queue → Result Queue Refused → Joined
joined_of q (Ok after) = joined_as after 0
joined_of q (Err r) = joined_as q (refused_number r)
