-- How the writer goes, for the contracts of its parts. What it answers is said in Answers, with no word of this.
use Rattle.std.specs.Prelude.{◌≡◌, ℕ, ◌+◌, ◌-◌, ◌^◌, min, length, List, Option, Some, None}
use Rattle.std.specs.List.{slice_get}
use Rattle.reach.specs.Words.{has}
use Rattle.text.specs.Text.{Bytes}
use Rattle.text.specs.declared.Page.{Page}
use Rattle.text.specs.Paging.{Puts}
use Rattle.snapshot.specs.declared.Entry.{Entry}
use Rattle.snapshot.specs.declared.writing.Writer.{Writer}
use Rattle.snapshot.specs.Card.{bytes_of, membership_of, from}

-- The buffer and the place, as a page.
abbrev pub page_of : Writer → Page
page_of w = record { out = w.out; at = w.pen.at }

-- The writer's pen has counted n bytes. The count stops at the largest number.
abbrev pub Counts : Writer → ℕ → Type 0
Counts w n = w.pen.needed ≡ min n (2 ^ 64 - 1)

-- The text is put on the writer's page, as much of it as there is room for, and counted whole.
pub record Penned (w : Writer) (text : Bytes) (w' : Writer) : Type 0 where
  pub puts : Puts (page_of w) text (page_of w')
  pub count : (n : ℕ) → Counts w n → Counts w' (n + length text)

-- The memberships of x in the groups of a set.
abbrev pub row_of : ℕ → ℕ → Bytes
row_of groups x = from 64 0 (λ g. bytes_of (membership_of (has groups g) x g))

-- What stands at place i of a table, as f tells it of what the place holds; past the table nothing.
abbrev pub held : {A : Type 0} → (A → ℕ → Option Entry) → ℕ → Option A → Option Entry
held f i None = None
held f i (Some w) = f w i

abbrev pub entry_in : {A : Type 0} → (A → ℕ → Option Entry) → List A → ℕ → Option Entry
entry_in f l i = held f i (slice_get l i)
