-- The waiters on a line: one more behind others is a space and his number behind theirs. By induction on the others.
use mathlib.Core.Path.{◌≡◌, ap}
use mathlib.Core.List.{List, [], ◌∷◌, ◌++◌, append_assoc, append-nil}
use Prim.Native.Nat.{ℕ, ◌+◌, ◌<◌, ◌≤◌}
use native.Mathlib.Numerals.{add-one}
use lib.ListN.{length, take, get_or}
use lib.Seq.{take-suc, take_all}
use Rattle.text.specs.declared.Page.{Page}
use Rattle.text.specs.Text.{Bytes, decimal}
use Rattle.text.specs.Paging.{Puts}
use Rattle.text.proofs.Paging.{puts_none, puts_as, puts_then}
use Rattle.queue_run.specs.Output.{spaced}

spaced_last : (ws : List ℕ) (w : ℕ) → spaced (ws ++ (w ∷ [])) ≡ spaced ws ++ ((32 ∷ []) ++ decimal w)
unfolding spaced
spaced_last [] w = rw append-nil
spaced_last (x ∷ ws) w = rw (spaced_last ws w, append_assoc)

-- Nobody is written with nothing.
pub spaced_start : (p : Page) → Puts p (spaced []) p
unfolding spaced
spaced_start p = puts_none p

-- The next waiter follows those before him.
pub spaced_next : (ws : List ℕ) (i : ℕ) {p q r s : Page} {byte w : ℕ} → i < length ws → Puts p (spaced (take i ws)) q
    → Puts q (byte ∷ []) r → byte ≡ 32 → Puts r (decimal w) s → w ≡ get_or ws i 0 → Puts p (spaced (take (i + 1) ws)) s
spaced_next ws i low so_far space e number f =
    rw (add-one, take-suc ws i 0 low, spaced_last) (puts_then so_far (puts_then (rw e at space) (rw f at number)))

-- All are written.
pub spaced_end : (ws : List ℕ) (i : ℕ) {p q : Page} → length ws ≤ i → Puts p (spaced (take i ws)) q → Puts p (spaced ws) q
spaced_end ws i h puts = puts_as (ap spaced (take_all i ws h)) puts
