-- Each `&&` takes one more of the tests that `is_held` joins.
use mathlib.Core.Bool.{Bool, true, false, not, ◌&&◌}
use lib.Dec.{eqb, leb, ltb}
use borrow.Author.Tests.{eq-eqb, ne_eqb}
use Rattle.std.proofs.Common.{◌≡◌, refl, ◌∙◌, sym, ap}
use Rattle.queue.specs.Line.{counted, is_in}
use Rattle.queue.specs.Stored.{is_held, fit, waiters}
use Rattle.queue.proofs.Placing.{in_waiters}
use Rattle.queue.proofs.Queue.is_held.Goals.{then-self-eq1, else-self-eq1, then-self-le8, else-self-le8, then-self-ge1, else-self-ge1}
use Rattle.queue.proofs.Queue.is_held.Goals.{then-self-counted, else-self-counted, then-self-lt64, else-self-lt64, Joined-self-lt64}
use Rattle.queue.proofs.Queue.is_held.Goals as goal

-- One `&&`: where those before it hold it is the next test, and else it is they.
next : (b : Bool) {a v : Bool} → a ≡ true → v ≡ b → v ≡ (a && b)
next b e f = rw e f

stop : (b : Bool) {a v : Bool} → a ≡ false → v ≡ a → v ≡ (a && b)
stop b e f = rw e (f ∙ e)

sooner : (t l n f : Bool) → (t && l && n && f) ≡ (t && (l && n && f))
sooner true l n f = refl
sooner false l n f = refl

-- All but the last.
tested : (c : Joined-self-lt64) → let q = c.args.self in c.if-self-lt64.value
    ≡ (eqb q.held 1 && leb q.count 8 && leb 1 q.left && leb q.left (counted q.turn) && ltb q.holder 64 && not (is_in q.holder (waiters q)))
tested c =
    let q = c.args.self in
    let few : c.if-self-eq1.value ≡ (eqb q.held 1 && leb q.count 8) =
    elim c.if-self-eq1.branch [
      | then-self-eq1 w ↦ next _ (eq-eqb _ _ w.if-self-eq1.true) w.value-is
      | else-self-eq1 w ↦ stop _ (ne_eqb _ _ w.if-self-eq1.false) w.value-is
    ] in
    let some : c.if-self-le8.value ≡ (c.if-self-eq1.value && leb 1 q.left) =
    elim c.if-self-le8.branch [
      | then-self-le8 w ↦ next _ w.if-self-le8.true w.value-is
      | else-self-le8 w ↦ stop _ w.if-self-le8.false w.value-is
    ] in
    let within : c.if-self-ge1.value ≡ (c.if-self-le8.value && leb q.left (counted q.turn)) =
    elim c.if-self-ge1.branch [
      | then-self-ge1 w ↦ next _ w.if-self-ge1.true (w.value-is ∙ ap (leb q.left) w.counted.ensures)
      | else-self-ge1 w ↦ stop _ w.if-self-ge1.false w.value-is
    ] in
    let user : c.if-self-counted.value ≡ (c.if-self-ge1.value && ltb q.holder 64) =
    elim c.if-self-counted.branch [
      | then-self-counted w ↦ next _ w.if-self-counted.true w.value-is
      | else-self-counted w ↦ stop _ w.if-self-counted.false w.value-is
    ] in
    let once : c.if-self-lt64.value ≡ (c.if-self-counted.value && not (is_in q.holder (waiters q))) =
    elim c.if-self-lt64.branch [
      | then-self-lt64 w ↦
          next _ w.if-self-lt64.true
          (w.value-is ∙ ap not (in_waiters q q.holder w.contains.ensures.value c.waiters-waiters.ensures.value))
      | else-self-lt64 w ↦ stop _ w.if-self-lt64.false w.value-is
    ] in
    rw (once, user, within, some, few)

pub returns-then-not-contains : goal.returns-then-not-contains
unfolding is_held fit
returns-then-not-contains c =
    let q = c.args.self in
    let tests = tested (goal.at.returns-then-not-contains c).Joined-self-lt64 in
    next _ (sym tests ∙ c.if-not-contains.true) (c.fits.ensures ∙ ap fit c.waiters-waiters.ensures.value)
    ∙ sooner _ (ltb q.holder 64) (not (is_in q.holder (waiters q))) (fit (waiters q))

pub returns-else-not-contains : goal.returns-else-not-contains
unfolding is_held fit
returns-else-not-contains c =
    let q = c.args.self in
    let tests = tested (goal.at.returns-else-not-contains c).Joined-self-lt64 in
    stop _ (sym tests ∙ c.if-not-contains.false) tests
    ∙ sooner _ (ltb q.holder 64) (not (is_in q.holder (waiters q))) (fit (waiters q))
