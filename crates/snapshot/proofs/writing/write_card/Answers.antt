-- `write_card` answers by the three cases of its contract: not sound, too few bytes, and else the file, penned over the first of them.
use Rattle.std.proofs.Common.{arith, ap, ℕ, ◌≤◌, ◌<◌, Ok, refl}
use Rattle.reach.proofs.Testing.{refuted}
use Rattle.snapshot.specs.Answers.{Writes}
use Rattle.snapshot.proofs.Penning.{over_of_bytes}
use Rattle.snapshot.proofs.writing.write_card.Goals as goal

enough : (room n : ℕ) → (room < n → ⊥) → n ≤ room
enough room n few = omega (arith, few)

pub returns-then-not-is_sound : goal.returns-then-not-is_sound
returns-then-not-is_sound c = Writes.damaged (refuted c.is_sound.ensures c.if-not-is_sound.true) refl refl

pub returns-then-too_few : goal.returns-then-too_few
returns-then-too_few c =
    Writes.short
    (c.is_sound.ensures.sound c.if-not-is_sound.false)
    (c.too_few.ensures.sound c.if-too_few.true)
    refl
    refl

pub returns : goal.returns
returns c =
    let room = enough _ _ (refuted c.too_few.ensures c.if-too_few.false) in
    Writes.done
    (c.is_sound.ensures.sound c.if-not-is_sound.false)
    room
    (ap (λ (n : ℕ). Ok n) c.pen_card.ensures.count)
    (over_of_bytes _ _ c.pen_card.ensures.bytes room)
