-- The set is of those who hold the group and not the object, in one of the two ways; some one of them is a user.
use mathlib.Core.Path.{refl}
use native.Mathlib.Omega.{arith}
use Rattle.gains.proofs.PutOver.{holders_at, some_lacks}
use Rattle.gains.proofs.handing.hands_over.Goals as goal

pub returns : goal.returns
returns c = λ x g o s.
    let p = c.args.p.now in
    let owners = c.holders-owners.ensures in
    let managers = c.holders-managers.ensures in
    some_lacks p o s
    (holders_at p.appointments 1 _ owners.group (omega arith) (omega arith))
    (holders_at p.appointments 1 _ owners.object (omega arith) (omega arith))
    (holders_at p.appointments 2 _ managers.group (omega arith) (omega arith))
    (holders_at p.appointments 2 _ managers.object (omega arith) (omega arith))
    (rw c.objects.ensures.sorts at c.some_user.ensures)
    refl
