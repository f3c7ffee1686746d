-- In each of the two sets its holder, if its kind and its A are those asked for, and else nothing.
use mathlib.Core.Path.{◌≡◌}
use mathlib.Core.Bool.{Bool, true}
use Prim.Native.Nat.{ℕ, ◌<◌}
use Rattle.reach.specs.declared.Appointment.{Appointment}
use Rattle.reach.specs.Words.{bit, has, SetOf}
use Rattle.reach.proofs.Testing.{decides_at}
use Rattle.reach.proofs.WordSets.{set_as, set_none, has_decides}
use Rattle.gains.specs.Lacking.{HolderOf}
use Rattle.gains.proofs.handing.holder_of.Goals as goal

-- The set of one, if its A is in the other set.
holder-if : (w : Appointment) (kind over : ℕ) {s one : ℕ} {t : Bool} → w.kind ≡ kind → t ≡ has over w.a
    → SetOf one (λ u. (u < 64) × (w.holder ≡ u)) → SetOf s (λ u. (t ≡ true) × (bit one u ≡ 1))
    → SetOf s (λ u. (u < 64) × HolderOf w kind over u)
holder-if w kind over k e o s =
    let d = decides_at e (has_decides over w.a) in
    set_as
    s
    (λ u v. let h = o.only u v.1 in (h.0, record { is_kind = k; in_a = d.sound v.0; is_holder = h.1 }))
    (λ u h. (d.complete h.1.in_a, o.all u (h.0, h.1.is_holder)))

pub returns-then-w-kind-clause-object : goal.returns-then-w-kind-clause-object
returns-then-w-kind-clause-object c = set_none (λ u h. c.if-w-kind.true h.1.is_kind)

pub returns-then-w-kind-clause-group : goal.returns-then-w-kind-clause-group
returns-then-w-kind-clause-group c = set_none (λ u h. c.if-w-kind.true h.1.is_kind)

pub returns-clause-object : goal.returns-clause-object
returns-clause-object c = holder-if _ _ _ c.if-w-kind.false c.has.ensures c.just-holder.ensures c.only_if.ensures

pub returns-clause-group : goal.returns-clause-group
returns-clause-group c = holder-if _ _ _ c.if-w-kind.false c.has-2.ensures c.just-holder.ensures c.only_if-2.ensures
