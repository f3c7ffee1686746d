-- `policy_of` makes the four tables, each by a call at each place.
use Rattle.std.proofs.Common.{rules, ◌≡◌, refl}
use Rattle.export.specs.Picture.{policy_of, table, sort_at, row_at, appointment_at, rule_at}
use Rattle.export.proofs.Tabling.{table_called}
use Rattle.export.proofs.reading.policy_of.Goals as goal

pub returns : goal.returns
unfolding policy_of
returns c =
    let b = c.args.picture.now in
    let sorts : c.from_fn.result ≡ table 64 (sort_at b) =
    table_called _ 64 _ _ (λ i x q h k. (search rules, search rules)) _ c.from_fn.ensures.items in
    let rows : c.from_fn-2.result ≡ table 64 (row_at b) =
    table_called _ 64 _ _ (λ i x q h k. (search rules, search rules)) _ c.from_fn-2.ensures.items in
    let appointments : c.from_fn-3.result ≡ table 32 (appointment_at b) =
    table_called _ 32 _ _ (λ i x q h k. (search rules, search rules)) _ c.from_fn-3.ensures.items in
    let in_force : c.from_fn-4.result ≡ table 64 (rule_at b) =
    table_called _ 64 _ _ (λ i x q h k. (search rules, search rules)) _ c.from_fn-4.ensures.items in
    rw (sorts, rows, appointments, in_force)
