-- `word_from` has eight bytes of the picture, and the library makes the number of them.
use Rattle.std.proofs.Common.{rules, ◌≡◌, ◌+◌, ◌∙◌, List, ℕ}
use Rattle.std.proofs.lemmas.Grind.{common_steps}
use Rattle.std.specs.Int.{from_le_bytes, w64}
use Rattle.frame.specs.Fields.{byte}
use Rattle.export.specs.Picture.{table}
use Rattle.export.proofs.Tabling.{table_called, word_of_eight}
use Rattle.export.proofs.reading.word_from.Goals as goal

pub returns : goal.returns
returns c =
    let at = c.args.at in
    let eight : c.from_fn.result ≡ table 8 (λ k. byte c.args.picture.now (at + k)) =
    table_called _ 8 _ _ (λ i x q h k. (search rules, search rules)) _ c.from_fn.ensures.items
    in
    c.from_le_bytes.ensures ∙ rw eight (word_of_eight c.args.picture.now at)
