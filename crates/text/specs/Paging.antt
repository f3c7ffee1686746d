-- A page is a lent buffer, and the place where the next byte goes.
use Rattle.std.specs.Prelude.{◌≡◌}
use Rattle.text.specs.declared.Page.{Page}
use Rattle.text.specs.Text.{Bytes, Wrote}

-- A page became another by the text put on it: `Wrote` of its buffer and its place. It is a page of the same buffer still.
pub record Puts (p : Page) (text : Bytes) (p' : Page) : Type 0 where
  pub wrote : Wrote p.out.now p.at text p'.out.now p'.at
  pub same : p'.out.ghost_name ≡ p.out.ghost_name
