-- What is put on a page, one text behind the other.
use mathlib.Core.Path.{◌≡◌, refl, ◌∙◌}
use mathlib.Core.List.{[], ◌∷◌, ◌++◌}
use Prim.Native.Nat.{ℕ}
use Rattle.text.specs.declared.Page.{Page}
use Rattle.text.specs.Text.{Bytes, Printed}
use Rattle.text.specs.Paging.{Puts}
use Rattle.text.proofs.Writing.{wrote_none, wrote_as, wrote_then, printed_of_wrote}

-- Nothing put is no change.
pub puts_none : (p : Page) → Puts p [] p
puts_none p = record { wrote = wrote_none p.out.now p.at; same = refl }

-- Equal texts are put alike.
pub puts_as : {p q : Page} {v w : Bytes} → v ≡ w → Puts p v q → Puts p w q
puts_as e f = record { wrote = wrote_as e f.wrote; same = f.same }

-- Two texts put one after the other are their join, put.
pub puts_then : {p q r : Page} {v w : Bytes} → Puts p v q → Puts q w r → Puts p (v ++ w) r
puts_then e f = record { wrote = wrote_then e.wrote f.wrote; same = f.same ∙ e.same }

-- A text and behind it one byte, however that byte was worked out.
pub puts_sign : {p q r : Page} {v : Bytes} {byte : ℕ} (sign : ℕ) → Puts p v q → Puts q (byte ∷ []) r → byte ≡ sign
    → Puts p (v ++ (sign ∷ [])) r
puts_sign sign e f is = puts_then e (rw is at f)

-- What is put on a page that begins at the start of its buffer stands there.
pub printed_page : {p q : Page} {out w : Bytes} → p.at ≡ 0 → p.out.now ≡ out → Puts p w q → Printed out w q.out.now q.at
printed_page e f puts = printed_of_wrote (rw (e, f) at puts.wrote)
