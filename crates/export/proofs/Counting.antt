-- What `selkaum_lines` tells of a report, from the laws of reports: it goes by the number of lines alone.
use mathlib.Core.Path.{◌≡◌, sym, ◌∙◌}
use Prim.Native.Nat.{ℕ, ◌^◌, ◌<◌}
use native.Mathlib.Omega.{arith}
use lib.ListN.{length}
use Rattle.frame.specs.Reading.{steps_of}
use Rattle.text.specs.Text.{Bytes}
use Rattle.list.proofs.Lining.{report_room, report_feeds, report_cut}
use Rattle.export.specs.Counted.{LinesTold}

pub lines_told : (input : Bytes) (r : ℕ) → length input < 2 ^ 64 → r ≡ steps_of input → LinesTold input r
lines_told input r h e =
    record {
      count = e;
      room = rw e (report_room input h);
      whole = report_feeds input ∙ sym e;
      cut = λ buffer buffer' n printed short. omega (arith, e, report_cut input printed short);
    }
