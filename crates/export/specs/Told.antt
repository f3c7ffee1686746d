-- What C and Rust are told of a record that is refused for own gain: the first permission that it would give its sender, in two bytes.
use Rattle.std.specs.Prelude.{◌≡◌, Bool, true, ◌&&◌, [], ◌∷◌, ℕ, eqb, leb, length, Option, Some, None}
use Rattle.reach.specs.Tests.{◌⇒◌∥◌}
use Rattle.gains.specs.declared.Permission.{Permission}
use Rattle.judge.specs.Telling.{OwnGainOf}
use Rattle.text.specs.Text.{Bytes}
use Rattle.list.specs.Filling.{over}
use Rattle.export.specs.Picture.{policy_of}

-- The target and the operation; or no bytes, for none.
abbrev pub gain_bytes : Option Permission → Bytes
gain_bytes (Some w) = w.target ∷ w.operation ∷ []
gain_bytes None = []

-- Whether the picture has its 960 bytes and the buffer room for a gain.
abbrev pub gain_fits : Bytes → Bytes → Bool
gain_fits picture buffer = eqb (length picture) 960 && leb 2 (length buffer)

-- The buffer after the call, and the result: the gain that is told, of the policy of the picture, in the first bytes of the buffer, and how
-- many they are. Bytes behind it stay as they were. Where the picture isn't 960 bytes or the buffer is shorter than 2, nothing is written,
-- and the result is 0.
pub record GainTold (picture bytes buffer buffer' : Bytes) (n : ℕ) : Type 0 where
  pub gain : Option Permission
  pub told : gain_fits picture buffer ≡ true → OwnGainOf (policy_of picture) bytes gain
  pub written : buffer' ≡ (gain_fits picture buffer ⇒ over (gain_bytes gain) buffer ∥ buffer)
  pub count : n ≡ (gain_fits picture buffer ⇒ length (gain_bytes gain) ∥ 0)
