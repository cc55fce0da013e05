-- A list of numbers that is a list of bytes, as every image is that a call is lent. Assumes nothing.
use Rattle.std.specs.Prelude.{ℕ, ◌<◌, List, length, get_or}

pub record Bytes (bytes : List ℕ) : Type 0 where
  pub each : (i : ℕ) → i < length bytes → get_or bytes i 0 < 256
