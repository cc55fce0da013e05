-- An image is written from its first byte to its last: the header, the ends, the bytes; here of two lists of programs, one behind the other.
-- Assumes nothing.
use mathlib.Core.Path.{◌≡◌}
use mathlib.Core.List.{List, ◌++◌, append_assoc}
use Prim.Native.Nat.{ℕ, ◌+◌}
use lib.ListN.{length}
use Rattle.image.specs.Limits.{head_bytes}
use Rattle.writer.specs.Joined.{joined, ends, offsets, image_of}
use Rattle.writer.specs.Writing.{header}
use Rattle.writer.proofs.Programs.{joined_append, ends_append}

module _ (rule : ℕ) (ps qs : List (List ℕ)) where
  abbrev pub first : ℕ
  first = head_bytes (length (ps ++ qs))

  pub image_both : image_of rule (ps ++ qs)
      ≡ header (length (ps ++ qs)) rule ++ ends first ps ++ ends (first + length (joined ps)) qs ++ joined ps ++ joined qs
  unfolding image_of offsets header
  image_both = rw (ends_append first ps qs, joined_append ps qs) (simp append_assoc)
