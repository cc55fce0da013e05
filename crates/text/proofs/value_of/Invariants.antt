-- With what has been read in front, the bytes to come give the word's number, as far as 2^32. Assumes nothing.
use mathlib.Core.Path.{◌≡◌}
use Prim.Native.Nat.{◌≤◌}
use lib.ListN.{drop}
use Rattle.text.specs.Decimal.{over}
use Rattle.text.proofs.Reading.{read}
use Rattle.text.proofs.value_of.Given as goal

abbrev pub invariant-loop-byte : goal.invariant-loop-byte
invariant-loop-byte l = (l.v ≤ over) × (read l.v (drop l.byte-index l.word) ≡ read 0 l.word)
