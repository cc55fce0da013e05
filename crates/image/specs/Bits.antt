-- How the code tests the bytes of an instruction at once: the kinds by the bits that are 0 in a good byte. Nothing of it is to be believed: the proof of
-- `Instruction::is_good` compares it with the table. Assumes nothing.
use Rattle.std.specs.Prelude.{ℕ, ◌+◌, ◌*◌, ◌≡◌, Bool, cond, Option, Some, None}
use Rattle.image.specs.declared.instruction.Row.{Row}
use Rattle.image.specs.Instruction.{Kind, Kinds, register, unused, skip, free, known, kinds_of}

-- a register is below 8, an unused byte is 0, a skip's length is below 32
unfoldable pub zeros : Kind → ℕ
zeros register = 248
zeros unused = 255
zeros skip = 224
zeros free = 0

-- four bytes as one number
abbrev pub packed : (op a b c : ℕ) → ℕ
packed op a b c = op + 256 * a + 65536 * b + 16777216 * c

-- the bits that are 0 in a good instruction of an operation, whose own byte is below 16; 255 where there is no row
unfoldable pub bits_of : ℕ → ℕ
bits_of op = cond (known op) (packed 240 (zeros (kinds_of op).a) (zeros (kinds_of op).b) (zeros (kinds_of op).c)) 255

-- the row of an operation, as the code has it; none of one that is not known
abbrev pub kinds_row : Kinds → Row
kinds_row k = record { a = zeros k.a; b = zeros k.b; c = zeros k.c }

unfoldable pub row_of : ℕ → Option Row
row_of op = cond (known op) (Some (kinds_row (kinds_of op))) None

-- an answer about a byte whose kind the code has so: it is that of the test of this kind
pub record ByKind (kind : ℕ) (test : Kind → Bool) (r : Bool) : Type 0 where
  pub of_kind : (k : Kind) → kind ≡ zeros k → r ≡ test k
