-- Laws of the place of a bad instruction in words: how long it is, and what is said of an image. Assumes nothing.
use Prim.Native.Nat.{ℕ, ◌≤◌, ◌<◌}
use mathlib.Core.Path.{◌≡◌}
use mathlib.Core.List.{List, [], ◌∷◌, ◌++◌}
use native.Mathlib.Omega.{arith}
use lib.ListN.{length, length-append}
use Rattle.std.specs.Prelude.{Err}
use Rattle.text.specs.Ascii.{ascii}
use Rattle.text.specs.Decimal.{decimal}
use Rattle.text.proofs.Decimals.{wide_short}
use Rattle.text.proofs.Fillings.{filled_short}
use Rattle.image.specs.declared.refusals.Fault.{Fault}
use Rattle.image.specs.declared.refusals.Fault.TheVariants as fault
use Rattle.image.specs.declared.refusals.BadInstruction.{BadInstruction}
use Rattle.image.specs.declared.refusals.ImageRefusal.TheVariants.{Instruction}
use Rattle.image.specs.Instruction.{instructions_of}
use Rattle.image.specs.Image.{part_of, Lies, refusal_of}
use Rattle.image.proofs.There.{refusal_stands}
use Rattle.refused.specs.Where.{wrong_text, place_text, where_text, where_at_line, most_where, most_where_at_line}

-- ---- how long it is

-- no text is longer than the last
wrong_short : (f : Fault) → length (wrong_text f) ≤ 31
unfolding wrong_text
wrong_short fault.Operation = omega arith
wrong_short fault.Register = omega arith
wrong_short fault.Unused = omega arith
wrong_short fault.Skip = omega arith

-- numbers of 32 bits
pub where_short : (bad : BadInstruction) (byte : ℕ) → bad.program < 4294967296 → bad.instruction < 4294967296 → byte < 4294967296
    → length (where_text bad byte) ≤ most_where
unfolding where_text
where_short bad byte p i b =
    rw length-append
    (omega (
      arith,
      filled_short place_text (bad.program ∷ bad.instruction ∷ []) (p, (i, tt)),
      filled_short (wrong_text bad.fault) (byte ∷ []) (b, tt),
      wrong_short bad.fault,
    ))

pub where_at_short : (bad : BadInstruction) (line byte : ℕ) → bad.program < 4294967296 → bad.instruction < 4294967296 → line < 18446744073709551616
    → byte < 4294967296 → length (where_at_line bad line byte) ≤ most_where_at_line
unfolding where_at_line
where_at_short bad line byte p i l b =
    omega (arith, length-append (decimal line) (ascii ", " ++ where_text bad byte), wide_short line l, where_short bad byte p i b)

-- ---- the instruction that an image's refusal names

module _ (image : List ℕ) (bad : BadInstruction) (is : refusal_of image ≡ Err (Instruction bad)) where
  -- its program lies in the image, and it is there
  pub program_lies : Lies image bad.program × (bad.program < 65536)
  program_lies = let s = refusal_stands image is in (s.program_lies, omega (arith, s.program_low))

  pub instruction_there : bad.instruction < instructions_of (part_of image bad.program)
  instruction_there = (refusal_stands image is).there.instruction_there
