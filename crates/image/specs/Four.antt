-- Document 01's refusal 4, "some instruction is bad", and 24 of the fresh image, as they stood before document 02's ask 2 split them: row by row of the table.
-- Nothing is built on it. That the new numbers speak of the same images is a law (proofs/Four.antt). Assumes nothing.
use Rattle.std.specs.Prelude.{ℕ, ◌+◌, Bool, false, cond, ◌&&◌, List, ltb, leb, eqb}
use Rattle.base.specs.Words.{every}
use Rattle.image.specs.Limits.{registers}
use Rattle.image.specs.Instruction.{byte_of, instructions_of}
use Rattle.image.specs.Image.{count_of, header_of, part_of, size_good, header_good, offsets_good}

abbrev pub is_register : ℕ → Bool
is_register a = ltb a registers

unfoldable pub good_before : (op a b c i m : ℕ) → Bool
good_before op a b c i m =
    cond (eqb op 0) (eqb a 0 && eqb b 0 && eqb c 0)
    (cond (eqb op 1) (is_register a)
    (cond (eqb op 2) (is_register a && is_register b && eqb c 0)
    (cond (eqb op 3) (is_register a && is_register b && eqb c 0)
    (cond (eqb op 4) (is_register a && is_register b && is_register c)
    (cond (eqb op 5) (is_register a && is_register b && is_register c)
    (cond (eqb op 6) (is_register a && is_register b && leb (i + 1 + c) m)
    (cond (eqb op 7) (is_register a && is_register b && leb (i + 1 + c) m)
    (cond (eqb op 8) (eqb b 0 && eqb c 0)
    false))))))))

unfoldable pub program_before : List ℕ → Bool
program_before program =
    every (instructions_of program)
    (λ i. good_before (byte_of program i 0) (byte_of program i 1) (byte_of program i 2) (byte_of program i 3) i (instructions_of program))

-- every instruction of an image is good
unfoldable pub code_before : List ℕ → Bool
code_before image = every (count_of image) (λ p. program_before (part_of image p))

-- the refusal's number, and that of the fresh image
unfoldable pub number_before : List ℕ → ℕ
number_before image =
    cond (size_good image) (cond (header_good (header_of image)) (cond (offsets_good image) (cond (code_before image) 0 4) 3) 2) 1

unfoldable pub fresh_before : List ℕ → ℕ
fresh_before image = cond (eqb (number_before image) 0) 0 (20 + number_before image)

-- 41 to 44 are 4 again, and 61 to 64 are 24
unfoldable pub joined : ℕ → ℕ
joined n = cond (leb 41 n && leb n 44) 4 (cond (leb 61 n && leb n 64) 24 n)
