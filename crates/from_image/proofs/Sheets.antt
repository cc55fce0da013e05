-- Laws of the lines of a program and of the programs: they are texts one behind the other, which the code writes one a turn. And each instruction of a good
-- program has a name. Assumes nothing.
use mathlib.Core.Path.{◌≡◌, refl, ap, ◌∙◌}
use mathlib.Core.Bool.{true}
use mathlib.Core.List.{List, [], ◌∷◌, ◌++◌, append_assoc, append-nil}
use Prim.Native.Nat.{ℕ, zero, suc, ◌+◌, ◌<◌}
use native.Mathlib.Omega.{arith}
use lib.ListN.{length, length-append}
use borrow.Author.Tests.{ltb-true}
use Rattle.base.proofs.Numbers.{every_at}
use Rattle.text.specs.Decimal.{decimal}
use Rattle.std.proofs.lemmas.Grind.{common_steps}
use Rattle.text.specs.Filled.{texts}
use Rattle.text.proofs.Fillings.{length_texts, texts_none}
use Rattle.image.specs.Refusals.{passed}
use Rattle.image.specs.Instruction.{rows, known, byte_of, instructions_of, program_good}
use Rattle.image.specs.Image.{count_of, rule_byte, part_of, code_good, refusal_of}
use Rattle.image.proofs.Faults.{good_at}
use Rattle.image.proofs.Laws.{accepted, few_programs_lem, lies, part_short}
use Rattle.writer.specs.Picked.{pick, picked, all_of}
use Rattle.sheet.specs.declared.Line.TheVariants as line
use Rattle.sheet.specs.Sheet.{operations, sheet_text}
use Rattle.from_image.specs.FromImage.{instruction_at, first_lines, program_lines, programs_lines, lines_for, sheet_of_image}
use Rattle.from_image.specs.Typing.{Programs}
use Rattle.from_image.proofs.Lines.{sheet_none, sheet_append, rule_length, program_length}

-- the line of instruction i, and the lines of program k
abbrev pub instruction_text : (program : List ℕ) (i : ℕ) → List ℕ
instruction_text program i = sheet_text (line.Instruction (instruction_at program i) ∷ [])

abbrev pub program_text : (image : List ℕ) (k : ℕ) → List ℕ
program_text image k = sheet_text (program_lines (part_of image k))

pub first_texts : (program : List ℕ) (n : ℕ) → sheet_text (first_lines program n) ≡ texts (instruction_text program) n
unfolding first_lines texts
first_texts program zero = sheet_none
first_texts program (suc n) =
    sheet_append (first_lines program n) (line.Instruction (instruction_at program n) ∷ [])
    ∙ ap (λ (t : List ℕ). t ++ instruction_text program n) (first_texts program n)

pub program_text_lem : (program : List ℕ) → sheet_text (program_lines program) ≡ sheet_text (line.Program ∷ []) ++ sheet_text (first_lines program (instructions_of program))
unfolding program_lines
program_text_lem program = sheet_append (line.Program ∷ []) (first_lines program (instructions_of program))

pub length_program : (program : List ℕ) → length (sheet_text (program_lines program)) ≡ 8 + length (sheet_text (first_lines program (instructions_of program)))
length_program program = rw (program_text_lem program, length-append) (omega (arith, program_length))

programs_append : (ps qs : List (List ℕ)) → programs_lines (ps ++ qs) ≡ programs_lines ps ++ programs_lines qs
unfolding programs_lines
programs_append [] qs = refl
programs_append (p ∷ ps) qs = rw (programs_append ps qs, append_assoc)

pub programs_texts : (image : List ℕ) (n : ℕ) → sheet_text (programs_lines (picked (λ k. true) image n)) ≡ texts (program_text image) n
unfolding picked pick programs_lines texts
programs_texts image zero = sheet_none
programs_texts image (suc n) =
    ap sheet_text (programs_append (picked (λ k. true) image n) (part_of image n ∷ []))
    ∙ sheet_append (programs_lines (picked (λ k. true) image n)) (program_lines (part_of image n) ++ [])
    ∙ rw (append-nil, programs_texts image n)

-- ---- an instruction that is good has a name

pub named_at : (program : List ℕ) → program_good program ≡ true → (i : ℕ) → i < instructions_of program → byte_of program i 0 < operations
unfolding known rows
named_at program good i l = ltb-true (byte_of program i 0) operations (good_at program good i l).operation

-- how many bytes they have, one turn after another
pub ruleset lines_long = (common_steps, first_texts, named_at, length_texts, texts_none)

pub ruleset programs_long = (common_steps, programs_texts, length_program, length_texts, texts_none)

-- ---- an image that is not refused

module _ (image : List ℕ) {n : ℕ} (n_is : n ≡ count_of image) where
  -- its sheet: the rule, and then the programs
  pub sheet_text_lem : {rule : ℕ} → rule ≡ rule_byte image
      → sheet_of_image image ≡ sheet_text (line.Rule rule ∷ []) ++ sheet_text (programs_lines (picked (λ k. true) image n))
  unfolding sheet_of_image lines_for
  sheet_text_lem e = rw (e, n_is) (sheet_append (line.Rule (rule_byte image) ∷ []) (programs_lines (all_of image)))

  pub length_sheet_of : {rule : ℕ} → rule ≡ rule_byte image
      → length (sheet_of_image image) ≡ 6 + length (decimal rule) + length (sheet_text (programs_lines (picked (λ k. true) image n)))
  length_sheet_of {rule} e = rw (sheet_text_lem e, length-append) (omega (arith, rule_length rule))

  pub good_programs : refusal_of image ≡ passed → Programs image n
  unfolding code_good
  good_programs none =
      let a = accepted image none in
      record {
        few = omega (arith, n_is, few_programs_lem image a.header);
        lies = λ k l. lies image a.offsets k (omega (arith, n_is));
        good = λ k l. let below : k < count_of image = omega (arith, n_is) in record {
          short = part_short image a.offsets k below;
          code = every_at (count_of image) (λ q. program_good (part_of image q)) a.code k below;
        };
      }
