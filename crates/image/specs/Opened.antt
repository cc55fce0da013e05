-- One name that opens every definition of the image: `unfolding opened` under a worked case, in this crate or another. Assumes nothing.
use Rattle.base.specs.Words.{every, words}
use Rattle.image.specs.Refusals.{check, after, first_of, given_as, placed, says_where, unless}
use Rattle.image.specs.Instruction.{rows, known, kinds_of, register_good, unused_good, skip_good, fault_of, fault_at, wrong_of, wrong_byte, program_fault, code_fault, place_good, program_good}
use Rattle.image.specs.Image.{number_at, part_of, size_good, header_good, extent_good, extents_good, offsets_good, code_good, code_refusal}
use Rattle.image.specs.Image.{refusal_of, fresh_refusal_of, program_refusal_of, program_of, start_of}

unfoldable pub opened : Unit {0}
unfolding every words check after first_of given_as placed says_where unless rows known kinds_of register_good unused_good skip_good fault_of fault_at wrong_of wrong_byte program_fault code_fault place_good program_good number_at part_of size_good header_good extent_good extents_good offsets_good code_good code_refusal
    refusal_of fresh_refusal_of program_refusal_of program_of start_of
opened = tt
