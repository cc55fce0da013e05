-- One name that opens every definition of the image of a sheet, for worked cases. Assumes nothing.
use Rattle.writer.specs.Opened as writer
use Rattle.sheet.specs.Opened as sheet
use Rattle.from_sheet.specs.FromSheet.{image_of_sheet, all, few_programs, short_programs, programs_fault, programs_refusal, sheet_refusal}
use Rattle.from_sheet.specs.FromSheet.{image_of_refusal, image_of_answer, image_of_output}
use Rattle.from_sheet.specs.WrongLines.{begins, left_behind, lines_to, wrong_line}

unfoldable pub opened : Unit {0}
unfolding writer.opened sheet.opened image_of_sheet all few_programs short_programs programs_fault programs_refusal sheet_refusal
    image_of_refusal image_of_answer image_of_output begins left_behind lines_to wrong_line
opened = tt
