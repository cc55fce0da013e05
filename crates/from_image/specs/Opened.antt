-- One name that opens every definition of the sheet of an image, for worked cases. Assumes nothing.
use Rattle.writer.specs.Opened as writer
use Rattle.sheet.specs.Opened as sheet
use Rattle.from_image.specs.FromImage.{first_lines, program_lines, programs_lines, lines_for, sheet_of_image, sheet_of_refusal, sheet_of_answer, sheet_of_output}

unfoldable pub opened : Unit {0}
unfolding writer.opened sheet.opened first_lines program_lines programs_lines lines_for sheet_of_image sheet_of_refusal sheet_of_answer sheet_of_output
opened = tt
