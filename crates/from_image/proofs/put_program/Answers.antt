-- The line "program", and behind it the instructions. Assumes nothing.
use Rattle.text.proofs.Pages.{put_more}
use Rattle.from_image.proofs.Lines.{program_line_lem}
use Rattle.from_image.proofs.Sheets.{program_text_lem}
use Rattle.from_image.proofs.put_program.Goals as goal

pub returns : goal.returns
returns c = rw (program_text_lem c.args.program.now, program_line_lem) (put_more c.bytes.ensures c.put_instructions.ensures)
