-- The lines of program k are the next text. Assumes nothing.
use native.Mathlib.Omega.{arith}
use Rattle.text.proofs.Pages.{text_room}
use Rattle.from_image.proofs.Sheets.{program_text, programs_texts}
use Rattle.from_image.proofs.put_programs.Goals as goal

pub put_program-requires : goal.put_program-requires
put_program-requires c =
    let image = c.args.image.now in
    let room = rw (programs_texts image c.args.n) at c.requires.1 in
    rw c.part_of.ensures.bytes_are (c.requires.0.good _ (omega arith), text_room (program_text image) (omega arith) c.loop-k.invariant room)
