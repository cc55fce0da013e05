-- The line of instruction i is the next text. Assumes nothing.
use native.Mathlib.Omega.{arith}
use Rattle.text.proofs.Fillings.{texts_more}
use Rattle.text.proofs.Pages.{text_room, put_more}
use Rattle.image.specs.Instruction.{instructions_of}
use Rattle.from_image.proofs.Sheets.{instruction_text, first_texts, named_at}
use Rattle.from_image.proofs.put_instructions.Goals as goal

pub put_instruction_line-requires : goal.put_instruction_line-requires
put_instruction_line-requires c =
    let p = c.args.program.now in
    let room = rw (first_texts p (instructions_of p)) at c.requires.1 in
    rw c.instruction_at.ensures
    (named_at p c.requires.0.code c.loop-i.i (omega arith), text_room (instruction_text p) (omega arith) c.loop-i.invariant room)

pub loop-i-preserved : goal.loop-i-preserved
loop-i-preserved c =
    rw (texts_more (instruction_text c.args.program.now) c.loop-i.i)
    (put_more c.loop-i.invariant (rw c.instruction_at.ensures at c.put_instruction_line.ensures))
