-- The name, and behind it the text with the three bytes in it. Assumes nothing.
use Rattle.text.proofs.Writing.{room_first}
use Rattle.text.proofs.Pages.{put_room, put_more}
use Rattle.from_image.proofs.Lines.{instruction_line_lem}
use Rattle.from_image.proofs.put_instruction_line.Goals as goal

pub bytes-requires : goal.bytes-requires
bytes-requires c = rw c.name_of.ensures (room_first _ _ (rw (instruction_line_lem c.args.i) at c.requires.1))

pub filled-requires : goal.filled-requires
filled-requires c = put_room (rw (instruction_line_lem c.args.i) at c.requires.1) (rw c.name_of.ensures at c.bytes.ensures)

pub returns : goal.returns
returns c = rw (instruction_line_lem c.args.i) (put_more (rw c.name_of.ensures at c.bytes.ensures) c.filled.ensures)
