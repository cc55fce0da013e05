-- The instruction that a refusal names is there, and its place is short. Assumes nothing.
use mathlib.Core.Path.{ap}
use native.Mathlib.Omega.{arith}
use lib.ListN.{length}
use borrow.Author.Rules.{rules}
use Rattle.refused.proofs.Wheres.{where_short, program_lies, instruction_there}
use Rattle.refused.proofs.image_where.Goals as goal

pub part_of-program-requires : goal.part_of-program-requires
part_of-program-requires c = program_lies c.args.image.now c.in-Err-Instruction.bad (cc)

pub wrong_byte-byte-requires : goal.wrong_byte-byte-requires
wrong_byte-byte-requires c = rw c.part_of-program.ensures.bytes_are (instruction_there c.args.image.now c.in-Err-Instruction.bad (cc))

pub put_where-requires : goal.put_where-requires
put_where-requires c =
    let short = where_short c.in-Err-Instruction.bad c.wrong_byte-byte.result (search rules) (search rules) (search rules) in
    record { fits = omega (arith, short, ap length c.new-page.ensures.same) }
