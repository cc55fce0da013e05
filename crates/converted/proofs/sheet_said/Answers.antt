-- The instruction that a refusal names is there, and its place is short. Assumes nothing.
use mathlib.Core.Path.{ap}
use native.Mathlib.Omega.{arith}
use lib.ListN.{length}
use borrow.Author.Rules.{rules}
use Rattle.from_sheet.proofs.Standing.{refusal_stands}
use Rattle.refused.proofs.Wheres.{where_at_short}
use Rattle.converted.proofs.sheet_said.Goals as goal

pub wrong_line-wrong-requires : goal.wrong_line-wrong-requires
wrong_line-wrong-requires c = refusal_stands c.args.sheet.now {bad = c.in-Err-Refused-Image-Instruction.bad} (cc)

pub put_where_at-requires : goal.put_where_at-requires
put_where_at-requires c =
    let wrong = c.wrong_line-wrong.result in
    let short = where_at_short c.in-Err-Refused-Image-Instruction.bad wrong.line wrong.byte (search rules) (search rules) (search rules) (search rules) in
    record { fits = omega (arith, short, ap length c.new-page.ensures.same) }
