-- `program` meets its contract: where nothing is refused the program lies in the image. Assumes nothing.
use mathlib.Core.Path.{sym, ◌∙◌}
use native.Mathlib.Omega.{arith}
use Rattle.image.proofs.Laws.{handed_when}
use Rattle.image.proofs.program.Goals as goal

pub part_of-requires : goal.part_of-requires
part_of-requires c =
    let handed = handed_when _ _ c.program_refusal.ensures (sym c.is_ok.ensures.value ∙ c.if-is_ok.true) in
    (handed.lies_there, omega (arith, handed.low))
