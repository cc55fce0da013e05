-- `program_start` meets its contract: where nothing is refused the program's offset stands in the image. Assumes nothing.
use mathlib.Core.Path.{sym, ◌∙◌}
use native.Mathlib.Omega.{arith}
use Rattle.image.proofs.Laws.{handed_when}
use Rattle.image.proofs.program_start.Goals as goal

pub offset-requires : goal.offset-requires
offset-requires c =
    let handed = handed_when _ _ c.program_refusal.ensures (sym c.is_ok.ensures.value ∙ c.if-is_ok.true) in
    (omega (arith, handed.lies_there.stand), omega (arith, handed.low))
