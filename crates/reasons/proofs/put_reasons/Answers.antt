-- Behind what is said of the programs below k there is room for what is said of program k. Assumes nothing.
use native.Mathlib.Omega.{arith}
use Rattle.text.proofs.Pages.{text_room}
use Rattle.area.proofs.Checks.{measured_lies}
use Rattle.reasons.specs.Reasons.{program_text, reasons_text}
use Rattle.reasons.proofs.put_reasons.Goals as goal

pub put_one-requires : goal.put_one-requires
unfolding reasons_text
put_one-requires c =
    let p = c.requires.0 in (
      record { accepted = p.accepted; within = omega arith; pairs = p.pairs },
      (measured_lies _ _ _ p.measured _ (omega arith), p.cells_some),
      text_room (program_text _ _ _ _ _) (omega arith) c.loop-k.invariant c.requires.1,
    )
