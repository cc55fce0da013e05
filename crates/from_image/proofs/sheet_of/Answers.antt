-- The checks have shown what `write_sheet` needs, and its length is the answer. Assumes nothing.
use mathlib.Core.Path.{sym}
use Rattle.from_image.proofs.Checks.{sheet_done}
use Rattle.from_image.proofs.sheet_of.Goals as goal

pub returns : goal.returns
returns c = sheet_done _ _ (sym c.in_ok-sheet_refusal.ensures) c.write_sheet.ensures
