-- The loop's invariant: the instructions of the lines that have come stand there, and none of these begins the next program. Assumes nothing.
use Rattle.text.proofs.Pages.{Partly}
use Rattle.sheet.specs.Sheet.{leading}
use Rattle.from_sheet.specs.Lines.{lines_left}
use Rattle.from_sheet.proofs.finding.read_program.Given as goal

abbrev pub invariant-loop-line : goal.invariant-loop-line
invariant-loop-line l = Partly l.initial.page (leading (lines_left l.initial.line-iterator)) l.page (leading (lines_left l.line-iterator))
