-- The loop's invariant: the instructions of the lines that have come stand there. Assumes nothing.
use Rattle.text.proofs.Pages.{Partly}
use Rattle.from_sheet.specs.Passes.{lines_from, bodies}
use Rattle.from_sheet.specs.Lines.{lines_left}
use Rattle.from_sheet.proofs.writing.put_bodies.Given as goal

abbrev pub invariant-loop-line : goal.invariant-loop-line
invariant-loop-line l = Partly l.initial.page (bodies (lines_from 0 l.sheet)) l.page (bodies (lines_left l.line-iterator))
