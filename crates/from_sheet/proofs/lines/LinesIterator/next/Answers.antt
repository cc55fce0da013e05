-- The line is what stands up to the next newline, and the rest begins behind that. Assumes nothing.
use mathlib.Core.Path.{ap, ◌∙◌}
use borrow.Author.Rules.{rules}
use lib.ListN.{length}
use Rattle.from_sheet.proofs.Passing.{lines_next}
use Rattle.from_sheet.proofs.lines.LinesIterator.next.Goals as goal

pub returns-clause-steps : goal.returns-clause-steps
returns-clause-steps c = lines_next _ _ _ c.part_end-end.ensures ∙ rw c.line_of-line.ensures

pub returns-clause-goes : goal.returns-clause-goes
returns-clause-goes c =
    let fewer = ap length (lines_next c.args.self.now.sheet.now c.args.self.now.at c.part_end-end.result c.part_end-end.ensures) in
    search (rules, fewer)
