-- The line that begins the program, and what stands behind it. Assumes nothing.
use mathlib.Core.Path.{◌≡◌}
use Prim.Native.Nat.{◌+◌, ◌≤◌}
use native.Mathlib.Omega.{arith}
use lib.ListN.{length}
use borrow.Author.Rules.{rules}
use Rattle.sheet.specs.Sheet.{leading}
use Rattle.from_sheet.specs.Lines.{lines_left}
use Rattle.from_sheet.specs.WrongLines.{program_at}
use Rattle.from_sheet.proofs.Passing.{lines_all, lines_few}
use Rattle.from_sheet.proofs.Searching.{wrong_line_is}
use Rattle.from_sheet.proofs.finding.wrong_line.Goals as goal
use Rattle.from_sheet.proofs.finding.wrong_line.Goals.{After-beginning_of-begun}

-- its instructions are those of the program
found : (c : After-beginning_of-begun) → leading (lines_left c.beginning_of-begun.new.lines) ≡ program_at c.args.sheet.now c.args.p
found c = rw (c.of-lines.ensures, lines_all c.args.sheet.now) at c.beginning_of-begun.ensures.program_is

few : (c : After-beginning_of-begun) → c.beginning_of-begun.result ≤ length c.args.sheet.now + 1
few c = omega (arith, rw c.of-lines.ensures at c.beginning_of-begun.ensures.line_few, lines_few c.args.sheet.now)

pub beginning_of-begun-requires : goal.beginning_of-begun-requires
beginning_of-begun-requires c =
    rw c.of-lines.ensures
    (rw (lines_all c.args.sheet.now) c.requires.program_there, omega (arith, c.requires.few), omega (arith, lines_few c.args.sheet.now))

pub overflow_add-result : goal.overflow_add-result
overflow_add-result c = search (rules, few c)

pub overflow_add-result-2 : goal.overflow_add-result-2
overflow_add-result-2 c = search (rules, few c, c.requires.instruction_there)

pub wrong_in-requires : goal.wrong_in-requires
wrong_in-requires c = rw (found (goal.at.wrong_in-requires c).After-beginning_of-begun) (c.requires.program_short, c.requires.instruction_there)

pub returns : goal.returns
returns c =
    let begun = rw c.of-lines.ensures at c.beginning_of-begun.ensures in
    wrong_line_is _ _ _ begun (found (goal.at.returns c).After-beginning_of-begun) c.wrong_in.ensures
