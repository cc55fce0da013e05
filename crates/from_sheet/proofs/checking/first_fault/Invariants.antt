-- The loop's invariant: what is still to be found, in the program that is being read and in those to come, is the sheet's first fault; and they can be
-- read. Assumes nothing.
use mathlib.Core.Path.{◌≡◌}
use mathlib.Core.List.{[]}
use lib.ListN.{take}
use Rattle.from_sheet.specs.Passes.{lines_from, InRoom, Readable, still_fault}
use Rattle.from_sheet.specs.Lines.{lines_left}
use Rattle.from_sheet.proofs.checking.first_fault.Given as goal

abbrev pub invariant-loop-line : goal.invariant-loop-line
invariant-loop-line l = InRoom l.room l.reading
    × Readable l.reading.begun (take l.reading.used l.room) (lines_left l.line-iterator)
    × (still_fault l.reading.begun (take l.reading.used l.room) (lines_left l.line-iterator) ≡ still_fault 0 [] (lines_from 0 l.sheet))
