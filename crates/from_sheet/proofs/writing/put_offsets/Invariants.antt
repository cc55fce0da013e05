-- The loop's invariant: the offsets of the lines that have come stand there, and the program that is being read ends where its instructions so far
-- do. Assumes nothing.
use Prim.Native.Nat.{◌≤◌, ◌+◌}
use lib.ListN.{length}
use Rattle.text.proofs.Pages.{Partly}
use Rattle.image.specs.Limits.{max_bytes}
use Rattle.from_sheet.specs.Passes.{lines_from, bodies, offsets_from}
use Rattle.from_sheet.specs.Lines.{lines_left}
use Rattle.from_sheet.proofs.writing.put_offsets.Given as goal

abbrev pub invariant-loop-line : goal.invariant-loop-line
invariant-loop-line l = Partly l.initial.page (offsets_from l.first (lines_from 0 l.sheet)) l.page (offsets_from l.end (lines_left l.line-iterator))
    × (l.end + length (bodies (lines_left l.line-iterator)) ≤ max_bytes)
