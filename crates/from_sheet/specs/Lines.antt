-- What is left of a sheet that is gone through line by line. Assumes nothing.
use Rattle.std.specs.Prelude.{List}
use Rattle.sheet.specs.declared.Line.{Line}
use Rattle.from_sheet.specs.declared.lines.Lines.{Lines}
use Rattle.from_sheet.specs.Passes.{lines_from}

abbrev pub lines_left : Lines → List Line
lines_left s = lines_from s.at s.sheet.now
