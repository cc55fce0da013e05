-- Document 02, ask 3: the cause of a dependency, "the lowest cell that shows the dependency and the smallest earlier program its marks name". Which
-- cell is the lowest, and what a mark says, the crate `area` defines. Assumes nothing.
use Rattle.std.specs.Prelude.{ℕ, ◌+◌, ◌≤◌, ◌<◌, List, length, get_or}
use Rattle.image.specs.Limits.{max_cells}
use Rattle.slot.specs.declared.ListKind.{ListKind}
use Rattle.slot.specs.declared.ListKind.TheVariants.{Reads, Stores}
use Rattle.area.specs.declared.MarkKind.{MarkKind}
use Rattle.area.specs.declared.MarkKind.TheVariants.{Write, Read}
use Rattle.area.specs.Layout.{marks_at}
use Rattle.area.specs.Marks.{named, lowest}
use Rattle.causes.specs.declared.answers.Cause.{Cause}

-- a cell, and "the smallest earlier program" that its mark of a kind names
abbrev pub cause_at : MarkKind → ℕ → ℕ → List ℕ → Cause
cause_at m T cell a = record { cell = cell; program = named (get_or a (marks_at m T + cell) 0) }

-- "the lowest cell that shows the dependency" of program k, by its list of a kind and the marks of a kind
unfoldable pub cause_of : ListKind → MarkKind → ℕ → ℕ → List ℕ → Cause
cause_of l m T k a = cause_at m T (lowest l m T k a) a

-- WAW: "a stored cell's write mark"; RAW: "a read cell's write mark"; WAR: "a stored cell's read mark"
abbrev pub waw_cause : ℕ → ℕ → List ℕ → Cause
waw_cause = cause_of Stores Write

abbrev pub raw_cause : ℕ → ℕ → List ℕ → Cause
raw_cause = cause_of Reads Write

abbrev pub war_cause : ℕ → ℕ → List ℕ → Cause
war_cause = cause_of Stores Read

-- What reading a cause needs: the cell's mark lies in the area and names somebody.
pub record NamesOne (m : MarkKind) (T cell : ℕ) (a : List ℕ) : Type 0 where
  pub cells_few : T ≤ max_cells
  pub in_table : cell < T
  pub lies : marks_at m T + cell < length a
  pub names : 0 < get_or a (marks_at m T + cell) 0
