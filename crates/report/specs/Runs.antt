-- What the functions that run a batch need and leave. Assumes nothing.
use Rattle.std.specs.Prelude.{ℕ, ◌≤◌, ◌≡◌, cond, List, leb, length, take, Result, Ok, Err}
use Rattle.image.specs.declared.refusals.Refusal.{Refusal}
use Rattle.image.specs.Refusals.{passed}
use Rattle.image.specs.Limits.{max_programs, max_cells}
use Rattle.image.specs.Image.{count_of}
use Rattle.guard.specs.Guards.{guard_words}
use Rattle.area.specs.Layout.{area_words}
use Rattle.area.specs.Checks.{open_refusal}
use Rattle.prefix.specs.Prefix.{prefix_bytes}
use Rattle.input.specs.Prefix.{cells_named}
use Rattle.report.specs.declared.Guards.{Guards}
use Rattle.report.specs.declared.Used.{Used}
use Rattle.report.specs.Batch.{Lent, lent, work_area, batch_on, image_start, guards_for, guards_of, input_refusal, batch_of}

-- table and area are these
pub record Leaves (l : Lent) (t' a' : List ℕ) : Type 0 where
  pub table : t' ≡ l.table
  pub area : a' ≡ l.area

-- an image on a table, in this area: what opening refuses, and otherwise what its batch leaves
pub record RunsIn (image t g a : List ℕ) (r : Result (Unit {0}) Refusal) (t' a' : List ℕ) : Type 0 where
  pub answer : r ≡ open_refusal image t g a
  pub done : r ≡ passed → Leaves (batch_on image g (lent t a)) t' a'

-- how many programs the header names, 0 where that is over the limit
unfoldable pub programs_in : (image : List ℕ) → ℕ
programs_in image = cond (leb (count_of image) max_programs) (count_of image) 0

-- how many words of what is lent are the area
pub record Room (image t areas : List ℕ) (words : ℕ) : Type 0 where
  pub words_are : words ≡ area_words (length t) (programs_in image)
  pub lie : words ≤ length areas

-- an image on a table, in the first words of what is lent, whatever stands there
pub record Runs (image t g : List ℕ) (words : ℕ) (r : Result (Unit {0}) Refusal) (t' areas' : List ℕ) : Type 0 where
  pub answer : r ≡ open_refusal image t g (work_area image t)
  pub done : r ≡ passed → Leaves (batch_on image g (lent t (work_area image t))) t' (take words areas')

-- the same with the guards of an input, which are left in what is lent for them
pub record RunsTable (from : Guards) (input image t : List ℕ) (words : ℕ) (r : Result (Unit {0}) Refusal) (t' g' areas' : List ℕ) : Type 0 where
  pub guards : g' ≡ guards_for from input t
  pub runs : Runs image t (guards_for from input t) words r t' areas'

-- ---- an input

pub record Refuses (from : Guards) (input : List ℕ) (r : Refusal) : Type 0 where
  pub answer : input_refusal from input ≡ Err r

-- the first cells of what is lent are the table after its batch, the first words the area; and the guards are left where they were lent
pub record Settles (from : Guards) (input : List ℕ) (cells words : ℕ) (tables' guards' areas' : List ℕ) : Type 0 where
  pub accepted : input_refusal from input ≡ passed
  pub cells_are : cells ≡ cells_named input
  pub cells_few : cells ≤ max_cells
  pub prefix : prefix_bytes cells ≤ length input
  pub start : image_start from cells ≤ length input
  pub cells_lie : cells ≤ length tables'
  pub guards_lie : guard_words cells ≤ length guards'
  pub words_lie : words ≤ length areas'
  pub guards : take (guard_words cells) guards' ≡ guards_of from input
  pub leaves : Leaves (batch_of from input) (take cells tables') (take words areas')

abbrev pub RanSays : Guards → (input : List ℕ) → Result Used Refusal → (tables' guards' areas' : List ℕ) → Type 0
RanSays from input (Ok used) tables' guards' areas' = Settles from input used.cells used.words tables' guards' areas'
RanSays from input (Err r) tables' guards' areas' = Refuses from input r
