-- What the calls answer that read a sheet or an image and write the other, in numbers: "51 .. with its number from 1". A refusal returns its number, with
-- its place, and 0 for every other result (document 01, "What each refusal says"). Assumes nothing.
use Rattle.std.specs.Prelude.{ℕ, Result, Ok, Err}
use Rattle.image.specs.declared.refusals.Refusal.{Refusal}
use Rattle.image.specs.declared.refusals.Refusal.TheVariants as refusal
use Rattle.image.specs.declared.refusals.ImageRefusal.{ImageRefusal}
use Rattle.image.specs.declared.refusals.RefusalNumbers.{RefusalNumbers}
use Rattle.image.specs.Refusals.{none, line, numbers_of}
use Rattle.sheet.specs.declared.Unwritten.{Unwritten}
use Rattle.sheet.specs.declared.Unwritten.TheVariants.{Refused, BadLine}

-- the refusal of a sheet's programs, which is that of their image
abbrev pub as_image : ImageRefusal → Unwritten
as_image r = Refused (refusal.Image r)

pub record TextNumbers : Type 0 where
  pub refusal : RefusalNumbers
  pub length : ℕ
  pub line : ℕ

abbrev pub numbers_of_unwritten : Unwritten → TextNumbers
numbers_of_unwritten (Refused r) = record { refusal = numbers_of r; length = 0; line = 0 }
numbers_of_unwritten (BadLine k) = record { refusal = line; length = 0; line = k }

-- of checks
abbrev pub told_of_sheet : Result (Unit {0}) Unwritten → RefusalNumbers
told_of_sheet (Ok done) = none
told_of_sheet (Err r) = (numbers_of_unwritten r).refusal

abbrev pub numbers_of_written : Result ℕ Unwritten → TextNumbers
numbers_of_written (Ok n) = record { refusal = none; length = n; line = 0 }
numbers_of_written (Err r) = numbers_of_unwritten r

-- the answer of a call that reads an image, which has no line
abbrev pub as_written : Result ℕ Refusal → Result ℕ Unwritten
as_written (Ok n) = Ok n
as_written (Err r) = Err (Refused r)
