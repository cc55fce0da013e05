-- The calls for C: each returns the numbers of the Rattle call under it, and leaves the memory that it leaves. Assumes nothing.
use Rattle.std.specs.Prelude.{ℕ, min, ◌≡◌, List, length}
use Rattle.image.specs.declared.refusals.RefusalNumbers.{RefusalNumbers}
use Rattle.image.specs.Refusals.{told, numbers_of_count}
use Rattle.image.specs.Image.{program_of, start_of, program_refusal_of}
use Rattle.area.specs.Checks.{open_refusal}
use Rattle.steps.specs.Answers.{numbers_of_gathered, numbers_of_settled}
use Rattle.steps.specs.Opening.{open_area}
use Rattle.steps.specs.Gathering.{gather_answer, gather_area}
use Rattle.steps.specs.Settling.{settle_answer, settle_table, settle_area}
use Rattle.causes.specs.Why.{why_answer, numbers_of_why}
use Rattle.listing.specs.Listing.{order_answer, order_list}
use Rattle.carry.specs.Next.{next_answer, next_out}
use Rattle.sheet.specs.Answers.{TextNumbers, numbers_of_written, as_written}
use Rattle.from_sheet.specs.FromSheet.{image_of_answer, image_of_output}
use Rattle.from_image.specs.FromImage.{sheet_of_answer, sheet_of_output}
use Rattle.numbers.specs.declared.StepNumbers.{StepNumbers}
use Rattle.numbers.specs.declared.CauseNumbers.{CauseNumbers}
use Rattle.numbers.specs.declared.CountNumbers.{CountNumbers}
use Rattle.numbers.specs.Numbers.{Tells, CauseTells, CountTells}
use Rattle.sheetbendle_c.specs.declared.PartNumbers.{PartNumbers}
use Rattle.sheetbendle_c.specs.declared.TextNumbers as declared

-- of a program: where its part of the image begins and how long it is, 0 and 0 on a refusal
pub record PartTells (image : List ℕ) (k : ℕ) (r : PartNumbers) : Type 0 where
  pub start : r.start ≡ start_of image k
  pub extent : r.length ≡ length (program_of image k)

-- of why there is none: the refusal, or none
pub record ProgramRefusalTells (image : List ℕ) (k : ℕ) (r : RefusalNumbers) : Type 0 where
  pub refusal : r ≡ told (program_refusal_of image k)

pub record OpenTells (image t g a : List ℕ) (r : RefusalNumbers) (a' : List ℕ) : Type 0 where
  pub refusal : r ≡ told (open_refusal image t g a)
  pub area : a' ≡ open_area image t g a

pub record GatherTells (image t g a : List ℕ) (k : ℕ) (r : StepNumbers) (a' : List ℕ) : Type 0 where
  pub numbers : Tells (numbers_of_gathered (gather_answer image t g a k)) r
  pub area : a' ≡ gather_area image t g a k

pub record SettleTells (image t g a : List ℕ) (k : ℕ) (r : StepNumbers) (t' a' : List ℕ) : Type 0 where
  pub numbers : Tells (numbers_of_settled (settle_answer image t g a k)) r
  pub table : t' ≡ settle_table image t g a k
  pub area : a' ≡ settle_area image t g a k

pub record WhyTells (image t g a : List ℕ) (k : ℕ) (r : CauseNumbers) : Type 0 where
  pub numbers : CauseTells (numbers_of_why (why_answer image t g a k)) r

pub record OrderTells (image t g a list : List ℕ) (r : CountNumbers) (list' : List ℕ) : Type 0 where
  pub numbers : CountTells (numbers_of_count (order_answer image t g a list)) r
  pub entries : list' ≡ order_list image t g a list

pub record NextTells (image t g a fresh out : List ℕ) (r : CountNumbers) (out' : List ℕ) : Type 0 where
  pub numbers : CountTells (numbers_of_count (next_answer image t g a fresh out)) r
  pub bytes : out' ≡ next_out image t g a fresh out

-- of a text: a line's number is shown as far as 32 bits go, which only a sheet of 4 GiB and more passes
abbrev pub line_shown : ℕ → ℕ
line_shown line = min line 4294967295

pub record TextTells (numbers : TextNumbers) (r : declared.TextNumbers) : Type 0 where
  pub refusal : r.refusal ≡ numbers.refusal
  pub extent : r.length ≡ numbers.length
  pub line : r.line ≡ line_shown numbers.line

pub record ImageOfTells (sheet out : List ℕ) (r : declared.TextNumbers) (out' : List ℕ) : Type 0 where
  pub numbers : TextTells (numbers_of_written (image_of_answer sheet out)) r
  pub bytes : out' ≡ image_of_output sheet out

pub record SheetOfTells (image out : List ℕ) (r : declared.TextNumbers) (out' : List ℕ) : Type 0 where
  pub numbers : TextTells (numbers_of_written (as_written (sheet_of_answer image out))) r
  pub bytes : out' ≡ sheet_of_output image out
