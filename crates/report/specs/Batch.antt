-- Document 01, "Bench sheet": what the program `batch` prints, for every input; what `why` does (document 02, ask 3); what both say on standard error (document
-- 02, ask 2); and the same of `guarded` and `guarded_why`, whose inputs have guards (document 02, ask 5). Assumes nothing.
use Rattle.std.specs.Prelude.{ℕ, zero, suc, Bool, cond, ◌&&◌, List, [], leb, length, replicate, Result}
use Rattle.image.specs.declared.refusals.Refusal.{Refusal}
use Rattle.image.specs.declared.refusals.Refusal.TheVariants as refusal
use Rattle.image.specs.Refusals.{check, unless}
use Rattle.image.specs.Image.{count_of}
use Rattle.guard.specs.Guards.{full_for}
use Rattle.area.specs.declared.Batch.{Batch}
use Rattle.area.specs.Layout.{area_words}
use Rattle.area.specs.Checks.{open_refusal}
use Rattle.steps.specs.Opening.{open_area}
use Rattle.steps.specs.Gathering.{gather_area}
use Rattle.steps.specs.Settling.{settle_table, settle_area}
use Rattle.prefix.specs.Prefix.{prefix_bytes}
use Rattle.input.specs.Prefix.{cells_named, table_in, guards_in, guards_end, image_from, prefix_good}
use Rattle.results.specs.Listing.{listing, most_listing}
use Rattle.refused.specs.Refused.{refused_line}
use Rattle.refused.specs.Where.{image_where}
use Rattle.reasons.specs.Reasons.{reasons_text, longest_page}
use Rattle.report.specs.declared.Guards.{Guards}
use Rattle.report.specs.declared.Guards.TheVariants.{FullRange, FromInput}
use Rattle.report.specs.declared.Wanted.{Wanted}
use Rattle.report.specs.declared.Wanted.TheVariants.{Results, Reasons}

-- ---- "It opens, gathers and settles in number order."

-- the table and the area that the calls are lent
pub record Lent : Type 0 where
  pub table : List ℕ
  pub area : List ℕ

abbrev pub lent : (table area : List ℕ) → Lent
lent t a = record { table = t; area = a }

-- an area of as many words as check 6 asks for
abbrev pub work_area : (image table : List ℕ) → List ℕ
work_area image t = replicate (area_words (length t) (count_of image)) 0

-- the area after the first k programs are gathered
unfoldable pub gather_first : (image table guards area : List ℕ) → ℕ → List ℕ
gather_first image t g a zero = a
gather_first image t g a (suc k) = gather_area image t g (gather_first image t g a k) k

-- table and area after the first k programs are settled
abbrev pub settle_one : (image guards : List ℕ) → Lent → ℕ → Lent
settle_one image g l k = lent (settle_table image l.table g l.area k) (settle_area image l.table g l.area k)

unfoldable pub settle_first : (image guards : List ℕ) → Lent → ℕ → Lent
settle_first image g l zero = l
settle_first image g l (suc k) = settle_one image g (settle_first image g l k) k

-- table and area after the whole batch of an image; every call is lent the same guards
unfoldable pub batch_on : (image guards : List ℕ) → Lent → Lent
batch_on image g l =
    let n = count_of image in
    settle_first image g (lent l.table (gather_first image l.table g (open_area image l.table g l.area) n)) n

-- ---- where the guards come from: "the batch program lends the full range", or the input has them behind its cells

-- where the image begins
abbrev pub image_start : Guards → (cells : ℕ) → ℕ
image_start FullRange T = prefix_bytes T
image_start FromInput T = guards_end T

-- the guards of a table
abbrev pub guards_for : Guards → (input table : List ℕ) → List ℕ
guards_for FullRange input t = full_for t
guards_for FromInput input t = guards_in input (length t)

-- ---- what comes of an input

-- its table, its guards, and its image
abbrev pub table_of : (input : List ℕ) → List ℕ
table_of input = table_in input (cells_named input)

abbrev pub guards_of : Guards → (input : List ℕ) → List ℕ
guards_of from input = guards_for from input (table_of input)

abbrev pub image_of : Guards → (input : List ℕ) → List ℕ
image_of from input = image_from input (image_start from (cells_named input))

-- 14, "guard list not T pairs": the input has too few bytes for them. Behind a good prefix, the full range lacks none
unfoldable pub guards_there : Guards → (input : List ℕ) → Bool
guards_there from input = leb (image_start from (cells_named input)) (length input)

-- opening, in an area of as many words as it asks for
abbrev pub opening_of : Guards → (input : List ℕ) → Result (Unit {0}) Refusal
opening_of from input = open_refusal (image_of from input) (table_of input) (guards_of from input) (work_area (image_of from input) (table_of input))

-- "Fewer bytes than that prefix needs, or T outside 1 to 256, prints "refused 5""; then 14, which is judged with the prefix; "another refusal prints its number
-- so": that of opening
unfoldable pub input_refusal : Guards → (input : List ℕ) → Result (Unit {0}) Refusal
input_refusal from input =
    check (prefix_good input) refusal.TableSize
    (check (guards_there from input) refusal.Guards
    (opening_of from input))

-- table and area after its batch
unfoldable pub batch_of : Guards → (input : List ℕ) → Lent
batch_of from input = batch_on (image_of from input) (guards_of from input) (lent (table_of input) (work_area (image_of from input) (table_of input)))

-- ---- what is printed of it

-- what a page is told of: image, the table as it was opened and as it is, guards, area
abbrev pub Told : Type 0
Told = (image opening table guards area : List ℕ) → List ℕ

-- the listing, or another; where the input is refused, the refusal's line "is then the whole output"
unfoldable pub page_of : Told → Guards → (input : List ℕ) → List ℕ
page_of page from input =
    unless (input_refusal from input) refused_line
    (page (image_of from input) (table_of input) (batch_of from input).table (guards_of from input) (batch_of from input).area)

-- the same of what is lent of a batch
abbrev pub told_of : Told → (opening : List ℕ) → Batch → List ℕ
told_of page opening b = page b.image.now opening b.table.now b.guards.now b.area.now

-- what is wanted of a batch: what came of it, or why; and how long such a page is at most
abbrev pub page_text : Wanted → Told
page_text Results image opening t g a = listing image t g a
page_text Reasons image opening t g a = reasons_text image opening t g a

abbrev pub page_most : Wanted → ℕ
page_most Results = most_listing
page_most Reasons = longest_page

-- what `batch` and `guarded` print, and what `why` and `guarded_why` do
abbrev pub batch_page : Guards → (input : List ℕ) → List ℕ
batch_page = page_of (page_text Results)

abbrev pub reasons_page : Guards → (input : List ℕ) → List ℕ
reasons_page = page_of (page_text Reasons)

-- what they say of it on standard error: the place of its image's bad instruction, where nothing before the image is too short and there is one
unfoldable pub said : Guards → (input : List ℕ) → List ℕ
said from input = cond (prefix_good input && guards_there from input) (image_where (image_of from input)) []
