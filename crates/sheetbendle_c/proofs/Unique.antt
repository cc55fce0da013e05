-- No second result: for each call for C, two outcomes that meet its contract at the same arguments look the same, the lent memory at the exit
-- included. Assumes nothing.
use mathlib.Core.List.{List}
use Prim.Native.Nat.{ℕ}
use mathlib.Core.Path.{◌≡◌, sym, ◌∙◌}
use Rattle.base.specs.Unique.{Unique}
use Rattle.image.specs.declared.refusals.RefusalNumbers.{RefusalNumbers}
use Rattle.numbers.proofs.Unique.{told_once, cause_once, count_once}
use Rattle.numbers.specs.declared.StepNumbers.{StepNumbers}
use Rattle.numbers.specs.declared.CauseNumbers.{CauseNumbers}
use Rattle.numbers.specs.declared.CountNumbers.{CountNumbers}
use Rattle.sheetbendle_c.specs.declared.PartNumbers.{PartNumbers}
use Rattle.sheetbendle_c.specs.Calls.{PartTells}
use Rattle.sheetbendle_c.proofs.sheetbendle_program.Kinds as program_kinds
use Rattle.sheetbendle_c.proofs.sheetbendle_program.Reads as program
use Rattle.sheetbendle_c.proofs.sheetbendle_program_refusal.Kinds as program_refusal_kinds
use Rattle.sheetbendle_c.proofs.sheetbendle_program_refusal.Reads as program_refusal
use Rattle.sheetbendle_c.proofs.sheetbendle_open.Kinds as open_kinds
use Rattle.sheetbendle_c.proofs.sheetbendle_open.Reads as opening
use Rattle.sheetbendle_c.proofs.sheetbendle_gather.Kinds as gather_kinds
use Rattle.sheetbendle_c.proofs.sheetbendle_gather.Reads as gather
use Rattle.sheetbendle_c.proofs.sheetbendle_settle.Kinds as settle_kinds
use Rattle.sheetbendle_c.proofs.sheetbendle_settle.Reads as settle
use Rattle.sheetbendle_c.proofs.sheetbendle_why.Kinds as why_kinds
use Rattle.sheetbendle_c.proofs.sheetbendle_why.Reads as why
use Rattle.sheetbendle_c.proofs.sheetbendle_order.Kinds as order_kinds
use Rattle.sheetbendle_c.proofs.sheetbendle_order.Reads as order
use Rattle.sheetbendle_c.proofs.sheetbendle_next_image.Kinds as next_kinds
use Rattle.sheetbendle_c.proofs.sheetbendle_next_image.Reads as next
use Rattle.sheet.specs.Answers.{TextNumbers}
use Rattle.sheetbendle_c.specs.declared.TextNumbers as declared
use Rattle.sheetbendle_c.specs.Calls.{TextTells}
use Rattle.sheetbendle_c.proofs.sheetbendle_image_of.Kinds as image_of_kinds
use Rattle.sheetbendle_c.proofs.sheetbendle_image_of.Reads as image_of
use Rattle.sheetbendle_c.proofs.sheetbendle_sheet_of.Kinds as sheet_of_kinds
use Rattle.sheetbendle_c.proofs.sheetbendle_sheet_of.Reads as sheet_of

-- structs of numbers are equal where their numbers are
part_once : (image : List ℕ) (k : ℕ) (x y : PartNumbers) → PartTells image k x → PartTells image k y → x ≡ y
part_once image k x y p q = λ i. record { start = (p.start ∙ sym q.start) i; length = (p.extent ∙ sym q.extent) i }

text_once : (n : TextNumbers) (x y : declared.TextNumbers) → TextTells n x → TextTells n y → x ≡ y
text_once n x y p q =
    λ i. record { refusal = (p.refusal ∙ sym q.refusal) i; length = (p.extent ∙ sym q.extent) i; line = (p.line ∙ sym q.line) i }

pub program_unique : Unique {A = PartNumbers} 1 program_kinds.ps program_kinds.r (λ κs x s. x) program.Post
program_unique κs a x y s t p q = part_once _ _ x y p q

pub program_refusal_unique : Unique {A = RefusalNumbers} 1 program_refusal_kinds.ps program_refusal_kinds.r (λ κs x s. x) program_refusal.Post
program_refusal_unique κs a x y s t p q = cc

pub open_unique : Unique {A = RefusalNumbers × List ℕ} 4 open_kinds.ps open_kinds.r (λ κs x s. (x, s.1.1.1.0.now)) opening.Post
open_unique κs a x y s t p q = cc

pub gather_unique : Unique {A = StepNumbers × List ℕ} 4 gather_kinds.ps gather_kinds.r (λ κs x s. (x, s.1.1.1.0.now)) gather.Post
gather_unique κs a x y s t p q = cc (told_once _ x y p.numbers q.numbers)

pub settle_unique : Unique {A = StepNumbers × List ℕ × List ℕ} 4 settle_kinds.ps settle_kinds.r
    (λ κs x s. (x, s.1.0.now, s.1.1.1.0.now)) settle.Post
settle_unique κs a x y s t p q = cc (told_once _ x y p.numbers q.numbers)

pub why_unique : Unique {A = CauseNumbers} 4 why_kinds.ps why_kinds.r (λ κs x s. x) why.Post
why_unique κs a x y s t p q = cause_once _ x y p.numbers q.numbers

pub order_unique : Unique {A = CountNumbers × List ℕ} 5 order_kinds.ps order_kinds.r (λ κs x s. (x, s.1.1.1.1.0.now)) order.Post
order_unique κs a x y s t p q = cc (count_once _ x y p.numbers q.numbers)

pub next_image_unique : Unique {A = CountNumbers × List ℕ} 6 next_kinds.ps next_kinds.r (λ κs x s. (x, s.1.1.1.1.1.0.now)) next.Post
next_image_unique κs a x y s t p q = cc (count_once _ x y p.numbers q.numbers)

pub image_of_unique : Unique {A = declared.TextNumbers × List ℕ} 2 image_of_kinds.ps image_of_kinds.r (λ κs x s. (x, s.1.0.now)) image_of.Post
image_of_unique κs a x y s t p q = cc (text_once _ x y p.numbers q.numbers)

pub sheet_of_unique : Unique {A = declared.TextNumbers × List ℕ} 2 sheet_of_kinds.ps sheet_of_kinds.r (λ κs x s. (x, s.1.0.now)) sheet_of.Post
sheet_of_unique κs a x y s t p q = cc (text_once _ x y p.numbers q.numbers)
