-- No second result: for each public call, two outcomes that meet its contract at the same arguments look the same. Assumes nothing.
use mathlib.Core.Path.{sym, ◌∙◌}
use mathlib.Core.List.{List}
use Prim.Native.Nat.{ℕ}
use Rattle.base.specs.Unique.{Unique}
use Rattle.std.specs.Prelude.{Result}
use Rattle.sheet.specs.declared.Unwritten.{Unwritten}
use Rattle.from_sheet.proofs.image_of.Kinds as image_of_kinds
use Rattle.from_sheet.proofs.image_of.Reads as image_of
use Rattle.from_sheet.proofs.sheet_refusal.Kinds as sheet_refusal_kinds
use Rattle.from_sheet.proofs.sheet_refusal.Reads as sheet_refusal
use Rattle.from_sheet.proofs.finding.wrong_line.Kinds as wrong_line_kinds
use Rattle.from_sheet.proofs.finding.wrong_line.Reads as wrong_line

-- the answer, and what the output holds at the exit
pub image_of_unique : Unique {A = Result ℕ Unwritten × List ℕ} 2 image_of_kinds.ps image_of_kinds.r (λ κs x s. (x, s.1.0.now)) image_of.Post
image_of_unique κs a x y s t p q = cc

pub sheet_refusal_unique : Unique 1 sheet_refusal_kinds.ps sheet_refusal_kinds.r (λ κs x s. x) sheet_refusal.Post
sheet_refusal_unique κs a x y s t p q = p ∙ sym q

pub wrong_line_unique : Unique 1 wrong_line_kinds.ps wrong_line_kinds.r (λ κs x s. x) wrong_line.Post
wrong_line_unique κs a x y s t p q = p ∙ sym q
