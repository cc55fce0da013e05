-- No second result: for each public call, two results that meet its contract at the same arguments look the same. Assumes nothing.
use mathlib.Core.Path.{sym, ◌∙◌}
use mathlib.Core.List.{List}
use Prim.Native.Nat.{ℕ}
use Rattle.base.specs.Unique.{Unique}
use Rattle.std.specs.Prelude.{Result}
use Rattle.image.specs.declared.refusals.Refusal.{Refusal}
use Rattle.text.proofs.Pages.{page_same}
use Rattle.from_image.proofs.sheet_of.Kinds as sheet_of_kinds
use Rattle.from_image.proofs.sheet_of.Reads as sheet_of
use Rattle.from_image.proofs.longest_sheet.Kinds as longest_sheet_kinds
use Rattle.from_image.proofs.longest_sheet.Reads as longest_sheet
use Rattle.from_image.proofs.write_sheet.Kinds as write_sheet_kinds
use Rattle.from_image.proofs.write_sheet.Reads as write_sheet

-- the answer, and what the output holds at the exit
pub sheet_of_unique : Unique {A = Result ℕ Refusal × List ℕ} 2 sheet_of_kinds.ps sheet_of_kinds.r (λ κs x s. (x, s.1.0.now)) sheet_of.Post
sheet_of_unique κs a x y s t p q = cc

pub write_sheet_unique : Unique {A = ℕ × List ℕ} 2 write_sheet_kinds.ps write_sheet_kinds.r (λ κs x s. (x, s.1.0.now)) write_sheet.Post
write_sheet_unique κs a x y s t p q = page_same p q

pub longest_sheet_unique : Unique 0 longest_sheet_kinds.ps longest_sheet_kinds.r (λ κs x s. x) longest_sheet.Post
longest_sheet_unique κs a x y s t p q = p ∙ sym q
