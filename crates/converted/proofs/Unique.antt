-- No second result: for each call, two outcomes that meet its contract at the same arguments look the same. Assumes nothing.
use mathlib.Core.Path.{sym, ◌∙◌}
use mathlib.Core.List.{List}
use Prim.Native.Nat.{ℕ}
use Rattle.base.specs.Unique.{Unique}
use Rattle.text.proofs.Pages.{page_same}
use Rattle.converted.proofs.too_long.Kinds as too_long_kinds
use Rattle.converted.proofs.too_long.Reads as too_long
use Rattle.converted.proofs.image_page.Kinds as image_page_kinds
use Rattle.converted.proofs.image_page.Reads as image_page
use Rattle.converted.proofs.sheet_page.Kinds as sheet_page_kinds
use Rattle.converted.proofs.sheet_page.Reads as sheet_page
use Rattle.converted.proofs.sheet_said.Kinds as sheet_said_kinds
use Rattle.converted.proofs.sheet_said.Reads as sheet_said

pub too_long_unique : Unique 1 too_long_kinds.ps too_long_kinds.r (λ κs x s. x) too_long.Post
too_long_unique κs a x y s t p q = p ∙ sym q

-- how many bytes are the page, and what the output holds at the exit
pub image_page_unique : Unique {A = ℕ × List ℕ} 2 image_page_kinds.ps image_page_kinds.r (λ κs x s. (x, s.1.0.now)) image_page.Post
image_page_unique κs a x y s t p q = page_same p q

pub sheet_page_unique : Unique {A = ℕ × List ℕ} 2 sheet_page_kinds.ps sheet_page_kinds.r (λ κs x s. (x, s.1.0.now)) sheet_page.Post
sheet_page_unique κs a x y s t p q = page_same p q

pub sheet_said_unique : Unique {A = ℕ × List ℕ} 2 sheet_said_kinds.ps sheet_said_kinds.r (λ κs x s. (x, s.1.0.now)) sheet_said.Post
sheet_said_unique κs a x y s t p q = page_same p q
