-- No second result: two pages that meet the contract at the same input and the same room look the same, and so do their lengths. Assumes nothing.
use mathlib.Core.List.{List}
use Prim.Native.Nat.{ℕ}
use Rattle.base.specs.Unique.{Unique}
use Rattle.text.proofs.Pages.{page_same}
use Rattle.report.proofs.batch_page.Kinds as batch_page_kinds
use Rattle.report.proofs.batch_page.Reads as batch_page
use Rattle.report.proofs.reasons_page.Kinds as reasons_page_kinds
use Rattle.report.proofs.reasons_page.Reads as reasons_page
use Rattle.report.proofs.said.Kinds as said_kinds
use Rattle.report.proofs.said.Reads as said

pub batch_page_unique : Unique {A = ℕ × List ℕ} 2 batch_page_kinds.ps batch_page_kinds.r (λ κs x s. (x, s.1.1.0.now)) batch_page.Post
batch_page_unique κs a x y s t p q = page_same p q

pub reasons_page_unique : Unique {A = ℕ × List ℕ} 2 reasons_page_kinds.ps reasons_page_kinds.r (λ κs x s. (x, s.1.1.0.now)) reasons_page.Post
reasons_page_unique κs a x y s t p q = page_same p q

pub said_unique : Unique {A = ℕ × List ℕ} 2 said_kinds.ps said_kinds.r (λ κs x s. (x, s.1.1.0.now)) said.Post
said_unique κs a x y s t p q = page_same p q
