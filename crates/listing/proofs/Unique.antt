-- No second result: for each public call, two results that meet its contract at the same arguments look the same. Assumes nothing.
use mathlib.Core.List.{List}
use Prim.Native.Nat.{ℕ}
use Rattle.base.specs.Unique.{Unique}
use Rattle.std.specs.Prelude.{Result}
use Rattle.image.specs.declared.refusals.Refusal.{Refusal}
use Rattle.listing.proofs.order_checked.Kinds as order_checked_kinds
use Rattle.listing.proofs.order_checked.Reads as order_checked
use Rattle.listing.proofs.order.Kinds as order_kinds
use Rattle.listing.proofs.order.Reads as order

-- the answer, and what the list holds at the exit
pub order_unique : Unique {A = Result ℕ Refusal × List ℕ} 5 order_kinds.ps order_kinds.r (λ κs x s. (x, s.1.1.1.1.0.now)) order.Post
order_unique κs a x y s t p q = cc

pub order_checked_unique : Unique {A = Result ℕ Refusal × List ℕ} 2 order_checked_kinds.ps order_checked_kinds.r
    (λ κs x s. (x, s.1.1.1.0.now)) order_checked.Post
order_checked_unique κs a x y s t p q = cc
