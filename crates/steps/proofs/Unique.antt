-- No second result: for each call, two outcomes that meet its contract at the same arguments look the same, the lent words at the exit included.
-- Assumes nothing.
use mathlib.Core.List.{List}
use Prim.Native.Nat.{ℕ}
use Rattle.base.specs.Unique.{Unique}
use Rattle.std.specs.Prelude.{Result}
use Rattle.image.specs.declared.refusals.Refusal.{Refusal}
use Rattle.machine.specs.declared.Run.{Run}
use Rattle.steps.specs.declared.Settled.{Settled}
use Rattle.steps.proofs.open.Kinds as open_kinds
use Rattle.steps.proofs.open.Reads as opening
use Rattle.steps.proofs.gather.Kinds as gather_kinds
use Rattle.steps.proofs.gather.Reads as gather
use Rattle.steps.proofs.gather_checked.Kinds as gather_checked_kinds
use Rattle.steps.proofs.gather_checked.Reads as gather_checked
use Rattle.steps.proofs.settle.Kinds as settle_kinds
use Rattle.steps.proofs.settle.Reads as settle
use Rattle.steps.proofs.settle_checked.Kinds as settle_checked_kinds
use Rattle.steps.proofs.settle_checked.Reads as settle_checked

-- the answer and the area
pub open_unique : Unique {A = Result (Unit {0}) Refusal × List ℕ} 4 open_kinds.ps open_kinds.r (λ κs x s. (x, s.1.1.1.0.now)) opening.Post
open_unique κs a x y s t p q = cc

pub gather_unique : Unique {A = Result Run Refusal × List ℕ} 4 gather_kinds.ps gather_kinds.r (λ κs x s. (x, s.1.1.1.0.now)) gather.Post
gather_unique κs a x y s t p q = cc

pub gather_checked_unique : Unique {A = Run × List ℕ} 4 gather_checked_kinds.ps gather_checked_kinds.r
    (λ κs x s. (x, s.1.1.1.0.now)) gather_checked.Post
gather_checked_unique κs a x y s t p q = cc

-- the answer, the table and the area
pub settle_unique : Unique {A = Result Settled Refusal × List ℕ × List ℕ} 4 settle_kinds.ps settle_kinds.r
    (λ κs x s. (x, s.1.0.now, s.1.1.1.0.now)) settle.Post
settle_unique κs a x y s t p q = cc

pub settle_checked_unique : Unique {A = Settled × List ℕ × List ℕ} 3 settle_checked_kinds.ps settle_checked_kinds.r
    (λ κs x s. (x, s.1.0.now, s.1.1.0.now)) settle_checked.Post
settle_checked_unique κs a x y s t p q = cc
