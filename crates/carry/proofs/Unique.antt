-- No second result: for each public call, two results that meet its contract at the same arguments look the same. Assumes nothing.
use mathlib.Core.List.{List}
use Prim.Native.Nat.{ℕ}
use Rattle.base.specs.Unique.{Unique}
use Rattle.std.specs.Prelude.{Result}
use Rattle.image.specs.declared.refusals.Refusal.{Refusal}
use Rattle.carry.proofs.Chosen.by_mask.Kinds as by_mask_kinds
use Rattle.carry.proofs.Chosen.by_mask.Reads as by_mask
use Rattle.carry.proofs.Chosen.of.Kinds as of_kinds
use Rattle.carry.proofs.Chosen.of.Reads as of
use Rattle.carry.proofs.Chosen.write.Kinds as write_kinds
use Rattle.carry.proofs.Chosen.write.Reads as write
use Rattle.carry.proofs.next_image.Kinds as next_image_kinds
use Rattle.carry.proofs.next_image.Reads as next_image

-- the answer, and what the output holds at the exit
pub next_image_unique : Unique {A = Result ℕ Refusal × List ℕ} 6 next_image_kinds.ps next_image_kinds.r
    (λ κs x s. (x, s.1.1.1.1.1.0.now)) next_image.Post
next_image_unique κs a x y s t p q = cc

-- of both, the two images that are chosen from are compared by their bytes
pub by_mask_unique : Unique {A = List ℕ × ℕ × ℕ × List ℕ × ℕ × ℕ × ℕ} 1 by_mask_kinds.ps by_mask_kinds.r
    (λ κs x s. (x.image.now, x.n, x.mask, x.fresh.now, x.m, x.all, x.programs)) by_mask.Post
by_mask_unique κs a x y s t p q = cc

pub of_unique : Unique {A = List ℕ × ℕ × ℕ × List ℕ × ℕ × ℕ × ℕ} 3 of_kinds.ps of_kinds.r
    (λ κs x s. (x.image.now, x.n, x.mask, x.fresh.now, x.m, x.all, x.programs)) of.Post
of_unique κs a x y s t p q = cc

pub write_unique : Unique {A = ℕ × List ℕ} 3 write_kinds.ps write_kinds.r (λ κs x s. (x, s.1.0.now)) write.Post
write_unique κs a x y s t p q = cc
