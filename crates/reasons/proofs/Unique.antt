-- No second result: for each public call, two results that meet its contract at the same arguments look the same; of the page the bytes on
-- it at the exit, and how many. Assumes nothing.
use mathlib.Core.List.{List}
use Prim.Native.Nat.{ℕ}
use Rattle.base.specs.Unique.{Unique}
use Rattle.text.proofs.Pages.{put_same}
use Rattle.reasons.proofs.put_reasons.Kinds as put_reasons_kinds
use Rattle.reasons.proofs.put_reasons.Reads as put_reasons

pub put_reasons_unique : Unique {A = List ℕ × ℕ} 4 put_reasons_kinds.ps put_reasons_kinds.r (λ κs x s. (s.0.now.out.now, s.0.now.at)) put_reasons.Post
put_reasons_unique κs a x y s t p q = put_same p q
