-- No second result: for each public call, two results that meet its contract at the same arguments look the same: the bytes on
-- the page at the exit, and how many. Assumes nothing.
use mathlib.Core.List.{List}
use Prim.Native.Nat.{ℕ}
use Rattle.base.specs.Unique.{Unique}
use Rattle.text.proofs.Pages.{put_same}
use Rattle.results.proofs.put_listing.Kinds as put_listing_kinds
use Rattle.results.proofs.put_listing.Reads as put_listing

pub put_listing_unique : Unique {A = List ℕ × ℕ} 3 put_listing_kinds.ps put_listing_kinds.r (λ κs x s. (s.0.now.out.now, s.0.now.at)) put_listing.Post
put_listing_unique κs a x y s t p q = put_same p q
