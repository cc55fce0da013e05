-- No second result: for each call, two outcomes that meet its contract at the same arguments look the same. Assumes nothing.
use mathlib.Core.List.{List}
use Prim.Native.Nat.{ℕ}
use Rattle.base.specs.Unique.{Unique}
use Rattle.text.proofs.Pages.{put_same, page_same}
use Rattle.refused.proofs.put_refused.Kinds as put_refused_kinds
use Rattle.refused.proofs.put_refused.Reads as Put-refused
use Rattle.refused.proofs.put_refused_at.Kinds as put_refused_at_kinds
use Rattle.refused.proofs.put_refused_at.Reads as put_refused_at
use Rattle.refused.proofs.put_where.Kinds as put_where_kinds
use Rattle.refused.proofs.put_where.Reads as put_where
use Rattle.refused.proofs.put_where_at.Kinds as put_where_at_kinds
use Rattle.refused.proofs.put_where_at.Reads as put_where_at
use Rattle.refused.proofs.image_where.Kinds as image_where_kinds
use Rattle.refused.proofs.image_where.Reads as image_where

-- the bytes on the page at the exit, and how many
pub put_refused_unique : Unique {A = List ℕ × ℕ} 2 put_refused_kinds.ps put_refused_kinds.r (λ κs x s. (s.0.now.out.now, s.0.now.at)) Put-refused.Post
put_refused_unique κs a x y s t p q = put_same p q

pub put_refused_at_unique : Unique {A = List ℕ × ℕ} 2 put_refused_at_kinds.ps put_refused_at_kinds.r (λ κs x s. (s.0.now.out.now, s.0.now.at)) put_refused_at.Post
put_refused_at_unique κs a x y s t p q = put_same p q

pub put_where_unique : Unique {A = List ℕ × ℕ} 2 put_where_kinds.ps put_where_kinds.r (λ κs x s. (s.0.now.out.now, s.0.now.at)) put_where.Post
put_where_unique κs a x y s t p q = put_same p q

pub put_where_at_unique : Unique {A = List ℕ × ℕ} 2 put_where_at_kinds.ps put_where_at_kinds.r (λ κs x s. (s.0.now.out.now, s.0.now.at)) put_where_at.Post
put_where_at_unique κs a x y s t p q = put_same p q

pub image_where_unique : Unique {A = ℕ × List ℕ} 2 image_where_kinds.ps image_where_kinds.r (λ κs x s. (x, s.1.0.now)) image_where.Post
image_where_unique κs a x y s t p q = page_same p q
