-- No second result: for each public call, two results that meet its contract at the same arguments look the same. Assumes nothing.
use mathlib.Core.Path.{◌≡◌, sym, ◌∙◌}
use mathlib.Core.List.{List}
use Prim.Native.Nat.{ℕ}
use Rattle.base.specs.Unique.{Unique}
use Rattle.text.proofs.Pages.{put_same}
use Rattle.writer.proofs.put_number.Kinds as put_number_kinds
use Rattle.writer.proofs.put_number.Reads as put_number
use Rattle.writer.proofs.put_header.Kinds as put_header_kinds
use Rattle.writer.proofs.put_header.Reads as put_header
use Rattle.writer.proofs.taken_bytes.Kinds as taken_bytes_kinds
use Rattle.writer.proofs.taken_bytes.Reads as taken_bytes
use Rattle.writer.proofs.put_ends.Kinds as put_ends_kinds
use Rattle.writer.proofs.put_ends.Reads as put_ends
use Rattle.writer.proofs.put_bodies.Kinds as put_bodies_kinds
use Rattle.writer.proofs.put_bodies.Reads as put_bodies

-- of what is put on a page: the bytes on it, and how many
pub put_number_unique : Unique {A = List ℕ × ℕ} 2 put_number_kinds.ps put_number_kinds.r
    (λ κs x s. (s.0.now.out.now, s.0.now.at)) put_number.Post
put_number_unique κs a x y s t p q = put_same p q

pub put_header_unique : Unique {A = List ℕ × ℕ} 2 put_header_kinds.ps put_header_kinds.r
    (λ κs x s. (s.0.now.out.now, s.0.now.at)) put_header.Post
put_header_unique κs a x y s t p q = put_same p q

pub put_ends_unique : Unique {A = ℕ × (List ℕ × ℕ)} 3 put_ends_kinds.ps put_ends_kinds.r
    (λ κs x s. (x, (s.0.now.out.now, s.0.now.at))) put_ends.Post
put_ends_unique κs a x y s t p q = let e : x ≡ y = p.end_is ∙ sym q.end_is in rw (e, put_same p.put q.put)

pub put_bodies_unique : Unique {A = List ℕ × ℕ} 3 put_bodies_kinds.ps put_bodies_kinds.r
    (λ κs x s. (s.0.now.out.now, s.0.now.at)) put_bodies.Post
put_bodies_unique κs a x y s t p q = put_same p q

pub taken_bytes_unique : Unique 1 taken_bytes_kinds.ps taken_bytes_kinds.r (λ κs x s. x) taken_bytes.Post
taken_bytes_unique κs a x y s t p q = p.0 ∙ sym q.0
