-- No second result: for each public function, two results that meet its contract at the same arguments look the same. Assumes nothing.
use mathlib.Core.Path.{sym, ◌∙◌}
use mathlib.Core.List.{List}
use Prim.Native.Nat.{ℕ}
use Rattle.base.specs.Unique.{Unique}
use Rattle.text.proofs.Pages.{put_same}
use Rattle.text.proofs.decimal_length.Kinds as decimal_length_kinds
use Rattle.text.proofs.decimal_length.Reads as decimal_length_reads
use Rattle.text.proofs.number_of.Kinds as number_of_kinds
use Rattle.text.proofs.number_of.Reads as number_of_reads
use Rattle.text.proofs.page.Page.new.Kinds as new_kinds
use Rattle.text.proofs.page.Page.new.Reads as new_reads
use Rattle.text.proofs.page.Page.end.Kinds as end_kinds
use Rattle.text.proofs.page.Page.end.Reads as end_reads
use Rattle.text.proofs.page.Page.byte.Kinds as byte_kinds
use Rattle.text.proofs.page.Page.byte.Reads as byte_reads
use Rattle.text.proofs.page.Page.bytes.Kinds as bytes_kinds
use Rattle.text.proofs.page.Page.bytes.Reads as bytes_reads
use Rattle.text.proofs.page.Page.decimal.Kinds as decimal_kinds
use Rattle.text.proofs.page.Page.decimal.Reads as decimal_reads
use Rattle.text.proofs.page.Page.filled.Kinds as filled_kinds
use Rattle.text.proofs.page.Page.filled.Reads as filled_reads

pub decimal_length_unique : Unique 0 decimal_length_kinds.ps decimal_length_kinds.r (λ κs x s. x) decimal_length_reads.Post
decimal_length_unique κs a x y s t p q = p ∙ sym q

pub number_of_unique : Unique 1 number_of_kinds.ps number_of_kinds.r (λ κs x s. x) number_of_reads.Post
number_of_unique κs a x y s t p q = p ∙ sym q

pub end_unique : Unique 2 end_kinds.ps end_kinds.r (λ κs x s. x) end_reads.Post
end_unique κs a x y s t p q = p ∙ sym q

pub new_unique : Unique {A = List ℕ × ℕ} 1 new_kinds.ps new_kinds.r (λ κs x s. (x.out.now, x.at)) new_reads.Post
new_unique κs a x y s t p q = cc

-- of what is put on a page: the bytes on it, and how many
pub byte_unique : Unique {A = List ℕ × ℕ} 2 byte_kinds.ps byte_kinds.r (λ κs x s. (s.0.now.out.now, s.0.now.at)) byte_reads.Post
byte_unique κs a x y s t p q = put_same p q

pub bytes_unique : Unique {A = List ℕ × ℕ} 3 bytes_kinds.ps bytes_kinds.r (λ κs x s. (s.0.now.out.now, s.0.now.at)) bytes_reads.Post
bytes_unique κs a x y s t p q = put_same p q

pub decimal_unique : Unique {A = List ℕ × ℕ} 2 decimal_kinds.ps decimal_kinds.r (λ κs x s. (s.0.now.out.now, s.0.now.at)) decimal_reads.Post
decimal_unique κs a x y s t p q = put_same p q

pub filled_unique : Unique {A = List ℕ × ℕ} 4 filled_kinds.ps filled_kinds.r (λ κs x s. (s.0.now.out.now, s.0.now.at)) filled_reads.Post
filled_unique κs a x y s t p q = put_same p q
