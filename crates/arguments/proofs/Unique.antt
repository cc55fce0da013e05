-- No second result: for each public call, two outcomes that meet its contract at the same arguments look the same. Assumes nothing.
use Rattle.std.proofs.Common.{ℕ, List, sym, ◌∙◌}
use Rattle.base.specs.Unique.{Unique}
use Rattle.text.proofs.Pages.{page_same}
use Rattle.arguments.proofs.put_count.Kinds as put_count_kinds
use Rattle.arguments.proofs.put_count.Reads as put_count
use Rattle.arguments.proofs.take.Kinds as take_kinds
use Rattle.arguments.proofs.take.Reads as take

-- how many bytes are the words, and what the output holds at the exit
pub put_count_unique : Unique {A = ℕ × List ℕ} 1 put_count_kinds.ps put_count_kinds.r (λ κs x s. (x, s.1.0.now)) put_count.Post
put_count_unique κs a x y s t p q = page_same p q

-- the list as well
pub take_unique : Unique {A = ℕ × List ℕ × List ℕ} 3 take_kinds.ps take_kinds.r (λ κs x s. (x, s.1.0.now, s.1.1.1.1.0.now)) take.Post
take_unique κs a x y s t p q = λ i. let e = page_same p.words q.words i in (e.0, (p.list ∙ sym q.list) i, e.1)
