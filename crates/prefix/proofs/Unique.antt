-- No second result: for each public call, two outcomes that meet its contract at the same arguments look the same. Assumes nothing.
use mathlib.Core.Path.{sym, ◌∙◌}
use mathlib.Core.List.{List}
use Prim.Native.Nat.{ℕ}
use Rattle.base.specs.Unique.{Unique}
use Rattle.text.proofs.Pages.{page_same}
use Rattle.prefix.proofs.put_prefix.Kinds as put_prefix_kinds
use Rattle.prefix.proofs.put_prefix.Reads as put_prefix
use Rattle.prefix.proofs.put_guards.Kinds as put_guards_kinds
use Rattle.prefix.proofs.put_guards.Reads as put_guards

-- how many bytes are the prefix, and what the output holds at the exit
pub put_prefix_unique : Unique {A = ℕ × List ℕ} 2 put_prefix_kinds.ps put_prefix_kinds.r (λ κs x s. (x, s.0.now)) put_prefix.Post
put_prefix_unique κs a x y s t p q = page_same p q

-- the same of the guards
pub put_guards_unique : Unique {A = ℕ × List ℕ} 2 put_guards_kinds.ps put_guards_kinds.r (λ κs x s. (x, s.0.now)) put_guards.Post
put_guards_unique κs a x y s t p q = page_same p q
