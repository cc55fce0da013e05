-- No second result: for each public call, two results that meet its contract at the same arguments look the same: the bytes on the page,
-- and how many. Assumes nothing.
use mathlib.Core.List.{List}
use Prim.Native.Nat.{ℕ}
use Rattle.base.specs.Unique.{Unique}
use Rattle.text.proofs.Pages.{put_same}
use Rattle.sentences.proofs.put_free.Kinds as put_free_kinds
use Rattle.sentences.proofs.put_free.Reads as put_free
use Rattle.sentences.proofs.put_turned.Kinds as put_turned_kinds
use Rattle.sentences.proofs.put_turned.Reads as put_turned
use Rattle.sentences.proofs.put_waw.Kinds as put_waw_kinds
use Rattle.sentences.proofs.put_waw.Reads as put_waw
use Rattle.sentences.proofs.put_raw.Kinds as put_raw_kinds
use Rattle.sentences.proofs.put_raw.Reads as put_raw
use Rattle.sentences.proofs.put_raw_with_war.Kinds as put_raw_with_war_kinds
use Rattle.sentences.proofs.put_raw_with_war.Reads as put_raw_with_war
use Rattle.sentences.proofs.put_again.Kinds as put_again_kinds
use Rattle.sentences.proofs.put_again.Reads as put_again
use Rattle.sentences.proofs.put_rejected.Kinds as put_rejected_kinds
use Rattle.sentences.proofs.put_rejected.Reads as put_rejected
use Rattle.sentences.proofs.put_load_fault.Kinds as put_load_fault_kinds
use Rattle.sentences.proofs.put_load_fault.Reads as put_load_fault
use Rattle.sentences.proofs.put_store_fault.Kinds as put_store_fault_kinds
use Rattle.sentences.proofs.put_store_fault.Reads as put_store_fault
use Rattle.sentences.proofs.put_guard_fault.Kinds as put_guard_fault_kinds
use Rattle.sentences.proofs.put_guard_fault.Reads as put_guard_fault

pub put_free_unique : Unique {A = List ℕ × ℕ} 2 put_free_kinds.ps put_free_kinds.r
    (λ κs x s. (s.0.now.out.now, s.0.now.at)) put_free.Post
put_free_unique κs a x y s t p q = put_same p q

pub put_turned_unique : Unique {A = List ℕ × ℕ} 2 put_turned_kinds.ps put_turned_kinds.r
    (λ κs x s. (s.0.now.out.now, s.0.now.at)) put_turned.Post
put_turned_unique κs a x y s t p q = put_same p q

pub put_waw_unique : Unique {A = List ℕ × ℕ} 2 put_waw_kinds.ps put_waw_kinds.r
    (λ κs x s. (s.0.now.out.now, s.0.now.at)) put_waw.Post
put_waw_unique κs a x y s t p q = put_same p q

pub put_raw_unique : Unique {A = List ℕ × ℕ} 2 put_raw_kinds.ps put_raw_kinds.r
    (λ κs x s. (s.0.now.out.now, s.0.now.at)) put_raw.Post
put_raw_unique κs a x y s t p q = put_same p q

pub put_raw_with_war_unique : Unique {A = List ℕ × ℕ} 2 put_raw_with_war_kinds.ps put_raw_with_war_kinds.r
    (λ κs x s. (s.0.now.out.now, s.0.now.at)) put_raw_with_war.Post
put_raw_with_war_unique κs a x y s t p q = put_same p q

pub put_again_unique : Unique {A = List ℕ × ℕ} 2 put_again_kinds.ps put_again_kinds.r
    (λ κs x s. (s.0.now.out.now, s.0.now.at)) put_again.Post
put_again_unique κs a x y s t p q = put_same p q

pub put_rejected_unique : Unique {A = List ℕ × ℕ} 2 put_rejected_kinds.ps put_rejected_kinds.r
    (λ κs x s. (s.0.now.out.now, s.0.now.at)) put_rejected.Post
put_rejected_unique κs a x y s t p q = put_same p q

pub put_load_fault_unique : Unique {A = List ℕ × ℕ} 2 put_load_fault_kinds.ps put_load_fault_kinds.r
    (λ κs x s. (s.0.now.out.now, s.0.now.at)) put_load_fault.Post
put_load_fault_unique κs a x y s t p q = put_same p q

pub put_store_fault_unique : Unique {A = List ℕ × ℕ} 2 put_store_fault_kinds.ps put_store_fault_kinds.r
    (λ κs x s. (s.0.now.out.now, s.0.now.at)) put_store_fault.Post
put_store_fault_unique κs a x y s t p q = put_same p q

pub put_guard_fault_unique : Unique {A = List ℕ × ℕ} 2 put_guard_fault_kinds.ps put_guard_fault_kinds.r
    (λ κs x s. (s.0.now.out.now, s.0.now.at)) put_guard_fault.Post
put_guard_fault_unique κs a x y s t p q = put_same p q
