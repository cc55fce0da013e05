-- No second result: for each public call, two outcomes that meet its contract at the same arguments look the same. Assumes nothing.
use Rattle.std.proofs.Common.{ℕ, List, sym, ◌∙◌}
use Rattle.base.specs.Unique.{Unique}
use Rattle.slot.proofs.can_settle.Kinds as can_settle_kinds
use Rattle.slot.proofs.can_settle.Reads as can_settle
use Rattle.slot.proofs.is_in.Kinds as is_in_kinds
use Rattle.slot.proofs.is_in.Reads as is_in
use Rattle.slot.proofs.count_word.Kinds as count_word_kinds
use Rattle.slot.proofs.count_word.Reads as count_word
use Rattle.slot.proofs.first_word.Kinds as first_word_kinds
use Rattle.slot.proofs.first_word.Reads as first_word
use Rattle.slot.proofs.clear.Kinds as clear_kinds
use Rattle.slot.proofs.clear.Reads as clear
use Rattle.slot.proofs.stored_place.Kinds as stored_place_kinds
use Rattle.slot.proofs.stored_place.Reads as stored_place
use Rattle.slot.proofs.note_store.Kinds as note_store_kinds
use Rattle.slot.proofs.note_store.Reads as note_store
use Rattle.slot.proofs.note_read.Kinds as note_read_kinds
use Rattle.slot.proofs.note_read.Reads as note_read

pub can_settle_unique : Unique 0 can_settle_kinds.ps can_settle_kinds.r (λ κs x s. x) can_settle.Post
can_settle_unique κs a x y s t p q = p ∙ sym q

pub is_in_unique : Unique 0 is_in_kinds.ps is_in_kinds.r (λ κs x s. x) is_in.Post
is_in_unique κs a x y s t p q = p ∙ sym q

pub count_word_unique : Unique 0 count_word_kinds.ps count_word_kinds.r (λ κs x s. x) count_word.Post
count_word_unique κs a x y s t p q = p ∙ sym q

pub first_word_unique : Unique 0 first_word_kinds.ps first_word_kinds.r (λ κs x s. x) first_word.Post
first_word_unique κs a x y s t p q = p ∙ sym q

pub clear_unique : Unique {A = List ℕ} 1 clear_kinds.ps clear_kinds.r (λ κs x s. s.0.now) clear.Post
clear_unique κs a x y s t p q = p ∙ sym q

pub stored_place_unique : Unique 1 stored_place_kinds.ps stored_place_kinds.r (λ κs x s. x) stored_place.Post
stored_place_unique κs a x y s t p q = p.0 ∙ sym q.0

pub note_store_unique : Unique {A = List ℕ} 1 note_store_kinds.ps note_store_kinds.r (λ κs x s. s.0.now) note_store.Post
note_store_unique κs a x y s t p q = p ∙ sym q

pub note_read_unique : Unique {A = List ℕ} 1 note_read_kinds.ps note_read_kinds.r (λ κs x s. s.0.now) note_read.Post
note_read_unique κs a x y s t p q = p ∙ sym q
