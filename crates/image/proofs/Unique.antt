-- No second result: for each public call, two results that meet its contract at the same arguments look the same. Assumes nothing.
use mathlib.Core.Path.{sym, ◌∙◌}
use mathlib.Core.List.{List}
use Prim.Native.Nat.{ℕ}
use denote.Ref.{Bor}
use Rattle.base.specs.Unique.{Unique}
use Rattle.image.proofs.Image.header.Kinds as header_kinds
use Rattle.image.proofs.Image.header.Reads as header
use Rattle.image.proofs.count.Kinds as count_kinds
use Rattle.image.proofs.count.Reads as count
use Rattle.image.proofs.rule.Kinds as rule_kinds
use Rattle.image.proofs.rule.Reads as rule
use Rattle.image.proofs.second_rule.Kinds as second_rule_kinds
use Rattle.image.proofs.second_rule.Reads as second_rule
use Rattle.image.proofs.head_bytes.Kinds as head_bytes_kinds
use Rattle.image.proofs.head_bytes.Reads as head_bytes
use Rattle.image.proofs.part_of.Kinds as part_of_kinds
use Rattle.image.proofs.part_of.Reads as part_of
use Rattle.image.proofs.image_refusal.Kinds as image_refusal_kinds
use Rattle.image.proofs.image_refusal.Reads as image_refusal
use Rattle.image.proofs.program_fault.Kinds as program_fault_kinds
use Rattle.image.proofs.program_fault.Reads as program_fault
use Rattle.image.proofs.instruction.Instruction.at.Kinds as at_kinds
use Rattle.image.proofs.instruction.Instruction.at.Reads as at
use Rattle.image.proofs.instruction.wrong_byte.Kinds as wrong_byte_kinds
use Rattle.image.proofs.instruction.wrong_byte.Reads as wrong_byte
use Rattle.image.proofs.fresh_refusal.Kinds as fresh_refusal_kinds
use Rattle.image.proofs.fresh_refusal.Reads as fresh_refusal
use Rattle.image.proofs.program_refusal.Kinds as program_refusal_kinds
use Rattle.image.proofs.program_refusal.Reads as program_refusal
use Rattle.image.proofs.refusals.RefusalNumbersFromResultUnitRefusal.from.Kinds as told_kinds
use Rattle.image.proofs.refusals.RefusalNumbersFromResultUnitRefusal.from.Reads as told
use Rattle.image.proofs.refusals.RefusalNumbersFromRefusal.from.Kinds as numbers_kinds
use Rattle.image.proofs.refusals.RefusalNumbersFromRefusal.from.Reads as numbers
use Rattle.image.proofs.refusals.RefusalNumbersFromImageRefusal.from.Kinds as image_numbers_kinds
use Rattle.image.proofs.refusals.RefusalNumbersFromImageRefusal.from.Reads as image_numbers
use Rattle.image.proofs.program.Kinds as program_kinds
use Rattle.image.proofs.program.Reads as program
use Rattle.image.proofs.program_start.Kinds as program_start_kinds
use Rattle.image.proofs.program_start.Reads as program_start

-- of a part that is handed back: its bytes, and where it lies
abbrev pub seen : Bor (List ℕ) → List ℕ × (ℕ × ℕ)
seen part = (part.now, part.ref_ptr)

pub header_unique : Unique 1 header_kinds.ps header_kinds.r (λ κs x s. x) header.Post
header_unique κs a x y s t p q = p ∙ sym q

pub count_unique : Unique 1 count_kinds.ps count_kinds.r (λ κs x s. x) count.Post
count_unique κs a x y s t p q = p.0 ∙ sym q.0

pub rule_unique : Unique 1 rule_kinds.ps rule_kinds.r (λ κs x s. x) rule.Post
rule_unique κs a x y s t p q = p ∙ sym q

pub second_rule_unique : Unique 1 second_rule_kinds.ps second_rule_kinds.r (λ κs x s. x) second_rule.Post
second_rule_unique κs a x y s t p q = p ∙ sym q

pub head_bytes_unique : Unique 0 head_bytes_kinds.ps head_bytes_kinds.r (λ κs x s. x) head_bytes.Post
head_bytes_unique κs a x y s t p q = p ∙ sym q

pub part_of_unique : Unique 1 part_of_kinds.ps part_of_kinds.r (λ κs x s. seen x) part_of.Post
part_of_unique κs a x y s t p q = cc

pub image_refusal_unique : Unique 1 image_refusal_kinds.ps image_refusal_kinds.r (λ κs x s. x) image_refusal.Post
image_refusal_unique κs a x y s t p q = p ∙ sym q

pub program_fault_unique : Unique 1 program_fault_kinds.ps program_fault_kinds.r (λ κs x s. x) program_fault.Post
program_fault_unique κs a x y s t p q = p ∙ sym q

pub at_unique : Unique 1 at_kinds.ps at_kinds.r (λ κs x s. x) at.Post
at_unique κs a x y s t p q = p ∙ sym q

pub wrong_byte_unique : Unique 1 wrong_byte_kinds.ps wrong_byte_kinds.r (λ κs x s. x) wrong_byte.Post
wrong_byte_unique κs a x y s t p q = p ∙ sym q

pub fresh_refusal_unique : Unique 1 fresh_refusal_kinds.ps fresh_refusal_kinds.r (λ κs x s. x) fresh_refusal.Post
fresh_refusal_unique κs a x y s t p q = p ∙ sym q

pub program_refusal_unique : Unique 1 program_refusal_kinds.ps program_refusal_kinds.r (λ κs x s. x) program_refusal.Post
program_refusal_unique κs a x y s t p q = p.answer ∙ sym q.answer

pub program_unique : Unique 1 program_kinds.ps program_kinds.r (λ κs x s. seen x) program.Post
program_unique κs a x y s t p q = cc

pub program_start_unique : Unique 1 program_start_kinds.ps program_start_kinds.r (λ κs x s. x) program_start.Post
program_start_unique κs a x y s t p q = p ∙ sym q

-- and the numbers of a refusal that C gets
pub told_unique : Unique 0 told_kinds.ps told_kinds.r (λ κs x s. x) told.Post
told_unique κs a x y s t p q = p ∙ sym q

pub numbers_of_unique : Unique 0 numbers_kinds.ps numbers_kinds.r (λ κs x s. x) numbers.Post
numbers_of_unique κs a x y s t p q = p ∙ sym q

pub numbers_of_image_unique : Unique 0 image_numbers_kinds.ps image_numbers_kinds.r (λ κs x s. x) image_numbers.Post
numbers_of_image_unique κs a x y s t p q = p ∙ sym q
