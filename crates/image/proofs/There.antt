-- A bad instruction that an image is refused for is there: it was found below the counts. Assumes nothing.
use mathlib.Core.Path.{◌≡◌}
use mathlib.Core.Bool.{true}
use mathlib.Core.List.{List}
use Prim.Native.Nat.{ℕ, zero, suc, ◌<◌}
use native.Mathlib.Omega.{arith}
use Rattle.std.specs.Prelude.{Ok, Err}
use Rattle.image.specs.Limits.{max_programs}
use Rattle.image.specs.declared.refusals.BadInstruction.{BadInstruction}
use Rattle.image.specs.declared.refusals.ImageRefusal.TheVariants.{Size, Header, Offsets, Instruction}
use Rattle.image.specs.Refusals.{told_of_image, numbers_of_image, first_of, after, says_where, placed}
use Rattle.image.specs.Instruction.{instructions_of, fault_at, program_fault, code_fault}
use Rattle.image.specs.Image.{count_of, header_of, part_of, Lies, size_good, header_good, offsets_good, code_refusal, refusal_of}
use Rattle.image.proofs.Refusing.{Checks, behind, refused_given}
use Rattle.image.proofs.Places.{where_bad}
use Rattle.image.proofs.Laws.{lies, few_programs_lem}

-- a fact of each refusal below n is one of the first below n
pub firsts_below : {E : Type 0} (P : E → Type 0) (refusal : ℕ → Checks E) (n : ℕ) → ((k : ℕ) → k < n → (e : E) → refusal k ≡ Err e → P e)
    → (e : E) → first_of n refusal ≡ Err e → P e
unfolding first_of after
firsts_below P refusal zero each e f = absurd (cc)
firsts_below {E} P refusal (suc n) each e f = go (first_of n refusal) (firsts_below P refusal n (λ k l. each k (omega arith))) f
  where
    go : (r : Checks E) → ((e : E) → r ≡ Err e → P e) → after r (refusal n) ≡ Err e → P e
    go (Ok done) before g = each n (omega arith) e g
    go (Err s) before g = before e g

-- the instruction that a refusal names, among n programs of which this is the part of each
pub record There (n : ℕ) (part : ℕ → List ℕ) (bad : BadInstruction) : Type 0 where
  pub program_there : bad.program < n
  pub instruction_there : bad.instruction < instructions_of (part bad.program)
  -- and what is wrong with it is its fault
  pub fault_there : fault_at (part bad.program) bad.instruction ≡ Err bad.fault

module _ (n : ℕ) (part : ℕ → List ℕ) where
  placed_there : (p i : ℕ) → p < n → i < instructions_of (part p) → (bad : BadInstruction) → placed p i (fault_at (part p) i) ≡ Err bad → There n part bad
  unfolding placed
  placed_there p i l k bad e =
      let found = refused_given _ (fault_at (part p) i) e in
      rw found.2 (record { program_there = l; instruction_there = k; fault_there = found.1 })

  pub code_there : (bad : BadInstruction) → code_fault n part ≡ Err bad → There n part bad
  unfolding code_fault program_fault
  code_there =
      firsts_below (There n part) _ n (λ p l. firsts_below (There n part) _ (instructions_of (part p)) (λ i k. placed_there p i l k))

-- ---- in an image

-- its program lies in the image
pub record Stands (image : List ℕ) (bad : BadInstruction) : Type 0 where
  pub program_lies : Lies image bad.program
  pub program_low : bad.program < max_programs
  pub there : There (count_of image) (part_of image) bad

pub refusal_stands : (image : List ℕ) {bad : BadInstruction} → refusal_of image ≡ Err (Instruction bad) → Stands image bad
unfolding refusal_of code_refusal
refusal_stands image {bad} e =
    let a = behind (size_good image) Size _ (λ z. cc) e in
    let b = behind (header_good (header_of image)) Header _ (λ z. cc) a.1 in
    let c = behind (offsets_good image) Offsets _ (λ z. cc) b.1 in
    let found = refused_given Instruction (code_refusal image) c.1 in
    let is : code_refusal image ≡ Err bad = cc in
    let t = code_there (count_of image) (part_of image) bad is in
    record {
      program_lies = lies image c.0 _ t.program_there;
      program_low = omega (arith, t.program_there, few_programs_lem image b.0);
      there = t;
    }

-- by number: where it says where, the place is that of such an instruction
pub told_stands : (image : List ℕ) → says_where (told_of_image (refusal_of image)).number ≡ true
    → (bad : BadInstruction) × (told_of_image (refusal_of image) ≡ numbers_of_image (Instruction bad)) × Stands image bad
told_stands image e = let found = where_bad (refusal_of image) e in (found.0, found.2, refusal_stands image found.1)
