-- Laws of the refusals' numbers: none of them is 0, each is that of one refusal, and a place is where the number says so, and nowhere else. Assumes nothing.
use mathlib.Core.Path.{◌≡◌, refl, sym, ap, ◌∙◌}
use mathlib.Core.Bool.{Bool, true, false, cond, ◌&&◌, ◌||◌}
use Prim.Native.Nat.{ℕ, ◌+◌, ◌-◌, ◌≤◌}
use native.Mathlib.Omega.{arith}
use lib.Dec.{eqb, leb}
use Rattle.std.specs.Prelude.{Ok, Err}
use Rattle.base.proofs.Bools.{clash}
use Rattle.image.specs.declared.refusals.Fault.{Fault}
use Rattle.image.specs.declared.refusals.Fault.TheVariants as fault
use Rattle.image.specs.declared.refusals.BadInstruction.{BadInstruction}
use Rattle.image.specs.declared.refusals.ImageRefusal.{ImageRefusal}
use Rattle.image.specs.declared.refusals.ImageRefusal.TheVariants as image
use Rattle.image.specs.declared.refusals.Refusal.{Refusal}
use Rattle.image.specs.declared.refusals.Refusal.TheVariants as refusal
use Rattle.image.specs.declared.refusals.RefusalNumbers.{RefusalNumbers}
use Rattle.image.specs.Refusals.{refusing, none, fault_number, numbers_of_image, of_fresh, numbers_of, passed, told, told_of_image, given_as, unless, says_where, WellPlaced}
use Rattle.image.proofs.Refusing.{Checks}

-- ---- which numbers there are

pub fault_is : (P : ℕ → Type 0) → P 41 → P 42 → P 43 → P 44 → (f : Fault) → P (fault_number f)
fault_is P operation register unused skip fault.Operation = operation
fault_is P operation register unused skip fault.Register = register
fault_is P operation register unused skip fault.Unused = unused
fault_is P operation register unused skip fault.Skip = skip

-- a fact of the numbers 1 to 3 and 41 to 44 is one of an image's refusal, and with 0 of the checks of an image
pub image_is : (P : ℕ → Type 0) → P 1 → P 2 → P 3 → P 41 → P 42 → P 43 → P 44 → (r : ImageRefusal) → P (numbers_of_image r).number
image_is P size header offsets operation register unused skip image.Size = size
image_is P size header offsets operation register unused skip image.Header = header
image_is P size header offsets operation register unused skip image.Offsets = offsets
image_is P size header offsets operation register unused skip (image.Instruction bad) = fault_is P operation register unused skip bad.fault

pub image_told_is : (P : ℕ → Type 0) → P 1 → P 2 → P 3 → P 41 → P 42 → P 43 → P 44 → P 0 → (r : Checks ImageRefusal) → P (told_of_image r).number
image_told_is P size header offsets operation register unused skip start (Ok done) = start
image_told_is P size header offsets operation register unused skip start (Err r) = image_is P size header offsets operation register unused skip r

-- and of a bad instruction they are 41 to 44
pub bad_told_is : (P : ℕ → Type 0) → P 41 → P 42 → P 43 → P 44 → P 0 → (r : Checks BadInstruction) → P (told_of_image (given_as image.Instruction r)).number
unfolding given_as
bad_told_is P operation register unused skip start (Ok done) = start
bad_told_is P operation register unused skip start (Err bad) = fault_is P operation register unused skip bad.fault

-- ---- none of them is 0

pub image_some : (r : ImageRefusal) → (numbers_of_image r).number ≡ 0 → ⊥
image_some =
    image_is (λ n. n ≡ 0 → ⊥) (λ e. omega arith) (λ e. omega arith) (λ e. omega arith) (λ e. omega arith) (λ e. omega arith) (λ e. omega arith) (λ e. omega arith)

pub some : (r : Refusal) → (numbers_of r).number ≡ 0 → ⊥
some (refusal.Image r) e = image_some r e
some refusal.TableSize e = omega arith
some refusal.AreaSize e = omega arith
some refusal.Area e = omega arith
some refusal.Number e = omega arith
some refusal.State e = omega arith
some refusal.TooShort e = omega arith
some refusal.TooMany e = omega arith
some refusal.NoOrder e = omega arith
some refusal.NotCarried e = omega arith
some refusal.Guards e = omega arith
some refusal.Reason e = omega arith
some (refusal.Fresh r) e = omega arith

-- and none is over 64
pub few : (r : Refusal) → (numbers_of r).number ≤ 64
few (refusal.Image r) =
    image_is (λ n. n ≤ 64) (omega arith) (omega arith) (omega arith) (omega arith) (omega arith) (omega arith) (omega arith) r
few refusal.TableSize = omega arith
few refusal.AreaSize = omega arith
few refusal.Area = omega arith
few refusal.Number = omega arith
few refusal.State = omega arith
few refusal.TooShort = omega arith
few refusal.TooMany = omega arith
few refusal.NoOrder = omega arith
few refusal.NotCarried = omega arith
few refusal.Guards = omega arith
few refusal.Reason = omega arith
few (refusal.Fresh r) =
    image_is (λ n. 20 + n ≤ 64) (omega arith) (omega arith) (omega arith) (omega arith) (omega arith) (omega arith) (omega arith) r

pub told_few : (r : Checks Refusal) → (told r).number ≤ 64
told_few (Ok done) = omega arith
told_few (Err r) = few r

-- so 0 is told exactly where all has passed
pub told_zero : (r : Checks Refusal) → (told r).number ≡ 0 → r ≡ passed
told_zero (Ok done) e = refl
told_zero (Err r) e = absurd (some r e)

pub told_image_zero : (r : Checks ImageRefusal) → (told_of_image r).number ≡ 0 → r ≡ passed
told_image_zero (Ok done) e = refl
told_image_zero (Err r) e = absurd (image_some r e)

pub told_none : {r : Checks Refusal} → r ≡ passed → told r ≡ none
told_none e = ap told e

pub told_refused : {r : Checks Refusal} {e : Refusal} → r ≡ Err e → told r ≡ numbers_of e
told_refused e = ap told e

-- what is told of an image that a call is lent is what is told of the image alone, and of a fresh one that as the fresh image earns it
pub told_given : (r : Checks ImageRefusal) → told (given_as refusal.Image r) ≡ told_of_image r
unfolding given_as
told_given (Ok done) = refl
told_given (Err r) = refl

pub told_fresh : (r : Checks ImageRefusal) → told (given_as refusal.Fresh r) ≡ unless r (λ e. of_fresh (numbers_of_image e)) none
unfolding given_as unless
told_fresh (Ok done) = refl
told_fresh (Err r) = refl

-- ---- each is that of one refusal

-- the fault and the refusal with these numbers
fault_with : ℕ → Fault
fault_with n = cond (eqb n 41) fault.Operation (cond (eqb n 42) fault.Register (cond (eqb n 43) fault.Unused fault.Skip))

fault_with_lem : (f : Fault) → fault_with (fault_number f) ≡ f
unfolding fault_with
fault_with_lem fault.Operation = refl
fault_with_lem fault.Register = refl
fault_with_lem fault.Unused = refl
fault_with_lem fault.Skip = refl

bad_with : RefusalNumbers → BadInstruction
bad_with r = record { fault = fault_with r.number; program = r.program; instruction = r.instruction }

image_with : RefusalNumbers → ImageRefusal
image_with r = cond (eqb r.number 1) image.Size (cond (eqb r.number 2) image.Header (cond (eqb r.number 3) image.Offsets (image.Instruction (bad_with r))))

image_with_lem : (r : ImageRefusal) → image_with (numbers_of_image r) ≡ r
unfolding image_with bad_with
image_with_lem image.Size = refl
image_with_lem image.Header = refl
image_with_lem image.Offsets = refl
image_with_lem (image.Instruction bad) =
    fault_is (λ n. image_with (record { number = n; program = bad.program; instruction = bad.instruction }) ≡ image.Instruction (record { fault = fault_with n; program = bad.program; instruction = bad.instruction })) refl refl refl refl bad.fault
    ∙ ap (λ (f : Fault). image.Instruction (record { fault = f; program = bad.program; instruction = bad.instruction })) (fault_with_lem bad.fault)

pub same_fault : (f g : Fault) → fault_number f ≡ fault_number g → f ≡ g
same_fault f g e = sym (fault_with_lem f) ∙ ap fault_with e ∙ fault_with_lem g

pub same_image : (r s : ImageRefusal) → numbers_of_image r ≡ numbers_of_image s → r ≡ s
same_image r s e = sym (image_with_lem r) ∙ ap image_with e ∙ image_with_lem s

-- the same of all refusals: those that stand alone, those of the fresh image, and those of the image
alone : ℕ → Refusal → Refusal
alone n other =
    cond (eqb n 5) refusal.TableSize (cond (eqb n 6) refusal.AreaSize (cond (eqb n 7) refusal.Area (cond (eqb n 8) refusal.Number
    (cond (eqb n 9) refusal.State (cond (eqb n 10) refusal.TooShort (cond (eqb n 11) refusal.TooMany (cond (eqb n 12) refusal.NoOrder
    (cond (eqb n 13) refusal.NotCarried (cond (eqb n 14) refusal.Guards (cond (eqb n 15) refusal.Reason other))))))))))

of_image : ℕ → Bool
of_image n = leb n 3 || leb 41 n && leb n 44

refusal_with : RefusalNumbers → Refusal
refusal_with r =
    alone r.number
    (cond (of_image r.number) (refusal.Image (image_with r))
    (refusal.Fresh (image_with (record { number = r.number - 20; program = r.program; instruction = r.instruction }))))

none_alone : (r : ImageRefusal) (other : Refusal) → (alone (numbers_of_image r).number other ≡ other) × (alone (of_fresh (numbers_of_image r)).number other ≡ other)
unfolding alone
none_alone r other =
    image_is (λ n. (alone n other ≡ other) × (alone (20 + n) other ≡ other))
    (refl, refl) (refl, refl) (refl, refl) (refl, refl) (refl, refl) (refl, refl) (refl, refl) r

of_which : (r : ImageRefusal) → (of_image (numbers_of_image r).number ≡ true) × (of_image (of_fresh (numbers_of_image r)).number ≡ false)
unfolding of_image
of_which =
    image_is (λ n. (of_image n ≡ true) × (of_image (20 + n) ≡ false)) (refl, refl) (refl, refl) (refl, refl) (refl, refl) (refl, refl) (refl, refl) (refl, refl)

refusal_with_lem : (r : Refusal) → refusal_with (numbers_of r) ≡ r
unfolding refusal_with alone
refusal_with_lem (refusal.Image r) = (none_alone r _).0 ∙ rw ((of_which r).0, image_with_lem r)
refusal_with_lem refusal.TableSize = refl
refusal_with_lem refusal.AreaSize = refl
refusal_with_lem refusal.Area = refl
refusal_with_lem refusal.Number = refl
refusal_with_lem refusal.State = refl
refusal_with_lem refusal.TooShort = refl
refusal_with_lem refusal.TooMany = refl
refusal_with_lem refusal.NoOrder = refl
refusal_with_lem refusal.NotCarried = refl
refusal_with_lem refusal.Guards = refl
refusal_with_lem refusal.Reason = refl
refusal_with_lem (refusal.Fresh r) =
    (none_alone r _).1 ∙ rw ((of_which r).1, image_is (λ n. 20 + n - 20 ≡ n) refl refl refl refl refl refl refl r, image_with_lem r)

pub same : (r s : Refusal) → numbers_of r ≡ numbers_of s → r ≡ s
same r s e = sym (refusal_with_lem r) ∙ ap refusal_with e ∙ refusal_with_lem s

-- ---- where the place is meant

pub fault_where : (f : Fault) → says_where (fault_number f) ≡ true
unfolding says_where
fault_where = fault_is (λ n. says_where n ≡ true) refl refl refl refl

pub plain_well : (n : ℕ) → WellPlaced (refusing n)
plain_well n = record { nowhere = λ e. refl }

pub image_well : (r : ImageRefusal) → WellPlaced (numbers_of_image r)
image_well image.Size = plain_well 1
image_well image.Header = plain_well 2
image_well image.Offsets = plain_well 3
image_well (image.Instruction bad) = record { nowhere = λ e. clash (fault_where bad.fault) e }

-- also as the fresh image earns it
pub fresh_image_well : (r : ImageRefusal) → WellPlaced (of_fresh (numbers_of_image r))
unfolding says_where
fresh_image_well r =
    record {
      nowhere = λ e.
          ap of_fresh ((image_well r).nowhere
          (image_is (λ n. says_where (20 + n) ≡ false → says_where n ≡ false) (λ f. refl) (λ f. refl) (λ f. refl) (λ f. f) (λ f. f) (λ f. f) (λ f. f) r e));
    }

pub well : (r : Refusal) → WellPlaced (numbers_of r)
well (refusal.Image r) = image_well r
well refusal.TableSize = plain_well 5
well refusal.AreaSize = plain_well 6
well refusal.Area = plain_well 7
well refusal.Number = plain_well 8
well refusal.State = plain_well 9
well refusal.TooShort = plain_well 10
well refusal.TooMany = plain_well 11
well refusal.NoOrder = plain_well 12
well refusal.NotCarried = plain_well 13
well refusal.Guards = plain_well 14
well refusal.Reason = plain_well 15
well (refusal.Fresh r) = fresh_image_well r

pub told_well : (r : Checks Refusal) → WellPlaced (told r)
told_well (Ok done) = plain_well 0
told_well (Err r) = well r

pub told_image_well : (r : Checks ImageRefusal) → WellPlaced (told_of_image r)
told_image_well (Ok done) = plain_well 0
told_image_well (Err r) = image_well r

-- an image's refusal whose number says where is of an instruction, and the place is that instruction's
pub where_bad : (r : Checks ImageRefusal) → says_where (told_of_image r).number ≡ true
    → (bad : BadInstruction) × (r ≡ Err (image.Instruction bad)) × (told_of_image r ≡ numbers_of_image (image.Instruction bad))
unfolding says_where
where_bad (Ok done) e = clash e refl
where_bad (Err image.Size) e = clash e refl
where_bad (Err image.Header) e = clash e refl
where_bad (Err image.Offsets) e = clash e refl
where_bad (Err (image.Instruction bad)) e = (bad, refl, refl)

-- no refusal is `none`
pub none_is : {r : RefusalNumbers} → WellPlaced r → r.number ≡ 0 → r ≡ none
unfolding says_where
none_is w e = w.nowhere (ap says_where e) ∙ ap refusing e
