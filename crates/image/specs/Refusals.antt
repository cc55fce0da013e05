-- Document 01, "What each refusal says": the numbers of the refusals, here and nowhere else; the checks of a call one after another; and what a refused call
-- does. When each refusal is given is said where its check is defined. Assumes nothing.
use Rattle.std.specs.Prelude.{ℕ, zero, suc, ◌+◌, ◌≡◌, Bool, false, cond, ◌&&◌, ◌||◌, leb, Result, Ok, Err, is_ok}
use Rattle.image.specs.declared.refusals.Fault.{Fault}
use Rattle.image.specs.declared.refusals.Fault.TheVariants as fault
use Rattle.image.specs.declared.refusals.BadInstruction.{BadInstruction}
use Rattle.image.specs.declared.refusals.ImageRefusal.{ImageRefusal}
use Rattle.image.specs.declared.refusals.ImageRefusal.TheVariants as image
use Rattle.image.specs.declared.refusals.Refusal.{Refusal}
use Rattle.image.specs.declared.refusals.Refusal.TheVariants as refusal
use Rattle.image.specs.declared.refusals.RefusalNumbers.{RefusalNumbers}

-- ---- the numbers

-- a number with a place, and one that has no place, which is 0 and 0; "0 done" is none
abbrev pub refusing_at : (number program instruction : ℕ) → RefusalNumbers
refusing_at n p i = record { number = n; program = p; instruction = i }

abbrev pub refusing : ℕ → RefusalNumbers
refusing n = refusing_at n 0 0

abbrev pub none : RefusalNumbers
none = refusing 0

-- document 02, ask 2: "4 is replaced by 41 unknown operation, 42 register over 7, 43 an unused byte not 0, 44 skip past the end"
abbrev pub fault_number : Fault → ℕ
fault_number fault.Operation = 41
fault_number fault.Register = 42
fault_number fault.Unused = 43
fault_number fault.Skip = 44

-- 1 to 3, and 41 to 44 with "program and instruction too"
abbrev pub numbers_of_image : ImageRefusal → RefusalNumbers
numbers_of_image image.Size = refusing 1
numbers_of_image image.Header = refusing 2
numbers_of_image image.Offsets = refusing 3
numbers_of_image (image.Instruction bad) = refusing_at (fault_number bad.fault) bad.program bad.instruction

-- "21–24: as 1–4, for the fresh image", "24 by 61 to 64"; the place is that in the fresh image
abbrev pub of_fresh : RefusalNumbers → RefusalNumbers
of_fresh r = refusing_at (20 + r.number) r.program r.instruction

-- 5 to 12; 13 and 15 by document 02, ask 3; 14 by its ask 5
abbrev pub numbers_of : Refusal → RefusalNumbers
numbers_of (refusal.Image r) = numbers_of_image r
numbers_of refusal.TableSize = refusing 5
numbers_of refusal.AreaSize = refusing 6
numbers_of refusal.Area = refusing 7
numbers_of refusal.Number = refusing 8
numbers_of refusal.State = refusing 9
numbers_of refusal.TooShort = refusing 10
numbers_of refusal.TooMany = refusing 11
numbers_of refusal.NoOrder = refusing 12
numbers_of refusal.NotCarried = refusing 13
numbers_of refusal.Guards = refusing 14
numbers_of refusal.Reason = refusing 15
numbers_of (refusal.Fresh r) = of_fresh (numbers_of_image r)

-- document 02, ask 1: a line of a sheet that its place does not allow
abbrev pub line : RefusalNumbers
line = refusing 51

-- ---- checks, one after another

-- nothing is refused
abbrev pub passed : {E : Type 0} → Result (Unit {0}) E
passed = Ok tt

-- "A refusal returns its number, 0 for every other result": of checks, and of those of an image alone
abbrev pub told : Result (Unit {0}) Refusal → RefusalNumbers
told (Ok done) = none
told (Err r) = numbers_of r

abbrev pub told_of_image : Result (Unit {0}) ImageRefusal → RefusalNumbers
told_of_image (Ok done) = none
told_of_image (Err r) = numbers_of_image r

-- A check that holds, or the refusal that it gives; then the rest.
unfoldable pub check : {E : Type 0} → (holds : Bool) → (gives : E) → (rest : Result (Unit {0}) E) → Result (Unit {0}) E
check holds gives rest = cond holds rest (Err gives)

-- whether nothing is refused
abbrev pub passes : {E : Type 0} → Result (Unit {0}) E → Bool
passes r = is_ok r

-- all the checks of another call, and then the rest
unfoldable pub after : {E : Type 0} → (checks rest : Result (Unit {0}) E) → Result (Unit {0}) E
after (Ok done) rest = rest
after (Err r) rest = Err r

-- the first of the refusals numbered below n, none where all of them pass
unfoldable pub first_of : {E : Type 0} → ℕ → (ℕ → Result (Unit {0}) E) → Result (Unit {0}) E
first_of zero refusal = passed
first_of (suc n) refusal = after (first_of n refusal) (refusal n)

-- the same refusal, as one of another kind: of the image that a call is lent, of the fresh one, of a program's instruction
unfoldable pub given_as : {E F : Type 0} → (E → F) → Result (Unit {0}) E → Result (Unit {0}) F
given_as kind (Ok done) = passed
given_as kind (Err r) = Err (kind r)

-- "return program and instruction too": a fault with its place
unfoldable pub placed : (program instruction : ℕ) → Result (Unit {0}) Fault → Result (Unit {0}) BadInstruction
placed p i = given_as (λ f. record { fault = f; program = p; instruction = i })

-- ---- its place

-- which numbers say it: 41 to 44, and 61 to 64
unfoldable pub says_where : ℕ → Bool
says_where n = leb 41 n && leb n 44 || leb 61 n && leb n 64

-- The place is 0 and 0 where it means nothing.
pub record WellPlaced (r : RefusalNumbers) : Type 0 where
  pub nowhere : says_where r.number ≡ false → r ≡ refusing r.number

-- ---- what a call does

-- what is done, unless there is a refusal
unfoldable pub unless : {E A : Type 0} → Result (Unit {0}) E → (E → A) → A → A
unless (Ok done) refused otherwise = otherwise
unless (Err r) refused otherwise = refused r

-- What a call that counts returns: "the order its count, the next image its length. A refusal returns its number, 0 for every other result".
pub record Counted : Type 0 where
  pub refusal : RefusalNumbers
  pub count : ℕ

abbrev pub numbers_of_count : Result ℕ Refusal → Counted
numbers_of_count (Ok k) = record { refusal = none; count = k }
numbers_of_count (Err r) = record { refusal = numbers_of r; count = 0 }
