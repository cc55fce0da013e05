-- Document 01, "Instructions": what the bytes of an instruction have to be, where it stands; and document 02, ask 2, "Which instruction is bad?". What a
-- good one does is the machine's. Assumes nothing.
use Rattle.std.specs.Prelude.{ℕ, ◌+◌, ◌*◌, ◌/◌, Bool, true, cond, ◌&&◌, List, [], ◌∷◌, length, get_or, ltb, leb, eqb, Result, Ok, Err}
use Rattle.base.specs.Words.{every}
use Rattle.image.specs.declared.refusals.Fault.{Fault}
use Rattle.image.specs.declared.refusals.Fault.TheVariants as fault
use Rattle.image.specs.declared.refusals.BadInstruction.{BadInstruction}
use Rattle.image.specs.declared.instruction.Instruction.{Instruction}
use Rattle.image.specs.Limits.{registers, instruction_bytes}
use Rattle.image.specs.Refusals.{passed, check, passes, placed, first_of}

-- ---- the table: of what kind each of the three bytes is

-- it names a register, it is 0, it is a skip's length, or it is any byte
pub data Kind : Type 0 where
  register : Kind
  unused : Kind
  skip : Kind
  free : Kind

pub record Kinds : Type 0 where
  pub a : Kind
  pub b : Kind
  pub c : Kind

abbrev pub kinds : Kind → Kind → Kind → Kinds
kinds a b c = record { a = a; b = b; c = c }

-- The table's rows: 0 end, 1 set, 2 load, 3 store, 4 add, 5 sub, 6 skipless, 7 skipequal, 8 reject.
unfoldable pub rows : List Kinds
rows =
    kinds unused unused unused
    ∷ kinds register free free
    ∷ kinds register register unused
    ∷ kinds register register unused
    ∷ kinds register register register
    ∷ kinds register register register
    ∷ kinds register register skip
    ∷ kinds register register skip
    ∷ kinds free unused unused
    ∷ []

-- "Operations 9 to 255 are bad": they have no row
unfoldable pub known : ℕ → Bool
known op = ltb op (length rows)

unfoldable pub kinds_of : ℕ → Kinds
kinds_of op = get_or rows op (kinds free free free)

-- ---- what each kind asks of a byte

-- "Every byte that names a register is 0 to 7."
unfoldable pub register_good : Kind → ℕ → Bool
register_good register byte = ltb byte registers
register_good unused byte = true
register_good skip byte = true
register_good free byte = true

-- "c is 0"
unfoldable pub unused_good : Kind → ℕ → Bool
unused_good register byte = true
unused_good unused byte = eqb byte 0
unused_good skip byte = true
unused_good free byte = true

-- "A skip at instruction i of m needs i+1+c ≤ m, taken or not."
unfoldable pub skip_good : (i m : ℕ) → Kind → ℕ → Bool
skip_good i m register byte = true
skip_good i m unused byte = true
skip_good i m skip byte = leb (i + 1 + byte) m
skip_good i m free byte = true

-- ---- what is wrong with an instruction

-- each of the three bytes, by its kind, passes a test
abbrev pub each : (Kind → ℕ → Bool) → Kinds → (a b c : ℕ) → Bool
each test k a b c = test k.a a && test k.b b && test k.c c

-- The fault of the instruction op a b c at place i of m: "41 unknown operation, 42 register over 7, 43 an unused byte not 0, 44 skip past the end", the
-- first in this list.
unfoldable pub fault_of : (op a b c i m : ℕ) → Result (Unit {0}) Fault
fault_of op a b c i m =
    check (known op) fault.Operation
    (check (each register_good (kinds_of op) a b c) fault.Register
    (check (each unused_good (kinds_of op) a b c) fault.Unused
    (check (each (skip_good i m) (kinds_of op) a b c) fault.Skip
    passed)))

-- "Four bytes: operation, a, b, c." Byte j of instruction i of a program, 0 past the end.
abbrev pub byte_of : List ℕ → ℕ → ℕ → ℕ
byte_of program i j = get_or program (instruction_bytes * i + j) 0

abbrev pub instruction_of : List ℕ → ℕ → Instruction
instruction_of program i =
    record { op = byte_of program i 0; a = byte_of program i 1; b = byte_of program i 2; c = byte_of program i 3 }

abbrev pub instructions_of : List ℕ → ℕ
instructions_of program = length program / instruction_bytes

-- of instruction i of a program
unfoldable pub fault_at : List ℕ → ℕ → Result (Unit {0}) Fault
fault_at program i = fault_of (byte_of program i 0) (byte_of program i 1) (byte_of program i 2) (byte_of program i 3) i (instructions_of program)

-- for those who are to mend it, the byte that is wrong: an unknown operation, or the first of the three that does not pass; of a good instruction the last
abbrev pub first_bad : (Kind → ℕ → Bool) → Kinds → (a b c : ℕ) → ℕ
first_bad test k a b c = cond (test k.a a) (cond (test k.b b) c b) a

unfoldable pub wrong_of : Result (Unit {0}) Fault → (op a b c i m : ℕ) → ℕ
wrong_of (Err fault.Operation) op a b c i m = op
wrong_of (Err fault.Register) op a b c i m = first_bad register_good (kinds_of op) a b c
wrong_of (Err fault.Unused) op a b c i m = first_bad unused_good (kinds_of op) a b c
wrong_of (Err fault.Skip) op a b c i m = first_bad (skip_good i m) (kinds_of op) a b c
wrong_of (Ok done) op a b c i m = c

unfoldable pub wrong_byte : List ℕ → ℕ → ℕ
wrong_byte program i =
    wrong_of (fault_at program i) (byte_of program i 0) (byte_of program i 1) (byte_of program i 2) (byte_of program i 3) i (instructions_of program)

-- ---- "the first in image order"

-- the first bad instruction of program p, with its fault and its place
unfoldable pub program_fault : (p : ℕ) → List ℕ → Result (Unit {0}) BadInstruction
program_fault p program = first_of (instructions_of program) (λ i. placed p i (fault_at program i))

-- the first bad instruction of n programs, of which this is the part of each
unfoldable pub code_fault : (n : ℕ) → (ℕ → List ℕ) → Result (Unit {0}) BadInstruction
code_fault n part = first_of n (λ p. program_fault p (part p))

-- ---- what is good

-- instruction i of a program has no fault
unfoldable pub place_good : List ℕ → ℕ → Bool
place_good program i = passes (fault_at program i)

-- every instruction of a program is good, reachable or not
unfoldable pub program_good : List ℕ → Bool
program_good program = every (instructions_of program) (λ i. place_good program i)
