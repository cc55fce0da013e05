-- No sheet is refused for an unknown operation: a line that is read as an instruction has a name, and a name is that of a known one. Assumes nothing.
use mathlib.Core.Path.{◌≡◌, refl, sym, ap, ◌∙◌}
use mathlib.Core.List.{List, [], ◌∷◌, map}
use Prim.Native.Nat.{ℕ, zero, suc, ◌+◌, ◌*◌, ◌<◌}
use native.Mathlib.Omega.{arith}
use lib.Dec.{eqb}
use Rattle.std.specs.Prelude.{Ok, Err}
use lib.ListN.{length, get_or}
use borrow.Author.Tests.{lt-ltb}
use Rattle.image.specs.Limits.{instruction_bytes}
use Rattle.image.specs.declared.refusals.Fault.{Fault}
use Rattle.image.specs.declared.refusals.BadInstruction.{BadInstruction}
use Rattle.image.specs.declared.refusals.ImageRefusal.{ImageRefusal}
use Rattle.image.specs.declared.refusals.ImageRefusal.TheVariants.{Instruction}
use Rattle.image.specs.Refusals.{fault_number, told_of_image, check, given_as, placed}
use Rattle.image.specs.Instruction.{rows, known, kinds_of, register_good, unused_good, skip_good, each, fault_of, byte_of, fault_at, code_fault}
use Rattle.image.proofs.Refusing.{Checks, check_either}
use Rattle.image.proofs.Faults.{found_either}
use Rattle.sheet.specs.declared.Line.{Line}
use Rattle.sheet.specs.declared.Line.TheVariants as line
use Rattle.sheet.specs.Answers.{as_image, told_of_sheet}
use Rattle.sheet.specs.Sheet.{newline, operations, line_of, bad_line, leading, programs}
use Rattle.sheet.specs.Split.{split}
use Rattle.sheet.proofs.Lines.{line_back}
use Rattle.from_sheet.specs.FromSheet.{programs_of, few_programs, short_programs, programs_fault, programs_refusal, sheet_refusal}
use Rattle.from_sheet.specs.Passes.{body_of}

-- ---- every operation that a sheet says is one of the nine

abbrev Named : Line → Type 0
Named (line.Rule r) = Unit {0}
Named line.Program = Unit {0}
Named (line.Instruction i) = i.op < operations
Named line.Other = Unit {0}

line_named : (text : List ℕ) → Named (line_of text)
unfolding body_of
line_named text = go (line_of text) refl
  where
    go : (l : Line) → line_of text ≡ l → Named l
    go (line.Rule r) e = tt
    go line.Program e = tt
    go (line.Instruction i) e =
        let some : line_of text ≡ line.Other → ⊥ = λ z. omega (arith, ap (λ (l : Line). length (body_of l)) (sym e ∙ z)) in
        (rw e at (line_back text some).1).named
    go line.Other e = tt

leading_named : (parts : List (List ℕ)) (i : ℕ) → byte_of (leading (map line_of parts)) i 0 < operations
unfolding leading
leading_named [] i = omega arith
leading_named (text ∷ parts) i = go (line_of text) (line_named text) i (leading_named parts)
  where
    go : (l : Line) → Named l → (i : ℕ) → ((k : ℕ) → byte_of (leading (map line_of parts)) k 0 < operations)
        → byte_of (leading (l ∷ map line_of parts)) i 0 < operations
    go (line.Rule r) n i rest = rest i
    go line.Program n i rest = omega arith
    go (line.Instruction j) n zero rest = n
    go (line.Instruction j) n (suc i) rest =
        let e : instruction_bytes * suc i + 0 ≡ suc (suc (suc (suc (instruction_bytes * i + 0)))) = omega arith in
        rw e (rest i)
    go line.Other n i rest = rest i

programs_named : (parts : List (List ℕ)) (p i : ℕ) → byte_of (get_or (programs (map line_of parts)) p []) i 0 < operations
unfolding programs
programs_named [] p i = omega arith
programs_named (text ∷ parts) p i = go (line_of text) p (λ q. programs_named parts q i)
  where
    go : (l : Line) (p : ℕ) → ((q : ℕ) → byte_of (get_or (programs (map line_of parts)) q []) i 0 < operations)
        → byte_of (get_or (programs (l ∷ map line_of parts)) p []) i 0 < operations
    go (line.Rule r) p rest = rest p
    go line.Program zero rest = leading_named parts i
    go line.Program (suc p) rest = rest p
    go (line.Instruction j) p rest = rest p
    go line.Other p rest = rest p

-- ---- so none is unknown

abbrev Not41 : ℕ → Type 0
Not41 n = n ≡ 41 → ⊥

-- of the checks of an instruction, and of a program's
abbrev Known : Checks Fault → Type 0
Known (Ok done) = Unit {0}
Known (Err f) = Not41 (fault_number f)

abbrev AllKnown : Checks BadInstruction → Type 0
AllKnown r = Not41 (told_of_image (given_as Instruction r)).number

known_fault : (op a b c i m : ℕ) → op < operations → Known (fault_of op a b c i m)
unfolding fault_of known rows check
known_fault op a b c i m h =
    rw (lt-ltb op operations h)
    (check_either Known (each register_good (kinds_of op) a b c) (λ e. omega arith)
    (check_either Known (each unused_good (kinds_of op) a b c) (λ e. omega arith)
    (check_either Known (each (skip_good i m) (kinds_of op) a b c) (λ e. omega arith) tt)))

placed_known : (p i : ℕ) (r : Checks Fault) → Known r → AllKnown (placed p i r)
unfolding placed given_as
placed_known p i (Ok done) h = λ e. omega arith
placed_known p i (Err f) h = h

known_code : (part : ℕ → List ℕ) (n : ℕ) → ((p i : ℕ) → byte_of (part p) i 0 < operations) → AllKnown (code_fault n part)
unfolding fault_at given_as
known_code part n h = found_either part AllKnown (λ e. omega arith) (λ p i. placed_known p i _ (known_fault _ _ _ _ i _ (h p i))) n

-- what is told of a sheet's programs is what is told of their image
told_programs : (r : Checks ImageRefusal) → told_of_sheet (given_as as_image r) ≡ told_of_image r
unfolding given_as
told_programs (Ok done) = refl
told_programs (Err r) = refl

pub never_41 : (sheet : List ℕ) → (told_of_sheet (sheet_refusal sheet)).number ≡ 41 → ⊥
unfolding sheet_refusal programs_refusal programs_fault
never_41 sheet =
    let ps = programs_of sheet in
    check_either (λ r. Not41 (told_of_sheet r).number) (eqb (bad_line sheet) 0) (λ e. omega arith)
    (rw told_programs
    (check_either (λ r. Not41 (told_of_image r).number) (few_programs ps) (λ e. omega arith)
    (check_either (λ r. Not41 (told_of_image r).number) (short_programs ps) (λ e. omega arith)
    (known_code (λ p. get_or ps p []) (length ps) (programs_named (split newline sheet))))))
