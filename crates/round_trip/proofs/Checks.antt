-- What the checks of a sheet show, and what is enough for them. Assumes nothing.
use mathlib.Core.Path.{◌≡◌, refl, sym, ◌∙◌}
use mathlib.Core.Bool.{true}
use mathlib.Core.List.{List, [], ◌∷◌}
use Prim.Native.Nat.{ℕ, ◌≤◌}
use lib.Dec.{leb}
use lib.ListN.{length}
use borrow.Author.Tests.{leb-true, le-leb, eq-eqb}
use Rattle.base.proofs.Bools.{and_both, both_and}
use Rattle.image.specs.Limits.{max_programs, max_program_bytes}
use Rattle.image.specs.declared.refusals.ImageRefusal.TheVariants.{Header, Offsets, Instruction}
use Rattle.image.specs.Refusals.{passed}
use Rattle.image.specs.Instruction.{program_good}
use Rattle.image.proofs.Refusing.{goes_on, none_fails, passed_is, is_passed, given_passed, passed_given}
use Rattle.writer.proofs.Good.{All}
use Rattle.sheet.specs.declared.Unwritten.TheVariants.{BadLine}
use Rattle.sheet.specs.Answers.{as_image}
use Rattle.sheet.specs.Sheet.{bad_line}
use Rattle.from_sheet.specs.FromSheet.{programs_of, all, few_programs, short_programs, programs_fault, programs_refusal, sheet_refusal}
use Rattle.from_sheet.proofs.Faults.{programs_pass}
use Rattle.from_sheet.proofs.Says.{sheet_shown}
use Rattle.round_trip.proofs.Programs.{Whole}

-- ---- the programs of a sheet

all_short : (ps : List (List ℕ)) → All ps → short_programs ps ≡ true
unfolding short_programs all
all_short [] h = refl
all_short (p ∷ ps) h = both_and (le-leb (length p) max_program_bytes h.0.short) (all_short ps h.1)

all_good : (ps : List (List ℕ)) → All ps → all program_good ps ≡ true
unfolding all
all_good [] h = refl
all_good (p ∷ ps) h = both_and h.0.code (all_good ps h.1)

all_fine : (ps : List (List ℕ)) → Whole ps → short_programs ps ≡ true → all program_good ps ≡ true → All ps
unfolding short_programs all
all_fine [] w s g = tt
all_fine (p ∷ ps) w s g =
    let x = and_both (leb (length p) max_program_bytes) (short_programs ps) s in
    let y = and_both (program_good p) (all program_good ps) g in
    (record { whole_instructions = w.0; short = leb-true _ _ x.0; code = y.0 }, all_fine ps w.1 x.1 y.1)

-- a sheet that is not refused: no line is, and its programs are few and good
pub record Passed (sheet : List ℕ) : Type 0 where
  pub lines : bad_line sheet ≡ 0
  pub few : length (programs_of sheet) ≤ max_programs
  pub fine : All (programs_of sheet)

pub shows : (sheet : List ℕ) → Whole (programs_of sheet) → sheet_refusal sheet ≡ passed → Passed sheet
unfolding programs_refusal few_programs
shows sheet w e =
    let ps = programs_of sheet in
    let l = sheet_shown sheet e in
    let f = none_fails (few_programs ps) Header _ l.1 in
    let s = none_fails (short_programs ps) Offsets _ f.1 in
    let g = sym (programs_pass ps) ∙ is_passed (passed_given Instruction (programs_fault ps) s.1) in
    record { lines = l.0; few = leb-true _ _ f.0; fine = all_fine ps w s.0 g }

pub enough : (sheet : List ℕ) → Passed sheet → sheet_refusal sheet ≡ passed
unfolding sheet_refusal programs_refusal few_programs
enough sheet p =
    let ps = programs_of sheet in
    let good = passed_is (programs_fault ps) (programs_pass ps ∙ all_good ps p.fine) in
    let programs_good : programs_refusal ps ≡ passed =
    sym (goes_on Header (le-leb (length ps) max_programs p.few) (goes_on Offsets (all_short ps p.fine) (sym (given_passed Instruction good)))) in
    sym (goes_on (BadLine (bad_line sheet)) (eq-eqb (bad_line sheet) 0 p.lines) (sym (given_passed as_image programs_good)))
