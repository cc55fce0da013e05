-- Each way undoes the other: the lines of an image are read as its lines, and an image of a sheet has the sheet's lines. Assumes nothing.
use mathlib.Core.Path.{◌≡◌, sym, ap, ◌∙◌}
use mathlib.Core.List.{List, [], ◌∷◌}
use Prim.Native.Nat.{ℕ, ◌≤◌}
use native.Mathlib.Omega.{arith}
use Rattle.image.specs.Refusals.{passed}
use Rattle.image.specs.Image.{rule_byte, refusal_of}
use Rattle.image.proofs.Laws.{Accepted, accepted, few_programs_lem}
use Rattle.writer.specs.Joined.{image_of}
use Rattle.writer.specs.Picked.{all_of}
use Rattle.writer.proofs.Again.{small_rule, picked_fine, all_count, again}
use Rattle.writer.proofs.Good.{All, image_rule, image_good, image_programs}
use Rattle.sheet.specs.declared.Line.{Line}
use Rattle.sheet.specs.Sheet.{lines_of, rule_of, programs, sheet_text}
use Rattle.sheet.proofs.Sheets.{WellPlaced, Typing, sheet_read, sheet_allowed, sheet_back}
use Rattle.from_sheet.specs.FromSheet.{programs_of, image_of_sheet, sheet_refusal}
use Rattle.from_image.specs.FromImage.{lines_for, sheet_of_image}
use Rattle.round_trip.specs.Bytes.{Bytes}
use Rattle.round_trip.proofs.Checks.{Passed, shows, enough}
use Rattle.round_trip.proofs.Places.{bytes_at, all_typable, lines_placed}
use Rattle.round_trip.proofs.Programs.{Whole, programs_whole, programs_behind, rule_behind, lines_rule, lines_programs, lines_back}

-- a sheet says what its lines say: nothing is said behind the last newline

module _ (ls : List Line) (w : WellPlaced ls) where
  says_rule : rule_of (lines_of (sheet_text ls)) ≡ rule_of ls
  says_rule = ap rule_of (sheet_read ls w) ∙ rule_behind ls

  says_programs : programs_of (sheet_text ls) ≡ programs ls
  says_programs = ap programs (sheet_read ls w) ∙ programs_behind ls

-- ---- from an image to its sheet, and back

all_whole : (ps : List (List ℕ)) → All ps → Whole ps
all_whole [] h = tt
all_whole (p ∷ ps) h = (h.0.whole_instructions, all_whole ps h.1)

module _ (image : List ℕ) (bytes : Bytes image) (e : refusal_of image ≡ passed) where
  good : Accepted image
  good = accepted image e

  fine : All (all_of image)
  fine = picked_fine _ image good _ (omega arith)

  abbrev lines : List Line
  lines = lines_for (rule_byte image) (all_of image)

  placed : WellPlaced lines
  placed = lines_placed (rule_byte image) (all_of image) (small_rule image good) (all_typable image good bytes)

  the_programs : programs_of (sheet_of_image image) ≡ all_of image
  unfolding sheet_of_image
  the_programs = says_programs lines placed ∙ lines_programs (rule_byte image) (all_of image) (all_whole (all_of image) fine)

  pub its_sheet_passes : sheet_refusal (sheet_of_image image) ≡ passed
  unfolding sheet_of_image
  its_sheet_passes = enough (sheet_of_image image) (record {
    lines = sheet_allowed lines placed;
    few = rw the_programs (omega (arith, all_count image, few_programs_lem image good.header));
    fine = rw the_programs fine;
  })

  pub its_sheet_gives_it : image_of_sheet (sheet_of_image image) ≡ image
  unfolding image_of_sheet sheet_of_image
  its_sheet_gives_it =
      (λ i. image_of ((says_rule lines placed ∙ lines_rule (rule_byte image) (all_of image)) i) (the_programs i))
      ∙ sym (again image (bytes_at image bytes) good)

-- ---- from a sheet to its image, and back

module _ (sheet : List ℕ) (e : sheet_refusal sheet ≡ passed) where
  shown : Passed sheet
  shown = shows sheet (programs_whole (lines_of sheet)) e

  typing : Typing sheet
  typing = sheet_back sheet shown.lines

  abbrev rule : ℕ
  rule = rule_of (lines_of sheet)

  -- its lines are those of the rule and the programs that it says
  lines_are : (lines_for rule (programs_of sheet) ≡ typing.lines) × (rule ≤ 2)
  lines_are =
      let ls = typing.lines in
      let r : rule ≡ rule_of ls = ap (λ (s : List ℕ). rule_of (lines_of s)) typing.typed ∙ says_rule ls typing.placed in
      let p : programs_of sheet ≡ programs ls = ap programs_of typing.typed ∙ says_programs ls typing.placed in
      let b = lines_back ls typing.placed in
      ((λ i. lines_for (r i) (p i)) ∙ b.0, rw r b.1)

  pub its_image_passes : refusal_of (image_of_sheet sheet) ≡ passed
  unfolding image_of_sheet
  its_image_passes = image_good rule (programs_of sheet) shown.few shown.fine lines_are.1

  pub its_image_gives_it : sheet_of_image (image_of_sheet sheet) ≡ sheet
  unfolding sheet_of_image image_of_sheet
  its_image_gives_it =
      let r = image_rule rule (programs_of sheet) shown.few shown.fine in
      let p = image_programs rule (programs_of sheet) shown.few shown.fine in
      ap sheet_text ((λ i. lines_for (r i) (p i)) ∙ lines_are.0) ∙ sym typing.typed
