-- Document 01, "What each refusal says", tried by computation on the calls for C: each number stands under its own name, and the memory is what the
-- call leaves. Assumes nothing.
use Prim.Native.Nat.{ℕ}
use mathlib.Core.Path.{◌≡◌, refl}
use mathlib.Core.List.{List, [], ◌∷◌, ◌++◌}
use lib.ListN.{replicate}
use Rattle.std.specs.Prelude.{Ok, Err}
use Rattle.image.specs.declared.refusals.Refusal.TheVariants.{TooShort}
use Rattle.image.specs.Refusals.{refusing_at, refusing, numbers_of_count}
use Rattle.image.specs.Assembler.{end, set, reject, program, image}
use Rattle.image.specs.Opened as images
use Rattle.area.specs.Sketch.{slot, area}
use Rattle.steps.specs.Opened as steps
use Rattle.causes.specs.Opened as causes
use Rattle.listing.specs.Opened as listing
use Rattle.carry.specs.Opened as carry
use Rattle.numbers.specs.Numbers.{CountTells}
use Rattle.text.specs.Ascii.{ascii}
use Rattle.from_sheet.specs.Opened as from_sheet
use Rattle.from_image.specs.Opened as from_image
use Rattle.sheetbendle_c.specs.Calls.{PartTells, ProgramRefusalTells, OpenTells, GatherTells, SettleTells, WhyTells, OrderTells, NextTells}
use Rattle.sheetbendle_c.specs.Calls.{line_shown, ImageOfTells, SheetOfTells}

-- of two programs, number 1 begins at byte 14 and has 8 bytes; there is no number 2
abbrev two : List ℕ
two = image 2 (program (reject 7 ∷ []) ∷ program (end ∷ end ∷ []) ∷ [])

-- the same, but instruction 1 of program 1 names register 8
abbrev bad : List ℕ
bad = image 2 (program (reject 7 ∷ []) ∷ program (end ∷ set 8 0 ∷ []) ∷ [])

program_tells : PartTells two 1 (record { start = 14; length = 8 }) × PartTells two 2 (record { start = 0; length = 0 })
unfolding images.opened
program_tells = (record { start = refl; extent = refl }, record { start = refl; extent = refl })

program_refusal_tells : ProgramRefusalTells two 1 (refusing 0) × ProgramRefusalTells two 2 (refusing 8)
    × ProgramRefusalTells bad 2 (refusing_at 42 1 1)
unfolding images.opened
program_refusal_tells = (record { refusal = refl }, record { refusal = refl }, record { refusal = refl })

-- "the order its count, the next image its length. A refusal returns its number, 0 for every other result"
count_tells : CountTells (numbers_of_count (Ok 28)) (record { refusal = refusing 0; count = 28 })
    × CountTells (numbers_of_count (Err TooShort)) (record { refusal = refusing 10; count = 0 })
count_tells = (record { refusal = refl; count = refl }, record { refusal = refl; count = refl })

open_tells : OpenTells (image 0 []) (5 ∷ []) (1 ∷ 0 ∷ []) (7 ∷ 7 ∷ []) (refusing 0) (0 ∷ 0 ∷ [])
    × OpenTells (image 0 []) [] [] (7 ∷ 7 ∷ []) (refusing 5) (7 ∷ 7 ∷ [])
    × OpenTells bad [] [] (7 ∷ 7 ∷ []) (refusing_at 42 1 1) (7 ∷ 7 ∷ [])
unfolding steps.opened
open_tells = (record { refusal = refl; area = refl }, record { refusal = refl; area = refl }, record { refusal = refl; area = refl })

-- one program on one cell: it rejects with 7; it has stored 60 and is committed, and listed; it is carried
gather_tells : GatherTells (image 1 (program (reject 7 ∷ []) ∷ [])) (5 ∷ []) (1 ∷ 0 ∷ []) (replicate 102 0) 0
    (record { refusal = refusing 0; state = 2; detail = 7 }) (area (0 ∷ []) (0 ∷ []) (slot 2 7 [] [] [] ∷ []))
unfolding steps.opened
gather_tells = record { numbers = record { refusal = refl; state = refl; detail = refl }; area = refl }

abbrev storing : ℕ → List ℕ
storing state = area (1 ∷ []) (0 ∷ []) (slot state 0 [] (0 ∷ []) (60 ∷ []) ∷ [])

settle_tells : SettleTells (image 1 ([] ∷ [])) (5 ∷ []) (1 ∷ 0 ∷ []) (storing 1) 0
    (record { refusal = refusing 0; state = 4; detail = 0 }) (60 ∷ []) (storing 4)
unfolding steps.opened
settle_tells = record { numbers = record { refusal = refl; state = refl; detail = refl }; table = refl; area = refl }

-- two programs on one cell, which program 0 stores and program 1 reads; number 0 is not carried
abbrev waited : List ℕ
waited = area (1 ∷ []) (2 ∷ []) (slot 4 0 [] (0 ∷ []) (60 ∷ []) ∷ slot 5 2 (0 ∷ []) [] [] ∷ [])

why_tells : WhyTells (image 1 ([] ∷ [] ∷ [])) (5 ∷ []) (1 ∷ 0 ∷ []) waited 1
    (record { refusal = refusing 0; reason = 2; cell = 0; program = 0; war_cell = 0; war_program = 0 })
    × WhyTells (image 1 ([] ∷ [] ∷ [])) (5 ∷ []) (1 ∷ 0 ∷ []) waited 0
    (record { refusal = refusing 13; reason = 0; cell = 0; program = 0; war_cell = 0; war_program = 0 })
unfolding causes.opened
why_tells = (
  record { numbers = record { refusal = refl; reason = refl; cell = refl; program = refl; war_cell = refl; war_program = refl } },
  record { numbers = record { refusal = refl; reason = refl; cell = refl; program = refl; war_cell = refl; war_program = refl } },
)

order_tells : OrderTells (image 1 ([] ∷ [])) (5 ∷ []) (1 ∷ 0 ∷ []) (storing 4) (9 ∷ 9 ∷ []) (record { refusal = refusing 0; count = 1 }) (0 ∷ 9 ∷ [])
unfolding listing.opened
order_tells = record { numbers = record { refusal = refl; count = refl }; entries = refl }

next_tells : NextTells (image 1 ([] ∷ [])) (5 ∷ []) (1 ∷ 0 ∷ []) (storing 5) (image 2 []) (replicate 9 9)
    (record { refusal = refusing 0; count = 8 }) (image 2 ([] ∷ []) ++ (9 ∷ []))
unfolding carry.opened
next_tells = record { numbers = record { refusal = refl; count = refl }; bytes = refl }

-- document 02, ask 1: the length, or the refusal and of 51 the line; a line beyond 32 bits is shown as the last that they have
lines_shown : line_shown 4294967295 ∷ line_shown 4294967296 ∷ line_shown 8589934592 ∷ [] ≡ 4294967295 ∷ 4294967295 ∷ 4294967295 ∷ []
lines_shown = refl

image_of_tells : ImageOfTells (ascii "rule 2\n") (replicate 7 9)
    (record { refusal = refusing 0; length = 6; line = 0 }) (0 ∷ 0 ∷ 2 ∷ 0 ∷ 6 ∷ 0 ∷ 9 ∷ [])
    × ImageOfTells (ascii "rule 2\nprogram\nend\n") (9 ∷ []) (record { refusal = refusing 51; length = 0; line = 3 }) (9 ∷ [])
    × ImageOfTells (ascii "rule 2\n") (9 ∷ []) (record { refusal = refusing 10; length = 0; line = 0 }) (9 ∷ [])
unfolding from_sheet.opened
image_of_tells = (
  record { numbers = record { refusal = refl; extent = refl; line = refl }; bytes = refl },
  record { numbers = record { refusal = refl; extent = refl; line = refl }; bytes = refl },
  record { numbers = record { refusal = refl; extent = refl; line = refl }; bytes = refl },
)

sheet_of_tells : SheetOfTells (image 2 []) (replicate 8 9) (record { refusal = refusing 0; length = 7; line = 0 }) (ascii "rule 2\n" ++ (9 ∷ []))
    × SheetOfTells [] (9 ∷ []) (record { refusal = refusing 1; length = 0; line = 0 }) (9 ∷ [])
unfolding from_image.opened
sheet_of_tells = (
  record { numbers = record { refusal = refl; extent = refl; line = refl }; bytes = refl },
  record { numbers = record { refusal = refl; extent = refl; line = refl }; bytes = refl },
)
