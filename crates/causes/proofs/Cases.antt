-- Document 02, ask 3, tried by computation on the definitions, sentence by sentence: the reason with its cause, and before whom a program comes. The
-- numbers are literals, and each comparison has a case on both its sides. Assumes nothing.
use Prim.Native.Nat.{ℕ}
use mathlib.Core.Path.{◌≡◌, refl}
use mathlib.Core.List.{List, [], ◌∷◌, map}
use Rattle.std.specs.Prelude.{Option, Some, None, Result, Ok, Err}
use Rattle.image.specs.declared.refusals.Refusal.{Refusal}
use Rattle.image.specs.declared.refusals.Refusal.TheVariants.{NotCarried}
use Rattle.image.specs.Refusals.{refusing}
use Rattle.image.specs.Assembler.{image}
use Rattle.guard.specs.Guards.{full_for}
use Rattle.area.specs.Sketch.{slot, area}
use Rattle.causes.specs.declared.answers.Cause.{Cause}
use Rattle.causes.specs.declared.answers.Why.{Why}
use Rattle.causes.specs.declared.answers.Why.TheVariants.{Waw, Raw, RawWithWar}
use Rattle.causes.specs.Why.{why_answer, before_answer, numbers_of_why, WhySays, BeforeSays}
use Rattle.causes.specs.Opened.{opened}

-- ---- how a case is written

abbrev at : (cell program : ℕ) → Cause
at cell program = record { cell = cell; program = program }

-- three programs under a rule byte; their instructions do not matter any more
abbrev three : ℕ → List ℕ
three rule = image rule ([] ∷ [] ∷ [] ∷ [])

-- Five cells. Program 2 reads cells 4, 1 and 3 and stores cells 3, 0 and 2, in this order; its state and detail are these, and so are the marks.
abbrev standing : (state detail : ℕ) → (writes reads : List ℕ) → List ℕ
standing state detail writes reads =
    area writes reads (
    slot 4 0 [] [] []
    ∷ slot 4 0 [] [] []
    ∷ slot state detail (4 ∷ 1 ∷ 3 ∷ []) (3 ∷ 0 ∷ 2 ∷ []) (60 ∷ 61 ∷ 62 ∷ [])
    ∷ []
    )

abbrev table : List ℕ
table = 8 ∷ 8 ∷ 8 ∷ 8 ∷ 8 ∷ []

-- why it was carried for a reason, under a rule byte
abbrev why : (rule detail : ℕ) → (writes reads : List ℕ) → Result Why Refusal
why rule detail writes reads = why_answer (three rule) table (full_for table) (standing 5 detail writes reads) 2

abbrev none : List ℕ
none = 0 ∷ 0 ∷ 0 ∷ 0 ∷ 0 ∷ []

-- ---- "the lowest cell that shows the dependency"

-- Reason 1, "the lowest stored cell whose write mark names an earlier program": by its number (0, 2, 3), not by its place in the slot (3, 0, 2)
waw_lowest : why 1 1 (1 ∷ 0 ∷ 1 ∷ 1 ∷ 0 ∷ []) none ∷ why 1 1 (0 ∷ 0 ∷ 1 ∷ 1 ∷ 0 ∷ []) none ∷ why 1 1 (0 ∷ 0 ∷ 0 ∷ 1 ∷ 0 ∷ []) none ∷ []
    ≡ Ok (Waw (at 0 0)) ∷ Ok (Waw (at 2 0)) ∷ Ok (Waw (at 3 0)) ∷ []
unfolding opened
waw_lowest = refl

-- Reason 2, "the lowest read cell whose write mark does": 1, 3, 4 in the order 4, 1, 3; the stored cell 3 would be WAW
raw_lowest : why 1 2 (0 ∷ 1 ∷ 0 ∷ 0 ∷ 1 ∷ []) none ∷ why 1 2 (0 ∷ 0 ∷ 0 ∷ 0 ∷ 1 ∷ []) none ∷ why 1 1 (0 ∷ 1 ∷ 0 ∷ 1 ∷ 1 ∷ []) none ∷ []
    ≡ Ok (Raw (at 1 0)) ∷ Ok (Raw (at 4 0)) ∷ Ok (Waw (at 3 0)) ∷ []
unfolding opened
raw_lowest = refl

-- a mark of a cell that the program does not store, or does not read, shows nothing; nor does a mark of the other kind
only_its_own_cells : why 1 1 (0 ∷ 1 ∷ 1 ∷ 0 ∷ 1 ∷ []) none ∷ why 1 2 (0 ∷ 0 ∷ 0 ∷ 0 ∷ 1 ∷ []) (1 ∷ 1 ∷ 1 ∷ 1 ∷ 1 ∷ []) ∷ []
    ≡ Ok (Waw (at 2 0)) ∷ Ok (Raw (at 4 0)) ∷ []
unfolding opened
only_its_own_cells = refl

-- "for reason 3 one such pair for RAW and one for WAR": WAR is "the lowest stored cell whose read mark does"
war_lowest : why 2 3 (0 ∷ 0 ∷ 0 ∷ 0 ∷ 1 ∷ []) (0 ∷ 0 ∷ 2 ∷ 1 ∷ 0 ∷ []) ∷ why 2 3 (0 ∷ 2 ∷ 0 ∷ 0 ∷ 1 ∷ []) (1 ∷ 1 ∷ 1 ∷ 1 ∷ 1 ∷ []) ∷ []
    ≡ Ok (RawWithWar (at 4 0) (at 2 1)) ∷ Ok (RawWithWar (at 1 1) (at 0 0)) ∷ []
unfolding opened
war_lowest = refl

-- ---- "and the smallest earlier program its marks name"

-- that cell's mark, whatever others name: program 1 on cell 0, though cell 2's mark names program 0
that_cells_mark : why 1 1 (2 ∷ 0 ∷ 1 ∷ 0 ∷ 0 ∷ []) none ∷ why 1 1 (1 ∷ 0 ∷ 2 ∷ 0 ∷ 0 ∷ []) none ∷ why 1 2 (0 ∷ 2 ∷ 0 ∷ 0 ∷ 1 ∷ []) none ∷ []
    ≡ Ok (Waw (at 0 1)) ∷ Ok (Waw (at 0 0)) ∷ Ok (Raw (at 1 1)) ∷ []
unfolding opened
that_cells_mark = refl

-- "earlier" is a smaller number: neither the program's own mark nor mark 0 is a cause
own_mark :
    why 1 1 (3 ∷ 0 ∷ 2 ∷ 0 ∷ 0 ∷ []) none ∷ why 1 1 (0 ∷ 0 ∷ 2 ∷ 0 ∷ 0 ∷ []) none ∷ why 2 3 (0 ∷ 3 ∷ 0 ∷ 0 ∷ 2 ∷ []) (3 ∷ 0 ∷ 1 ∷ 0 ∷ 0 ∷ []) ∷ []
    ≡ Ok (Waw (at 2 1)) ∷ Ok (Waw (at 2 1)) ∷ Ok (RawWithWar (at 4 1) (at 2 0)) ∷ []
unfolding opened
own_mark = refl

-- ---- the numbers of an answer: "reasons 1 and 2 leave the war pair 0"

numbers : map numbers_of_why (Err NotCarried ∷ Ok (Waw (at 7 3)) ∷ Ok (Raw (at 8 4)) ∷ Ok (RawWithWar (at 9 5) (at 6 2)) ∷ [])
    ≡ record { refusal = refusing 13; reason = 0; cell = 0; program = 0; war_cell = 0; war_program = 0 }
    ∷ record { refusal = refusing 0; reason = 1; cell = 7; program = 3; war_cell = 0; war_program = 0 }
    ∷ record { refusal = refusing 0; reason = 2; cell = 8; program = 4; war_cell = 0; war_program = 0 }
    ∷ record { refusal = refusing 0; reason = 3; cell = 9; program = 5; war_cell = 6; war_program = 2 }
    ∷ []
numbers = refl

-- ---- before whom a program comes: RAW with its cause, of a program in whatever end

abbrev before_whom : (state : ℕ) → (writes reads : List ℕ) → Result (Option Cause) Refusal
before_whom state writes reads = before_answer (three 2) table (full_for table) (standing state 0 writes reads) 2

raw_or_nobody :
    before_whom 4 (0 ∷ 2 ∷ 0 ∷ 0 ∷ 1 ∷ []) none ∷ before_whom 4 (0 ∷ 3 ∷ 0 ∷ 0 ∷ 0 ∷ []) none ∷ before_whom 5 (1 ∷ 0 ∷ 0 ∷ 0 ∷ 1 ∷ []) none ∷ []
    ≡ Ok (Some (at 1 1)) ∷ Ok None ∷ Ok (Some (at 4 0)) ∷ []
unfolding opened
raw_or_nobody = refl

-- ---- the calls' own words

why_says : WhySays (three 1) table (full_for table) (standing 5 1 (1 ∷ 0 ∷ 0 ∷ 0 ∷ 0 ∷ []) none) 2 (Ok (Waw (at 0 0)))
unfolding opened
why_says = record { answer = refl }

before_says : BeforeSays (three 2) table (full_for table) (standing 4 0 (0 ∷ 0 ∷ 0 ∷ 0 ∷ 2 ∷ []) none) 2 (Ok (Some (at 4 1)))
unfolding opened
before_says = record { answer = refl }
