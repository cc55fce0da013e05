-- Document 02, ask 3, tried by computation on the bench sheet, by the calls' own contracts. Assumes nothing.
use Prim.Native.Nat.{ℕ}
use mathlib.Core.Path.{◌≡◌, refl}
use mathlib.Core.Bool.{Bool, true, false}
use mathlib.Core.List.{List, [], ◌∷◌, ◌++◌, map}
use Rattle.std.specs.Prelude.{Option, Some, None, Result, Ok, Err}
use Rattle.base.specs.Words.{has}
use Rattle.image.specs.declared.refusals.Refusal.{Refusal}
use Rattle.image.specs.declared.refusals.Refusal.TheVariants.{NotCarried}
use Rattle.image.specs.Assembler.{image}
use Rattle.image.specs.Bench.{x, y, example_1, example_2, example_3}
use Rattle.guard.specs.Guards.{full_for}
use Rattle.causes.specs.declared.answers.Cause.{Cause}
use Rattle.causes.specs.declared.answers.Why.{Why}
use Rattle.causes.specs.declared.answers.Why.TheVariants.{Waw, Raw, RawWithWar}
use Rattle.causes.specs.Why.{why_answer, before_answer}
use Rattle.causes.specs.Opened as causes
use Rattle.promises.specs.Paper.{batch_of}
use Rattle.promises.specs.Causes.{is_carried_in, behind}
use Rattle.promises.specs.Opened.{opened}
use Rattle.promises.specs.Sheet.{put, each_of, run_whole}

abbrev at : (cell program : ℕ) → Cause
at cell program = record { cell = cell; program = program }

abbrev not_carried : Result Why Refusal
not_carried = Err NotCarried

-- what the call says of each of three programs, at the end of their batch on a table
abbrev whys : (batch table : List ℕ) → List (Result Why Refusal)
whys batch table = let w = run_whole batch table (full_for table) in map (why_answer batch w.table (full_for table) w.area) (0 ∷ 1 ∷ 2 ∷ [])

abbrev befores : (batch table : List ℕ) → List (Result (Option Cause) Refusal)
befores batch table = let w = run_whole batch table (full_for table) in map (before_answer batch w.table (full_for table) w.area) (0 ∷ 1 ∷ 2 ∷ [])

-- ---- the bench sheet's carried programs

-- Cases 1 and 2, "x=x+1; y=x−y; x=x+y": by Rule 1 program 1 read x, which 0 stores; by both rules program 2 stores x, which 0 stores
example_1_whys : whys (example_1 1) (9 ∷ 4 ∷ []) ∷ whys (example_1 2) (9 ∷ 4 ∷ []) ∷ []
    ≡ (not_carried ∷ Ok (Raw (at 0 0)) ∷ Ok (Waw (at 0 0)) ∷ []) ∷ (not_carried ∷ not_carried ∷ Ok (Waw (at 0 0)) ∷ []) ∷ []
unfolding opened causes.opened each_of
example_1_whys = refl

-- Case 3, "y=x; z=y; loads y and z": program 1 read y, which 0 stores; program 2 read y, which 0 stores, and z, which 1 stores: the lowest is y
example_2_whys : whys (example_2 1) (1 ∷ 2 ∷ 3 ∷ []) ≡ not_carried ∷ Ok (Raw (at 1 0)) ∷ Ok (Raw (at 1 0)) ∷ []
unfolding opened causes.opened each_of
example_2_whys = refl

-- Cases 5 and 6, "y=x; x=z; z=y": program 2 read y, which 0 stores, and stores z, which 1 read
example_3_whys : whys (example_3 2) (1 ∷ 2 ∷ 3 ∷ []) ∷ whys (example_3 1) (1 ∷ 2 ∷ 3 ∷ []) ∷ []
    ≡ (not_carried ∷ not_carried ∷ Ok (RawWithWar (at 1 0) (at 2 1)) ∷ []) ∷ (not_carried ∷ not_carried ∷ Ok (Raw (at 1 0)) ∷ []) ∷ []
unfolding opened causes.opened each_of
example_3_whys = refl

-- Case 9, "Stores x; stores x and y; stores y": program 2's cause is a program that is carried itself
case_9_whys : whys (image 1 (put x 7 ∷ (put x 8 ++ put y 8) ∷ put y 9 ∷ [])) (1 ∷ 2 ∷ []) ≡ not_carried ∷ Ok (Waw (at 0 0)) ∷ Ok (Waw (at 1 1)) ∷ []
unfolding opened causes.opened each_of
case_9_whys = refl

-- "13 this program is not carried", exactly where the paper does not carry it
-- who of the three is
abbrev carried : (batch : List ℕ) → List Bool
carried batch = map (is_carried_in (batch_of batch (9 ∷ 4 ∷ []) (full_for (9 ∷ 4 ∷ [])))) (0 ∷ 1 ∷ 2 ∷ [])

carried_in_example_1 : carried (example_1 1) ∷ carried (example_1 2) ∷ []
    ≡ (false ∷ true ∷ true ∷ []) ∷ (false ∷ false ∷ true ∷ []) ∷ []
unfolding opened
carried_in_example_1 = refl

-- Cases 2 and 4, whose orders are 1, 0 and 2, 1, 0: program 1 comes before 0; 1 before 0 and 2 before 0, whose store of y it did not see
who_comes_before : befores (example_1 2) (9 ∷ 4 ∷ []) ∷ befores (example_2 2) (1 ∷ 2 ∷ 3 ∷ []) ∷ []
    ≡ (Ok None ∷ Ok (Some (at 0 0)) ∷ Ok (Some (at 0 0)) ∷ []) ∷ (Ok None ∷ Ok (Some (at 1 0)) ∷ Ok (Some (at 1 0)) ∷ []) ∷ []
unfolding opened causes.opened each_of
who_comes_before = refl

-- to stand behind: 0 behind 1 in the order 1, 0 and not the other way round; nobody behind one that is not there
stands_behind : behind 0 1 (1 ∷ 0 ∷ []) ∷ behind 1 0 (1 ∷ 0 ∷ []) ∷ behind 0 2 (1 ∷ 0 ∷ []) ∷ behind 2 1 (1 ∷ 0 ∷ [])
    ∷ behind 0 1 (2 ∷ 1 ∷ 3 ∷ 0 ∷ []) ∷ []
    ≡ true ∷ false ∷ false ∷ false ∷ true ∷ []
unfolding opened has
stands_behind = refl
