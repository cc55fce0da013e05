-- Document 02, ask 3, "Refusals, in order", tried by computation: each row on both its sides, and each before the next. Assumes nothing.
use Prim.Native.Nat.{ℕ}
use mathlib.Core.Path.{◌≡◌, refl}
use mathlib.Core.List.{List, [], ◌∷◌, ◌++◌, map}
use Rattle.std.specs.Prelude.{Ok, Err}
use Rattle.image.specs.declared.refusals.Refusal.TheVariants as refusal
use Rattle.image.specs.Refusals.{told}
use Rattle.image.specs.Assembler.{image}
use Rattle.area.specs.Sketch.{slot, area}
use Rattle.causes.specs.declared.answers.Why.TheVariants.{Raw}
use Rattle.causes.specs.Why.{why_refusal, why_answer, ask_refusal, before_answer}
use Rattle.causes.specs.Opened.{opened}

-- two programs on one cell, which program 0 stores and program 1 reads: RAW, by Rule 1 reason 2
abbrev two : ℕ → List ℕ
two rule = image rule ([] ∷ [] ∷ [])

abbrev standing : (other state detail : ℕ) → List ℕ
standing other state detail = area (1 ∷ []) (2 ∷ []) (slot other 0 [] (0 ∷ []) (60 ∷ []) ∷ slot state detail (0 ∷ []) [] [] ∷ [])

-- the cell's guard; it is open to no store, which does not matter any more
abbrev guards : List ℕ
guards = 1 ∷ 0 ∷ []

-- of program k
abbrev asked : (rule other state detail k : ℕ) → ℕ
asked rule other state detail k = (told (why_refusal (two rule) (8 ∷ []) guards (standing other state detail) k)).number

-- done; "as for settling up to 8": one of each check before, and a number of n
first_eight :
    asked 1 4 5 2 1
    ∷ (told (why_refusal (two 3) (8 ∷ []) guards (standing 4 5 2) 1)).number
    ∷ (told (why_refusal (two 1) [] guards (standing 4 5 2) 1)).number
    ∷ (told (why_refusal (two 1) (8 ∷ 8 ∷ []) guards (standing 4 5 2) 1)).number
    ∷ (told (why_refusal (two 1) (8 ∷ 8 ∷ []) (guards ++ guards) (standing 4 5 2) 1)).number
    ∷ asked 1 6 5 2 1
    ∷ asked 1 4 5 2 2
    ∷ []
    ≡ 0 ∷ 2 ∷ 5 ∷ 14 ∷ 6 ∷ 7 ∷ 8 ∷ []
unfolding opened
first_eight = refl

-- "9 while any state is 0 or 1": another's or its own; 8 comes before it
some_state : map (λ state. asked 1 state 5 2 1) (0 ∷ 1 ∷ 2 ∷ 3 ∷ 4 ∷ 5 ∷ []) ≡ 9 ∷ 9 ∷ 0 ∷ 0 ∷ 0 ∷ 0 ∷ []
unfolding opened
some_state = refl

eight_before_nine : asked 1 0 5 2 2 ≡ 8
unfolding opened
eight_before_nine = refl

-- "13 this program is not carried": its own state; 9 comes before it
not_carried_lem : map (λ state. asked 1 4 state 2 1) (0 ∷ 1 ∷ 2 ∷ 3 ∷ 4 ∷ 5 ∷ []) ≡ 9 ∷ 9 ∷ 13 ∷ 13 ∷ 13 ∷ 0 ∷ []
unfolding opened
not_carried_lem = refl

nine_before_thirteen : asked 1 1 4 2 1 ≡ 9
unfolding opened
nine_before_thirteen = refl

-- "15 its detail is not the reason that its slot, the marks and the rule give": 2 by Rule 1, whose byte may be 0; none by Rule 2. 13 comes before it.
wrong_reason : map (λ detail. asked 1 4 5 detail 1) (0 ∷ 1 ∷ 2 ∷ 3 ∷ 4 ∷ []) ≡ 15 ∷ 15 ∷ 0 ∷ 15 ∷ 15 ∷ []
unfolding opened
wrong_reason = refl

by_the_rule : map (λ rule. map (λ detail. asked rule 4 5 detail 1) (0 ∷ 1 ∷ 2 ∷ 3 ∷ [])) (0 ∷ 1 ∷ 2 ∷ [])
    ≡ (15 ∷ 15 ∷ 0 ∷ 15 ∷ []) ∷ (15 ∷ 15 ∷ 0 ∷ 15 ∷ []) ∷ (15 ∷ 15 ∷ 15 ∷ 15 ∷ []) ∷ []
unfolding opened
by_the_rule = refl

-- "also where they give none": program 0 has nobody before it, with any detail
abbrev first_carried : (detail : ℕ) → List ℕ
first_carried detail = area (1 ∷ []) (2 ∷ []) (slot 5 detail [] (0 ∷ []) (60 ∷ []) ∷ slot 4 0 [] [] [] ∷ [])

no_reason_lem : map (λ detail. (told (why_refusal (two 1) (8 ∷ []) guards (first_carried detail) 0)).number) (0 ∷ 1 ∷ 2 ∷ 3 ∷ [])
    ≡ 15 ∷ 15 ∷ 15 ∷ 15 ∷ []
unfolding opened
no_reason_lem = refl

thirteen_before_fifteen : asked 1 4 4 0 1 ≡ 13
unfolding opened
thirteen_before_fifteen = refl

-- "A refusal returns its number"
refused : map (λ a. why_answer (two 1) (8 ∷ []) guards a 1) (standing 4 4 0 ∷ standing 4 5 1 ∷ standing 4 5 2 ∷ [])
    ≡ Err refusal.NotCarried ∷ Err refusal.Reason ∷ Ok (Raw (record { cell = 0; program = 0 })) ∷ []
unfolding opened
refused = refl

-- before whom it comes: checks 1 to 9 and no more
before_refused :
    map (λ k. (told (ask_refusal (two 1) (8 ∷ []) guards (standing 4 4 0) k)).number) (0 ∷ 1 ∷ 2 ∷ [])
    ∷ map (λ other. (told (ask_refusal (two 1) (8 ∷ []) guards (standing other 4 0) 1)).number) (0 ∷ 1 ∷ 2 ∷ [])
    ∷ []
    ≡ (0 ∷ 0 ∷ 8 ∷ []) ∷ (9 ∷ 9 ∷ 0 ∷ []) ∷ []
unfolding opened
before_refused = refl

refused_before : before_answer (two 1) (8 ∷ []) guards (standing 1 4 0) 1 ≡ Err refusal.State
unfolding opened
refused_before = refl
