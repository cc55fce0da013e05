-- Document 01, "Bench sheet": the programs and images of its first seven cases, cells 0, 1, 2 being x, y, z. Assumes nothing.
use Rattle.std.specs.Prelude.{ℕ, List, [], ◌∷◌}
use Rattle.image.specs.Assembler.{Instruction, set, load, store, add, sub, program, image}

abbrev pub x : ℕ
x = 0

abbrev pub y : ℕ
y = 1

abbrev pub z : ℕ
z = 2

-- x = x + 1
abbrev pub increment : List ℕ
increment = program (set 0 x ∷ load 1 0 ∷ set 2 1 ∷ add 1 1 2 ∷ store 0 1 ∷ [])

-- to = x + y, to = x − y
abbrev pub combine : (ℕ → ℕ → ℕ → Instruction) → ℕ → List ℕ
combine op to = program (set 0 x ∷ set 1 y ∷ load 2 0 ∷ load 3 1 ∷ op 2 2 3 ∷ set 4 to ∷ store 4 2 ∷ [])

-- to = from
abbrev pub copy : ℕ → ℕ → List ℕ
copy from to = program (set 0 from ∷ set 1 to ∷ load 2 0 ∷ store 1 2 ∷ [])

-- loads y and z
abbrev pub look : List ℕ
look = program (set 0 y ∷ set 1 z ∷ load 2 0 ∷ load 3 1 ∷ [])

-- 004's three examples, under a rule
abbrev pub example_1 : ℕ → List ℕ
example_1 rule = image rule (increment ∷ combine sub y ∷ combine add x ∷ [])

abbrev pub example_2 : ℕ → List ℕ
example_2 rule = image rule (copy x y ∷ copy y z ∷ look ∷ [])

abbrev pub example_3 : ℕ → List ℕ
example_3 rule = image rule (copy x y ∷ copy z x ∷ copy y z ∷ [])

-- case 7's image
abbrev pub empty : List ℕ
empty = image 0 []
