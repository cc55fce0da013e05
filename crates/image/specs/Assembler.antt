-- How a worked case writes an image down: the instructions by their names in document 01, a program as a list of them, an image as a list of
-- programs with the offsets computed. A case of this crate pins the bytes. Assumes nothing.
use Rattle.std.specs.Prelude.{ℕ, ◌+◌, ◌/◌, ◌%◌, length}
use mathlib.Core.List.{List, [], ◌∷◌, ◌++◌, foldr}
use Rattle.image.specs.Limits.{head_bytes}

-- ---- instructions

abbrev pub Instruction : Type 0
Instruction = List ℕ

abbrev pub instruction : ℕ → ℕ → ℕ → ℕ → Instruction
instruction op a b c = op ∷ a ∷ b ∷ c ∷ []

abbrev pub end : Instruction
end = instruction 0 0 0 0

abbrev pub set : ℕ → ℕ → Instruction
set a value = instruction 1 a (value / 256) (value % 256)

abbrev pub load : ℕ → ℕ → Instruction
load a b = instruction 2 a b 0

abbrev pub store : ℕ → ℕ → Instruction
store a b = instruction 3 a b 0

abbrev pub add : ℕ → ℕ → ℕ → Instruction
add a b c = instruction 4 a b c

abbrev pub sub : ℕ → ℕ → ℕ → Instruction
sub a b c = instruction 5 a b c

abbrev pub skipless : ℕ → ℕ → ℕ → Instruction
skipless a b c = instruction 6 a b c

abbrev pub skipequal : ℕ → ℕ → ℕ → Instruction
skipequal a b c = instruction 7 a b c

abbrev pub reject : ℕ → Instruction
reject code = instruction 8 code 0 0

-- ---- programs and images

abbrev pub joined : List (List ℕ) → List ℕ
joined = foldr ◌++◌ []

-- a number of 16 bits, low byte first
abbrev pub number : ℕ → List ℕ
number k = k % 256 ∷ k / 256 ∷ []

abbrev pub numbers : List ℕ → List ℕ
numbers [] = []
numbers (k ∷ ks) = number k ++ numbers ks

-- an image from its fields in order: count, rule, byte 3, offsets, programs; good or not
abbrev pub fields : ℕ → ℕ → ℕ → List ℕ → List ℕ → List ℕ
fields count rule byte_3 offsets bytes = number count ++ (rule ∷ byte_3 ∷ numbers offsets) ++ bytes

-- the offsets of programs that lie one after another from a place on
abbrev pub offsets_from : ℕ → List (List ℕ) → List ℕ
offsets_from at [] = at ∷ []
offsets_from at (p ∷ ps) = at ∷ offsets_from (at + length p) ps

abbrev pub program : List Instruction → List ℕ
program = joined

abbrev pub image : ℕ → List (List ℕ) → List ℕ
image rule programs = fields (length programs) rule 0 (offsets_from (head_bytes (length programs)) programs) (joined programs)
