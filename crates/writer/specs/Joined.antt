-- The image of a list of programs, laid out as document 01, "The image: counts and offsets", has it. Assumes nothing.
use Rattle.std.specs.Prelude.{List, [], ◌∷◌, ◌++◌, ℕ, ◌+◌, ◌/◌, ◌%◌, length}
use Rattle.image.specs.Limits.{head_bytes}

-- "All numbers are 16 bits, low byte first."
unfoldable pub number : ℕ → List ℕ
number x = x % 256 ∷ x / 256 % 256 ∷ []

-- the programs, one after another
unfoldable pub joined : List (List ℕ) → List ℕ
joined [] = []
joined (p ∷ ps) = p ++ joined ps

-- where each ends, which is where the next begins
unfoldable pub ends : ℕ → List (List ℕ) → List ℕ
ends start [] = []
ends start (p ∷ ps) = number (start + length p) ++ ends (start + length p) ps

unfoldable pub offsets : List (List ℕ) → List ℕ
offsets ps = number (head_bytes (length ps)) ++ ends (head_bytes (length ps)) ps

-- "Bytes 0–1: program count n. Byte 2: rule .. Byte 3: 0. Then n+1 offsets." Then the programs.
unfoldable pub image_of : ℕ → List (List ℕ) → List ℕ
image_of rule ps = number (length ps) ++ (rule ∷ 0 ∷ []) ++ offsets ps ++ joined ps
