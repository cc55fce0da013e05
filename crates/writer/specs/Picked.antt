-- The programs of an image that pass a test, in number order. Assumes nothing.
use Rattle.std.specs.Prelude.{Bool, true, cond, List, [], ◌∷◌, ◌++◌, ℕ, zero, suc}
use Rattle.image.specs.Image.{count_of, part_of}

unfoldable pub pick : (ℕ → Bool) → List ℕ → ℕ → List (List ℕ)
pick test image k = cond (test k) (part_of image k ∷ []) []

unfoldable pub picked : (ℕ → Bool) → List ℕ → ℕ → List (List ℕ)
picked test image zero = []
picked test image (suc k) = picked test image k ++ pick test image k

-- all of them
abbrev pub all_of : List ℕ → List (List ℕ)
all_of image = picked (λ k. true) image (count_of image)
