-- A text cut at each separator: a sheet at its newlines, a line at its spaces. Assumes nothing.
use Rattle.std.specs.Prelude.{ℕ, ◌+◌, ◌-◌, ◌≤◌, ◌<◌, ◌≡◌, Bool, true, false, cond, ◌&&◌, List, [], ◌∷◌, eqb, length, drop}
use Rattle.base.specs.Words.{words}

-- x in front of the first part
unfoldable pub onto : ℕ → List (List ℕ) → List (List ℕ)
onto x [] = []
onto x (part ∷ parts) = (x ∷ part) ∷ parts

-- the parts between the separators: one more than there are separators, and of an empty text one that is empty
unfoldable pub split : (separator : ℕ) → List ℕ → List (List ℕ)
split separator [] = [] ∷ []
split separator (x ∷ xs) = cond (eqb x separator) ([] ∷ split separator xs) (onto x (split separator xs))

-- two texts are equal
unfoldable pub same : List ℕ → List ℕ → Bool
same [] [] = true
same [] (y ∷ ys) = false
same (x ∷ xs) [] = false
same (x ∷ xs) (y ∷ ys) = eqb x y && same xs ys

-- The part that begins at a place ends at `end`: with the text, or at a separator, and then the next part begins behind it.
pub record Ends (separator : ℕ) (text : List ℕ) (at end : ℕ) : Type 0 where
  pub from : at ≤ end
  pub within : end ≤ length text
  pub last : end ≡ length text → split separator (drop at text) ≡ words at (end - at) text ∷ []
  pub more : end < length text → split separator (drop at text) ≡ words at (end - at) text ∷ split separator (drop (end + 1) text)
