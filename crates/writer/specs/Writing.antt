-- What the functions that write an image need and leave. Assumes nothing.
use Rattle.std.specs.Prelude.{◌≡◌, true, List, [], ◌∷◌, ◌++◌, ℕ, ◌+◌, ◌<◌, ◌≤◌, length}
use Rattle.base.specs.Masks.{has_bit}
use Rattle.text.specs.declared.page.Page.{Page}
use Rattle.text.specs.Paper.{Put, Fits}
use Rattle.image.specs.Limits.{max_programs, head_bytes}
use Rattle.image.specs.Image.{Lies}
use Rattle.writer.specs.Joined.{number, ends, joined}

-- count, rule, the byte that is 0, and the first offset
unfoldable pub header : ℕ → ℕ → List ℕ
header count rule = number count ++ (rule ∷ 0 ∷ []) ++ number (head_bytes count)

-- the ends of the programs ps, of which the first begins at the start; and where the last ends
pub record Ended (before : Page) (start : ℕ) (ps : List (List ℕ)) (after : Page) (r : ℕ) : Type 0 where
  pub put : Put before (ends start ps) after
  pub end_is : r ≡ start + length (joined ps)

-- there is room for them
pub record EndRoom (page : Page) (start : ℕ) (ps : List (List ℕ)) : Type 0 where
  pub fits : Fits page (ends start ps)
  pub small : start + length (joined ps) < 65536

-- the programs of an image that a mask has, of the first n: each of them lies in the image, whatever stands between them
pub record Source (image : List ℕ) (n mask : ℕ) : Type 0 where
  pub few : n ≤ max_programs
  pub lies : (k : ℕ) → k < n → has_bit mask k ≡ true → Lies image k
