-- What a function that writes leaves: the bytes w at a place, everything else as it was. It returns the place after them. Assumes nothing.
use Rattle.std.specs.Prelude.{◌≡◌, List, ◌++◌, ℕ, ◌+◌, ◌≤◌, length, take, drop, get_or}

unfoldable pub pasted : List ℕ → ℕ → List ℕ → List ℕ
pasted d at w = take at d ++ w ++ drop (at + length w) d

pub record Wrote (before : List ℕ) (at : ℕ) (w : List ℕ) (after : List ℕ) (r : ℕ) : Type 0 where
  pub bytes : after ≡ pasted before at w
  pub long : length after ≡ length before
  pub next : r ≡ at + length w

-- there is room for them
pub record Room (out : List ℕ) (at : ℕ) (w : List ℕ) : Type 0 where
  pub fits : at + length w ≤ length out

-- A call that makes a page: it stands at the front of what is lent, everything behind it is as it was, and its length is the answer.
pub record PageSays (page out : List ℕ) (r : ℕ) (out' : List ℕ) : Type 0 where
  pub answer : r ≡ length page
  pub fits : r ≤ length out'
  pub front : take r out' ≡ page
  pub behind : (i : ℕ) → r ≤ i → get_or out' i 0 ≡ get_or out i 0
  pub long : length out' ≡ length out
