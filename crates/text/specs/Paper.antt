-- What a write on a page leaves: the same lent slice, the bytes w behind what stood there, and everything else as it was. Assumes nothing.
use Rattle.std.specs.Prelude.{◌≡◌, List, ◌++◌, ℕ, ◌+◌, ◌≤◌, length, take, get_or}
use Rattle.text.specs.Writing.{Room}
use Rattle.text.specs.declared.page.Page.{Page}

pub record Put (before : Page) (w : List ℕ) (after : Page) : Type 0 where
  pub same_reference : after.out.ghost_name ≡ before.out.ghost_name
  pub at : after.at ≡ before.at + length w
  pub long : length after.out.now ≡ length before.out.now
  pub front : take after.at after.out.now ≡ take before.at before.out.now ++ w
  pub behind : (i : ℕ) → after.at ≤ i → get_or after.out.now i 0 ≡ get_or before.out.now i 0

-- there is room for them
abbrev pub Fits : Page → List ℕ → Type 0
Fits p w = Room p.out.now p.at w
