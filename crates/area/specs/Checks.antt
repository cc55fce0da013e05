-- Document 01, "What each refusal says": checks 5, 6, 7 and 9, where document 02's 14 comes in, and the checks that every call on an area begins with.
-- Assumes nothing.
use Rattle.std.specs.Prelude.{ℕ, ◌+◌, ◌≤◌, ◌<◌, ◌≡◌, Bool, true, ◌&&◌, List, length, get_or, eqb, ltb, leb, Result}
use Rattle.base.specs.Words.{every}
use Rattle.image.specs.Limits.{max_programs, min_cells, max_cells}
use Rattle.image.specs.declared.refusals.Refusal.{Refusal}
use Rattle.image.specs.declared.refusals.Refusal.TheVariants as refusal
use Rattle.image.specs.Refusals.{passed, check, after}
use Rattle.image.specs.Image.{count_of, refusal_of, image_checks}
use Rattle.guard.specs.Guards.{guard_words, pairs_for}
use Rattle.slot.specs.declared.ListKind.{ListKind}
use Rattle.slot.specs.declared.ListKind.TheVariants.{Reads, Stores}
use Rattle.slot.specs.States.{gathered, first_end, last_state}
use Rattle.slot.specs.Layout.{list_words, slot_words}
use Rattle.area.specs.declared.MarkKind.{MarkKind}
use Rattle.area.specs.declared.MarkKind.TheVariants.{Write, Read}
use Rattle.area.specs.Layout.{area_words, marks_at, slot_start, state_of, count_at, list_at}

-- 5, "table of 0 or over 256 cells"
unfoldable pub table_good : List ℕ → Bool
table_good t = leb min_cells (length t) && leb (length t) max_cells

-- 6, "area is not 2T + 100n words"
unfoldable pub size_is : ℕ → ℕ → List ℕ → Bool
size_is T n a = eqb (length a) (area_words T n)

-- 7, "a mark over n, a state over 5, a count over 32, or a cell of T or more among the counted ones": it looks at every slot, whatever its state

-- each of count words from a place on is below a bound
unfoldable pub all_below : (bound at count : ℕ) → List ℕ → Bool
all_below bound at count a = every count (λ i. ltb (get_or a (at + i) 0) bound)

abbrev pub marks_good : MarkKind → ℕ → ℕ → List ℕ → Bool
marks_good m T n a = all_below (n + 1) (marks_at m T) T a

abbrev pub state_good : ℕ → ℕ → List ℕ → Bool
state_good T k a = leb (state_of T k a) last_state

unfoldable pub list_good : ListKind → ℕ → ℕ → List ℕ → Bool
list_good l T k a = leb (get_or a (count_at l T k) 0) list_words && all_below T (list_at l T k) (get_or a (count_at l T k) 0) a

unfoldable pub slot_good : ℕ → ℕ → List ℕ → Bool
slot_good T k a = state_good T k a && list_good Reads T k a && list_good Stores T k a

unfoldable pub slots_good : ℕ → ℕ → List ℕ → Bool
slots_good T n a = every n (λ k. slot_good T k a)

unfoldable pub words_good : ℕ → ℕ → List ℕ → Bool
words_good T n a = marks_good Write T n a && marks_good Read T n a && slots_good T n a

-- 9 asks at settling that no state is 0, at the listed order and the next image that none is 0 or 1: that none is below one
unfoldable pub states_from : (least : ℕ) → ℕ → ℕ → List ℕ → Bool
states_from least T n a = every n (λ k. leb least (state_of T k a))

abbrev pub none_waits : ℕ → ℕ → List ℕ → Bool
none_waits = states_from gathered

abbrev pub all_ended : ℕ → ℕ → List ℕ → Bool
all_ended = states_from first_end

-- ---- which checks go first; wherever a comment of the house says "checks 1 to 7", or more, 14 is among them, in its place

-- 5; 14, "after 5" (document 02, ask 5); and 6, for n programs
unfoldable pub room_refusal : ℕ → (t g a : List ℕ) → Result (Unit {0}) Refusal
room_refusal n t g a =
    check (table_good t) refusal.TableSize
    (check (pairs_for (length t) g) refusal.Guards
    (check (size_is (length t) n a) refusal.AreaSize
    passed))

-- 1 to 5, 14, 6, as opening makes them
unfoldable pub open_refusal : (image t g a : List ℕ) → Result (Unit {0}) Refusal
open_refusal image t g a = after (image_checks image) (room_refusal (count_of image) t g a)

-- and 7, as every other call that is lent image, table, guards and area does
unfoldable pub call_refusal : (image t g a : List ℕ) → Result (Unit {0}) Refusal
call_refusal image t g a = after (open_refusal image t g a) (check (words_good (length t) (count_of image) a) refusal.Area passed)

-- and 9, "Order, next image: some state 0 or 1"
unfoldable pub ended_refusal : (image t g a : List ℕ) → Result (Unit {0}) Refusal
ended_refusal image t g a = after (call_refusal image t g a) (check (all_ended (length t) (count_of image) a) refusal.State passed)

-- ---- what the checks have shown

-- 1 to 7, of image, table and area: the `requires` of every inner function, which a whole batch has to check once
pub record Checked (image t a : List ℕ) : Type 0 where
  pub accepted : refusal_of image ≡ passed
  pub programs : count_of image ≤ max_programs
  pub cells_some : 0 < length t
  pub cells_few : length t ≤ max_cells
  pub sized : length a ≡ area_words (length t) (count_of image)
  pub good : words_good (length t) (count_of image) a ≡ true

-- 14: the guards have a pair for each cell
abbrev pub Paired : (t g : List ℕ) → Type 0
Paired t g = length g ≡ guard_words (length t)

-- the area has the words for T cells and n programs
pub record Measured (T n : ℕ) (a : List ℕ) : Type 0 where
  pub cells_few : T ≤ max_cells
  pub programs_few : n ≤ max_programs
  pub sized : length a ≡ area_words T n

-- program k's slot lies in the area
pub record HasSlot (T k : ℕ) (a : List ℕ) : Type 0 where
  pub cells_few : T ≤ max_cells
  pub number_few : k < max_programs
  pub lies : slot_start T k + slot_words ≤ length a

-- and its cells are the table's
pub record Slotted (T k : ℕ) (a : List ℕ) : Type 0 where
  pub lies : HasSlot T k a
  pub few : (l : ListKind) → get_or a (count_at l T k) 0 ≤ list_words
  pub inside : (l : ListKind) (i : ℕ) → i < get_or a (count_at l T k) 0 → get_or a (list_at l T k + i) 0 < T

-- The count words from a place on lie in the area, and each names a mark before the place, in the marks that begin at `marks`.
pub record Names (marks at count : ℕ) (a : List ℕ) : Type 0 where
  pub few : count ≤ list_words
  pub lies : at + count ≤ length a
  pub before_at : (i : ℕ) → i < count → marks + get_or a (at + i) 0 < at

-- And each is a cell of a table of T.
pub record Searched (T marks at count : ℕ) (a : List ℕ) : Type 0 where
  pub names : Names marks at count a
  pub in_table : (i : ℕ) → i < count → get_or a (at + i) 0 < T

-- The count words from a place on lie in the area, and so do those at another place; each of the first names a cell of the table.
pub record Storing (cells values count : ℕ) (a t : List ℕ) : Type 0 where
  pub few : count ≤ list_words
  pub cells_lie : cells + count ≤ length a
  pub values_lie : values + count ≤ length a
  pub in_table : (i : ℕ) → i < count → get_or a (cells + i) 0 < length t
