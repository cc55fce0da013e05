-- Document 01, "The work area": where each word of the area lies. "It has 2T + 100n words of 32 bits. First T write marks, then T read marks .. Then a
-- slot of 100 words per program." The words inside a slot are named in the crate `slot`. Assumes nothing.
use Rattle.std.specs.Prelude.{ℕ, ◌+◌, ◌*◌, Bool, List, ◌++◌, get_or, set, take, drop}
use Rattle.base.specs.Words.{words}
use Rattle.slot.specs.declared.ListKind.{ListKind}
use Rattle.slot.specs.declared.ListKind.TheVariants.{Reads, Stores}
use Rattle.slot.specs.declared.Group.{Group}
use Rattle.slot.specs.States.{is_in}
use Rattle.slot.specs.Layout.{detail_word, first_value, count_word, first_word, slot_words}
use Rattle.area.specs.declared.MarkKind.{MarkKind}
use Rattle.area.specs.declared.MarkKind.TheVariants.{Write, Read}
use Rattle.area.specs.declared.Span.{Span}

-- ---- where things begin

-- the marks of each kind, T of them
abbrev pub marks_at : MarkKind → ℕ → ℕ
marks_at Write T = 0
marks_at Read T = T

abbrev pub first_slot : ℕ → ℕ
first_slot T = 2 * T

abbrev pub slot_start : ℕ → ℕ → ℕ
slot_start T k = first_slot T + slot_words * k

-- the words of an area for T cells and n programs: it ends where slot n would begin
abbrev pub area_words : ℕ → ℕ → ℕ
area_words T n = slot_start T n

-- program k's state is the first word of its slot; then its detail, the counts of its lists, and the lists
abbrev pub state_at : ℕ → ℕ → ℕ
state_at T k = slot_start T k

abbrev pub detail_at : ℕ → ℕ → ℕ
detail_at T k = slot_start T k + detail_word

abbrev pub count_at : ListKind → ℕ → ℕ → ℕ
count_at l T k = slot_start T k + count_word l

abbrev pub list_at : ListKind → ℕ → ℕ → ℕ
list_at l T k = slot_start T k + first_word l

abbrev pub values_at : ℕ → ℕ → ℕ
values_at T k = slot_start T k + first_value

-- ---- what stands there

unfoldable pub state_of : ℕ → ℕ → List ℕ → ℕ
state_of T k a = get_or a (state_at T k) 0

unfoldable pub detail_of : ℕ → ℕ → List ℕ → ℕ
detail_of T k a = get_or a (detail_at T k) 0

unfoldable pub slot_at : ℕ → ℕ → List ℕ → List ℕ
slot_at T k a = words (slot_start T k) slot_words a

-- program k is one of a group
unfoldable pub in_group : Group → ℕ → List ℕ → ℕ → Bool
in_group g T a k = is_in g (state_of T k a)

-- where program k's list of a kind lies and how many it counts, and the cells that it counts
abbrev pub span_of : ListKind → ℕ → ℕ → List ℕ → Span
span_of l T k a = record { at = list_at l T k; count = get_or a (count_at l T k) 0 }

unfoldable pub list_of : ListKind → ℕ → ℕ → List ℕ → List ℕ
list_of l T k a = words (list_at l T k) (get_or a (count_at l T k) 0) a

abbrev pub reads_of : ℕ → ℕ → List ℕ → List ℕ
reads_of T k a = list_of Reads T k a

abbrev pub stores_of : ℕ → ℕ → List ℕ → List ℕ
stores_of T k a = list_of Stores T k a

-- the values of its stored cells
unfoldable pub values_of : ℕ → ℕ → List ℕ → List ℕ
values_of T k a = words (values_at T k) (get_or a (count_at Stores T k) 0) a

-- ---- what is put there

-- the area with slot k being s
unfoldable pub with_slot : ℕ → ℕ → List ℕ → List ℕ → List ℕ
with_slot T k s a = take (slot_start T k) a ++ (s ++ drop (slot_start T k + slot_words) a)

-- the area with program k's state and detail
unfoldable pub with_state : ℕ → ℕ → ℕ → ℕ → List ℕ → List ℕ
with_state T k state detail a = set (set a (state_at T k) state) (detail_at T k) detail
