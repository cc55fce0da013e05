-- Document 01, "The work area": where each word of a program's slot lies. "state, detail, read count, store count, 32 read cells, 32 stored cells, 32
-- stored values". Assumes nothing.
use Rattle.std.specs.Prelude.{ℕ, ◌+◌}
use Rattle.image.specs.Limits.{max_instructions}
use Rattle.slot.specs.declared.ListKind.{ListKind}
use Rattle.slot.specs.declared.ListKind.TheVariants.{Reads, Stores}

abbrev pub state_word : ℕ
state_word = 0

abbrev pub detail_word : ℕ
detail_word = 1

abbrev pub read_count : ℕ
read_count = 2

abbrev pub store_count : ℕ
store_count = 3

-- each of the three lists has room for an entry per instruction
abbrev pub list_words : ℕ
list_words = max_instructions

abbrev pub first_read : ℕ
first_read = 4

abbrev pub first_store : ℕ
first_store = first_read + list_words

abbrev pub first_value : ℕ
first_value = first_store + list_words

-- of each kind of list that names cells: where its count stands, and where its first cell
abbrev pub count_word : ListKind → ℕ
count_word Reads = read_count
count_word Stores = store_count

abbrev pub first_word : ListKind → ℕ
first_word Reads = first_read
first_word Stores = first_store

-- 100 words in all
abbrev pub slot_words : ℕ
slot_words = first_value + list_words
