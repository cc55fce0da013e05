-- What holds of each kind of list. Assumes nothing.
use Rattle.std.proofs.Common.{◌+◌, ◌≤◌, ◌<◌, arith}
use Rattle.slot.specs.declared.ListKind.{ListKind}
use Rattle.slot.specs.declared.ListKind.TheVariants.{Reads, Stores}
use Rattle.slot.specs.Layout.{detail_word, list_words, count_word, first_word, slot_words}

-- a fact of both kinds
pub each_kind : (P : ListKind → Type 0) → P Reads → P Stores → (k : ListKind) → P k
each_kind P r s Reads = r
each_kind P r s Stores = s

-- the count stands behind state and detail, and there is room for the list
pub count_low : (k : ListKind) → (detail_word < count_word k) × (count_word k < slot_words)
count_low = each_kind _ (omega arith, omega arith) (omega arith, omega arith)

pub list_lies : (k : ListKind) → (detail_word < first_word k) × (first_word k + list_words ≤ slot_words)
list_lies = each_kind _ (omega arith, omega arith) (omega arith, omega arith)
