-- The slot that holds a log, word by word, and the log read back from it. Assumes nothing.
use Rattle.std.proofs.Common.{ℕ, zero, suc, ◌+◌, ◌-◌, ◌≤◌, ◌<◌, ◌≡◌, refl, sym, ap, ◌∙◌, List, [], ◌∷◌, ◌++◌, append_assoc, append-nil, arith, length}
use Rattle.std.proofs.Common.{get_or, set, take, replicate, length-append, take_at}
use Rattle.std.proofs.lemmas.List.{length-replicate}
use Rattle.base.specs.Words.{has, distinct, words}
use Rattle.base.proofs.Members.{has_none}
use Rattle.base.proofs.Parts.{words_between, get_d_between}
use Rattle.slot.specs.States.{waiting}
use Rattle.slot.specs.declared.ListKind.{ListKind}
use Rattle.slot.specs.declared.ListKind.TheVariants.{Reads, Stores}
use Rattle.slot.specs.Layout.{state_word, detail_word, list_words, first_read, first_store, first_value, count_word, first_word, slot_words}
use Rattle.slot.specs.Log.{Log, cells_of, empty, pad, layout, log_of, Fits}
use Rattle.slot.proofs.ListKinds.{each_kind}

-- ---- a list in its 32 words

length_pad : (xs : List ℕ) → length xs ≤ list_words → length (pad xs) ≡ list_words
length_pad xs h = simp (length-append, length-replicate) (omega arith)

pad_take : (xs : List ℕ) (n : ℕ) → length xs ≡ n → take n (pad xs) ≡ xs
pad_take xs n e = take_at xs (replicate (list_words - length xs) 0) n e

-- past the list stands 0, and so says `get_or`
pub zeros_at : (k i : ℕ) → ◌≡◌ {A = ℕ} (get_or (replicate k 0) i 0) 0
zeros_at zero i = refl
zeros_at (suc k) zero = refl
zeros_at (suc k) (suc i) = zeros_at k i

pad_at : (k : ℕ) (xs : List ℕ) (i : ℕ) → get_or (xs ++ replicate k 0) i 0 ≡ get_or xs i 0
pad_at k [] i = zeros_at k i
pad_at k (x ∷ xs) zero = refl
pad_at k (x ∷ xs) (suc i) = pad_at k xs i

-- ---- the four words and the three lists of a slot

-- the third list, as the part after all else
pub thirds : (a b n m : ℕ) (rs cs vs : List ℕ) → a ∷ b ∷ n ∷ m ∷ (rs ++ (cs ++ vs)) ≡ (a ∷ b ∷ n ∷ m ∷ (rs ++ cs)) ++ (vs ++ [])
thirds a b n m rs cs vs =
    ap (λ (x : List ℕ). a ∷ b ∷ n ∷ m ∷ x) (sym (append_assoc rs cs vs) ∙ ap (λ (x : List ℕ). (rs ++ cs) ++ x) (sym (append-nil vs)))

-- the sizes of a log that a slot has room for
pub record Sized (l : Log) : Type 0 where
  pub few : (k : ListKind) → length (cells_of k l) ≤ list_words
  pub paired : length l.values ≡ length l.cells

module _ (l : Log) (z : Sized l) where
  pub rs_full : length (pad l.reads) ≡ list_words
  rs_full = length_pad l.reads (z.few Reads)

  pub cs_full : length (pad l.cells) ≡ list_words
  cs_full = length_pad l.cells (z.few Stores)

  pub vs_full : length (pad l.values) ≡ list_words
  vs_full = length_pad l.values (omega (arith, z.few Stores, z.paired))

  before_values : length (pad l.reads ++ pad l.cells) ≡ list_words + list_words
  before_values = omega (arith, length-append (pad l.reads) (pad l.cells), rs_full, cs_full)

  length_layout : (a b : ℕ) → length (layout a b l) ≡ slot_words
  unfolding layout
  length_layout a b =
      omega (arith, length-append (pad l.reads) (pad l.cells ++ pad l.values), length-append (pad l.cells) (pad l.values), rs_full, cs_full, vs_full)

  read_word : (a b i : ℕ) → i < list_words → get_or (layout a b l) (first_read + i) 0 ≡ get_or l.reads i 0
  unfolding layout
  read_word a b i h =
      get_d_between (a ∷ b ∷ length l.reads ∷ length l.cells ∷ []) (pad l.reads) (pad l.cells ++ pad l.values) i (first_read + i) refl
      (omega (arith, rs_full))
      ∙ pad_at (list_words - length l.reads) l.reads i

  cell_word : (a b i : ℕ) → i < list_words → get_or (layout a b l) (first_store + i) 0 ≡ get_or l.cells i 0
  unfolding layout
  cell_word a b i h =
      get_d_between (a ∷ b ∷ length l.reads ∷ length l.cells ∷ pad l.reads) (pad l.cells) (pad l.values) i (first_store + i)
      (omega (arith, rs_full)) (omega (arith, cs_full))
      ∙ pad_at (list_words - length l.cells) l.cells i

  value_word : (a b i : ℕ) → i < list_words → get_or (layout a b l) (first_value + i) 0 ≡ get_or l.values i 0
  unfolding layout
  value_word a b i h =
      ap (λ (s : List ℕ). get_or s (first_value + i) 0)
      (thirds a b (length l.reads) (length l.cells) (pad l.reads) (pad l.cells) (pad l.values))
      ∙ (get_d_between (a ∷ b ∷ length l.reads ∷ length l.cells ∷ (pad l.reads ++ pad l.cells)) (pad l.values) [] i (first_value + i)
      (omega (arith, before_values)) (omega (arith, vs_full))
      ∙ pad_at (list_words - length l.values) l.values i)

  log_of_lem : (a b : ℕ) → log_of (layout a b l) ≡ l
  unfolding layout log_of
  log_of_lem a b =
      let n : ℕ = length l.reads in
      let m : ℕ = length l.cells in
      let e₁ : words first_read n (layout a b l) ≡ l.reads =
      words_between (a ∷ b ∷ n ∷ m ∷ []) (pad l.reads) (pad l.cells ++ pad l.values) first_read n refl (omega (arith, rs_full, z.few Reads))
      ∙ pad_take l.reads n refl in
      let e₂ : words first_store m (layout a b l) ≡ l.cells =
      words_between (a ∷ b ∷ n ∷ m ∷ pad l.reads) (pad l.cells) (pad l.values) first_store m (omega (arith, rs_full))
      (omega (arith, cs_full, z.few Stores))
      ∙ pad_take l.cells m refl in
      let e₃ : words first_value m (layout a b l) ≡ l.values =
      ap (words first_value m) (thirds a b n m (pad l.reads) (pad l.cells) (pad l.values))
      ∙ (words_between (a ∷ b ∷ n ∷ m ∷ (pad l.reads ++ pad l.cells)) (pad l.values) [] first_value m (omega (arith, before_values))
      (omega (arith, vs_full, z.few Stores))
      ∙ pad_take l.values m z.paired) in
      λ i. record { reads = e₁ i; cells = e₂ i; values = e₃ i }

-- ---- for everyone above: the slot that holds a log which fits

sized : (T : ℕ) (l : Log) → Fits T l → Sized l
sized T l f = record { few = f.few; paired = f.paired }

module _ (state detail : ℕ) (l : Log) (T : ℕ) (fits : Fits T l) where
  pub layout_length : length (layout state detail l) ≡ slot_words
  layout_length = length_layout l (sized T l fits) state detail

  -- the log comes back out of the slot
  pub layout_log : log_of (layout state detail l) ≡ l
  layout_log = log_of_lem l (sized T l fits) state detail

  -- word by word; past the counted entries `get_or` gives 0, and so does the slot
  pub layout_read : (i : ℕ) → i < list_words → get_or (layout state detail l) (first_read + i) 0 ≡ get_or l.reads i 0
  layout_read i h = read_word l (sized T l fits) state detail i h

  pub layout_cell : (i : ℕ) → i < list_words → get_or (layout state detail l) (first_store + i) 0 ≡ get_or l.cells i 0
  layout_cell i h = cell_word l (sized T l fits) state detail i h

  pub layout_value : (i : ℕ) → i < list_words → get_or (layout state detail l) (first_value + i) 0 ≡ get_or l.values i 0
  layout_value i h = value_word l (sized T l fits) state detail i h

  pub layout_list : (k : ListKind) (i : ℕ) → i < list_words → get_or (layout state detail l) (first_word k + i) 0 ≡ get_or (cells_of k l) i 0
  layout_list = each_kind _ layout_read layout_cell

-- the first four words, of any log
module _ (state detail : ℕ) (l : Log) where
  pub layout_state : get_or (layout state detail l) state_word 0 ≡ state
  unfolding layout
  layout_state = refl

  pub layout_detail : get_or (layout state detail l) detail_word 0 ≡ detail
  unfolding layout
  layout_detail = refl

  pub layout_count : (k : ListKind) → get_or (layout state detail l) (count_word k) 0 ≡ length (cells_of k l)
  unfolding layout
  layout_count = each_kind _ refl refl

  -- a slot whose state and detail are changed holds the same log
  pub layout_again : (state' detail' : ℕ) → set (set (layout state detail l) state_word state') detail_word detail' ≡ layout state' detail' l
  unfolding layout
  layout_again state' detail' = refl

-- nothing read and nothing stored fits
pub empty_fits : (T : ℕ) → Fits T empty
unfolding has distinct
empty_fits T =
    record {
      inside = each_kind _ (λ c h. absurd (has_none c h)) (λ c h. absurd (has_none c h));
      few = each_kind _ (omega arith) (omega arith);
      once_each = each_kind _ refl refl;
      paired = refl;
    }

-- a waiting program's slot is all 0
pub layout_waiting : layout waiting 0 empty ≡ replicate slot_words 0
unfolding layout
layout_waiting = refl
