-- What each store of `note_read` and `note_store` does to a slot that holds a log. Assumes nothing.
use Rattle.std.proofs.Common.{ℕ, suc, ◌+◌, ◌-◌, ◌≤◌, ◌<◌, ◌≡◌, refl, sym, ap, ◌∙◌, true, false, Option, Some, None, is_some, IfSome, List, [], ◌∷◌}
use Rattle.std.proofs.Common.{◌++◌, arith, length, get_or, set, replicate, length-append, length-set}
use Rattle.std.proofs.lemmas.List.{length_push}
use Rattle.base.specs.Words.{words}
use Rattle.std.proofs.Math.Seq.{set_at, set-append_left, append_snoc}
use Rattle.base.proofs.Parts.{words_at, set_between}
use Rattle.slot.specs.States.{waiting}
use Rattle.slot.specs.Layout.{read_count, store_count, list_words, first_read, first_store, first_value}
use Rattle.slot.specs.Log.{Log, cells_of, place_in, found_place, newest_in, once, loaded, with_read, with_store, pad, layout, log_of, Holds}
use Rattle.slot.proofs.Places.{found_place_none, found_place_any, found_place_some, found_place_below, found, place_bound, one_place, once_new}
use Rattle.slot.proofs.Places.{once_old}
use Rattle.slot.specs.declared.ListKind.{ListKind}
use Rattle.slot.specs.declared.ListKind.TheVariants.{Reads, Stores}
use Rattle.slot.proofs.ListKinds.{each_kind}
use Rattle.slot.proofs.Slots.{thirds, Sized, rs_full, cs_full, vs_full}

-- ---- a word of a list, changed

pad_push : (xs : List ℕ) (x : ℕ) → length xs < list_words → set (pad xs) (length xs) x ≡ pad (xs ++ (x ∷ []))
pad_push xs x h =
    let n : ℕ = list_words - length (xs ++ (x ∷ [])) in
    let e : list_words - length xs ≡ suc n = omega (arith, length_push xs x) in
    ap (λ (k : ℕ). set (xs ++ replicate k 0) (length xs) x) e
    ∙ (set_at xs 0 (replicate n 0) x (length xs) refl ∙ sym (append_snoc xs x (replicate n 0)))

pad_set : (xs : List ℕ) (i x : ℕ) → i < length xs → set (pad xs) i x ≡ pad (set xs i x)
pad_set xs i x h =
    set-append_left xs (replicate (list_words - length xs) 0) i x h
    ∙ ap (λ (k : ℕ). set xs i x ++ replicate (list_words - k) 0) (sym (length-set xs i x))

module _ (a b n m : ℕ) (rs cs vs : List ℕ) (full : length rs ≡ list_words) where
  set_read : (i k x : ℕ) → first_read + i ≡ k → i < length rs
      → set (a ∷ b ∷ n ∷ m ∷ (rs ++ (cs ++ vs))) k x ≡ a ∷ b ∷ n ∷ m ∷ (set rs i x ++ (cs ++ vs))
  set_read i k x e h = set_between (a ∷ b ∷ n ∷ m ∷ []) rs (cs ++ vs) i k x e h

  set_cell : (i k x : ℕ) → first_store + i ≡ k → i < length cs
      → set (a ∷ b ∷ n ∷ m ∷ (rs ++ (cs ++ vs))) k x ≡ a ∷ b ∷ n ∷ m ∷ (rs ++ (set cs i x ++ vs))
  set_cell i k x e h = set_between (a ∷ b ∷ n ∷ m ∷ rs) cs vs i k x (omega arith) h

  set_value : (i k x : ℕ) → length cs ≡ list_words → first_value + i ≡ k → i < length vs
      → set (a ∷ b ∷ n ∷ m ∷ (rs ++ (cs ++ vs))) k x ≡ a ∷ b ∷ n ∷ m ∷ (rs ++ (cs ++ set vs i x))
  set_value i k x f e h =
      ap (λ (s : List ℕ). set s k x) (thirds a b n m rs cs vs)
      ∙ (set_between (a ∷ b ∷ n ∷ m ∷ (rs ++ cs)) vs [] i k x (omega (arith, length-append rs cs)) h ∙ sym (thirds a b n m rs cs (set vs i x)))

-- ---- a log with one entry more, or another value

module _ (l : Log) (z : Sized l) where
  push_read : (c k n : ℕ) → length l.reads < list_words → first_read + length l.reads ≡ k → length l.reads + 1 ≡ n
      → set (set (layout waiting 0 l) k c) read_count n
      ≡ layout waiting 0 (record { reads = l.reads ++ (c ∷ []); cells = l.cells; values = l.values })
  unfolding layout
  push_read c k n h e f =
      ap (λ (s : List ℕ). set s read_count n)
      (set_read waiting 0 (length l.reads) (length l.cells) (pad l.reads) (pad l.cells) (pad l.values) (rs_full l z) (length l.reads) k c e
      (omega (arith, rs_full l z)))
      ∙ rw (pad_push l.reads c h, ← f, length_push l.reads c)

  push_store : (c v k j n : ℕ) → length l.cells < list_words → first_store + length l.cells ≡ k → first_value + length l.cells ≡ j
      → length l.cells + 1 ≡ n
      → set (set (set (layout waiting 0 l) k c) j v) store_count n
      ≡ layout waiting 0 (record { reads = l.reads; cells = l.cells ++ (c ∷ []); values = l.values ++ (v ∷ []) })
  unfolding layout
  push_store c v k j n h e₁ e₂ f =
      let cs : List ℕ = set (pad l.cells) (length l.cells) c in
      let w : length l.values < list_words = omega arith in
      ap (λ (s : List ℕ). set (set s j v) store_count n)
      (set_cell waiting 0 (length l.reads) (length l.cells) (pad l.reads) (pad l.cells) (pad l.values) (rs_full l z) (length l.cells) k c e₁
      (omega (arith, cs_full l z)))
      ∙ (ap (λ (s : List ℕ). set s store_count n)
      (set_value waiting 0 (length l.reads) (length l.cells) (pad l.reads) cs (pad l.values) (rs_full l z) (length l.values) j v
      (length-set (pad l.cells) (length l.cells) c ∙ cs_full l z) (omega arith) (omega (arith, vs_full l z)))
      ∙ rw (pad_push l.cells c h, pad_push l.values v w, ← f, length_push l.cells c))

  change_value : (v i k : ℕ) → i < length l.values → first_value + i ≡ k
      → set (layout waiting 0 l) k v ≡ layout waiting 0 (record { reads = l.reads; cells = l.cells; values = set l.values i v })
  unfolding layout
  change_value v i k h e =
      set_value waiting 0 (length l.reads) (length l.cells) (pad l.reads) (pad l.cells) (pad l.values) (rs_full l z) i k v (cs_full l z) e
      (omega (arith, vs_full l z, z.few Stores, z.paired))
      ∙ rw (pad_set l.values i v h)

-- ---- the slot of a run on its way

module _ (s : List ℕ) (h : Holds s) where
  reads_count : get_or s read_count 0 ≡ length (log_of s).reads
  unfolding layout
  reads_count = ap (λ (x : List ℕ). get_or x read_count 0) h.is

  cells_count : get_or s store_count 0 ≡ length (log_of s).cells
  unfolding layout
  cells_count = ap (λ (x : List ℕ). get_or x store_count 0) h.is

  holds_sized : Sized (log_of s)
  holds_sized =
      record { few = each_kind _ (omega (arith, reads_count, h.read_room)) (omega (arith, cells_count, h.store_room)); paired = h.paired }

  -- no cell stands twice in a list, so that the newest place of one is its first
  pub newest_first : (k : ListKind) (c : ℕ) → newest_in c (cells_of k (log_of s)) ≡ place_in c (cells_of k (log_of s))
  newest_first k c = one_place c (cells_of k (log_of s)) (h.once_each k)

  -- the place of a stored cell is no more than 32
  pub place_small : (c : ℕ) → place_in c (log_of s).cells ≤ list_words
  place_small c = omega (arith, place_bound c (log_of s).cells, cells_count, h.store_room)

  -- so a search of the list from its end gives the place of the cell
  pub read_found : (c : ℕ) (r : Option ℕ) → r ≡ found_place (newest_in c (words first_read (get_or s read_count 0) s))
      → r ≡ found_place (place_in c (log_of s).reads)
  unfolding log_of
  read_found c r e = e ∙ ap found_place (newest_first Reads c)

  module _ (c : ℕ) (r : Option ℕ) (e : r ≡ found_place (newest_in c (words first_store (get_or s store_count 0) s))) where
    pub stored_found : r ≡ found_place (place_in c (log_of s).cells)
    unfolding log_of
    stored_found = e ∙ ap found_place (newest_first Stores c)

    pub stored_below : IfSome r (λ k. k < list_words)
    stored_below = rw stored_found (found_place_below list_words (place_in c (log_of s).cells) (place_small c))

  -- a cell that is not stored is read
  module _ (c : ℕ) (fresh : place_in c (log_of s).cells ≡ 0) where
    read_is : with_read (log_of s) c ≡ record { reads = once c (log_of s).reads; cells = (log_of s).cells; values = (log_of s).values }
    unfolding with_read
    read_is = rw fresh

    module _ (r : Option ℕ) (e : r ≡ found_place (newest_in c (words first_read (get_or s read_count 0) s))) where
      pub read_new : is_some r ≡ false
          → set (set s (first_read + get_or s read_count 0) c) read_count (get_or s read_count 0 + 1) ≡ layout waiting 0 (with_read (log_of s) c)
      read_new none =
          let p : place_in c (log_of s).reads ≡ 0 = found_place_none _ r (read_found c r e) none in
          ap (λ (x : List ℕ). set (set x (first_read + get_or s read_count 0) c) read_count (get_or s read_count 0 + 1)) h.is
          ∙ (push_read (log_of s) holds_sized c (first_read + get_or s read_count 0) (get_or s read_count 0 + 1)
          (omega (arith, reads_count, h.read_room)) (omega (arith, reads_count)) (omega (arith, reads_count))
          ∙ rw (read_is, once_new c (log_of s).reads p))

      pub read_old : is_some r ≡ true → s ≡ layout waiting 0 (with_read (log_of s) c)
      read_old some =
          let p = found_place_any _ r (read_found c r e) some in
          h.is ∙ rw (read_is, once_old c (log_of s).reads p.0 p.1)

  pub store_new : (c v : ℕ) → None ≡ found_place (place_in c (log_of s).cells)
      → set (set (set s (first_store + get_or s store_count 0) c) (first_value + get_or s store_count 0) v) store_count (get_or s store_count 0 + 1)
      ≡ layout waiting 0 (with_store (log_of s) c v)
  unfolding with_store
  store_new c v none =
      let e : place_in c (log_of s).cells ≡ 0 = found_place_none _ None none refl in
      let n : ℕ = get_or s store_count 0 in
      ap (λ (x : List ℕ). set (set (set x (first_store + n) c) (first_value + n) v) store_count (n + 1)) h.is
      ∙ (push_store (log_of s) holds_sized c v (first_store + n) (first_value + n) (n + 1)
      (omega (arith, cells_count, h.store_room)) (omega (arith, cells_count)) (omega (arith, cells_count)) (omega (arith, cells_count))
      ∙ rw (once_new c (log_of s).cells e, e))

  pub store_old : (c v k : ℕ) → Some k ≡ found_place (place_in c (log_of s).cells)
      → set s (first_value + k) v ≡ layout waiting 0 (with_store (log_of s) c v)
  unfolding with_store
  store_old c v k some =
      let e : place_in c (log_of s).cells ≡ suc k = found_place_some _ k some in
      ap (λ (x : List ℕ). set x (first_value + k) v) h.is
      ∙ (change_value (log_of s) holds_sized v k (first_value + k) (omega (arith, (found c (log_of s).cells k e).0, h.paired)) refl
      ∙ rw (once_old c (log_of s).cells k e, e))

-- ---- what a load gives

pub fresh_value : (l : Log) (c v : ℕ) → place_in c l.cells ≡ 0 → loaded l c v ≡ v
unfolding loaded
fresh_value l c v e = rw e

module _ (s : List ℕ) (h : Holds s) where
  -- the value of a cell that the run has stored stands in the slot, and nothing is read
  module _ (c k : ℕ) (some : Some k ≡ found_place (place_in c (log_of s).cells)) where
    pub own_value : (v : ℕ) → loaded (log_of s) c v ≡ get_or s (first_value + k) 0
    unfolding loaded log_of
    own_value v =
        let e : place_in c (log_of s).cells ≡ suc k = found_place_some _ k some in
        let stands : k < get_or s store_count 0 = omega (arith, (found c (log_of s).cells k e).0, cells_count s h) in
        rw (e, words_at first_value (get_or s store_count 0) s k stands)

    pub own_read : with_read (log_of s) c ≡ log_of s
    unfolding with_read
    own_read = rw (found_place_some _ k some)
