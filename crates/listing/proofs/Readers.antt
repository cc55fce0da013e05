-- The readers of each cell among a group of programs: a turn of each loop, and what the bits say in the end. Assumes nothing.
use mathlib.Core.Path.{◌≡◌, refl, sym, ◌∙◌, ap}
use mathlib.Core.Logic.{◌⊎◌, inl, inr, ◌≢◌}
use mathlib.Core.Bool.{Bool, true, false, cond, ◌||◌}
use mathlib.Core.List.{List, [], ◌∷◌}
use Prim.Native.Nat.{ℕ, suc, ◌+◌, ◌-◌, ◌*◌, ◌%◌, ◌^◌, ◌<◌, ◌≤◌}
use native.Mathlib.Omega.{arith}
use lib.Dec.{eqb}
use lib.Bits.{bit_or}
use lib.ListN.{length, get_or, set, replicate, length-set, length-take, get_or-replicate}
use lib.Seq.{get_or-set_same, get_or-set_other, get_or-take, get_or-drop}
use borrow.Author.Tests.{eqb-true, eqb-false}
use Rattle.std.specs.List.{All}
use Rattle.std.proofs.lemmas.List.Elements.{All-from_get_or}
use Rattle.base.specs.Words.{has, meets, words}
use Rattle.base.specs.Masks.{word_bits, has_bit, mask_of}
use Rattle.base.proofs.Bools.{known, clash}
use Rattle.base.proofs.Masks.{mask_lt, mask_start, mask_next, mask_ext, mask_none, or_masks, bit_set, bits_in}
use Rattle.image.specs.Limits.{max_programs, max_cells}
use Rattle.slot.specs.declared.ListKind.{ListKind}
use Rattle.slot.specs.declared.ListKind.TheVariants.{Stores}
use Rattle.slot.specs.declared.Group.TheVariants.{Committed}
use Rattle.area.specs.Layout.{count_at, in_group, list_of, stores_of}
use Rattle.area.specs.Checks.{Slotted}
use Rattle.listing.specs.Masks.{Out, Slots, CommittedSet}
use Rattle.listing.specs.Readers.{with_bits, bits_for, committed_reads, reads_stored, Octet, ReadersOf, SetIn, Added, Blockers}
use Rattle.listing.proofs.Taken.{without_is, without_else}
use Rattle.listing.proofs.Masks.{bit_below, none_in}

-- ---- the cells of a program

module _ (T k : ℕ) (a : List ℕ) where
  pub list_cells : Slotted T k a → (l : ListKind) → All (λ c. c < max_cells) (list_of l T k a)
  unfolding list_of words
  list_cells s l =
      All-from_get_or (λ c. c < max_cells) _ 0
      (λ i h. let inside : i < get_or a (count_at l T k) 0 = omega (arith, simp length-take at h) in
      rw (get_or-take, get_or-drop) (omega (arith, s.inside l i inside, s.lies.cells_few)))

pub slots_below : (T n : ℕ) (a : List ℕ) (m : ℕ) → Slots a T n → m ≤ n → Slots a T m
slots_below T n a m s h = record { few = omega (arith, s.few); slotted = λ k l. s.slotted k (omega arith) }

-- the committed programs have slots
pub committed_in : (T n all : ℕ) (a : List ℕ) → Slots a T n → CommittedSet T n all a → SetIn T all a
committed_in T n all a s e =
    record {
      slotted = λ i d. s.slotted i (bit_below n (mask_of (in_group Committed T a) n) i (mask_lt (in_group Committed T a) n) (rw e.all_are at d));
    }

-- ---- one reader more

pub bits_length : (bits : ℕ) (cells readers : List ℕ) → length (with_bits bits cells readers) ≡ length readers
bits_length bits [] readers = refl
bits_length bits (x ∷ xs) readers =
    bits_length bits xs (set readers x (bit_or (get_or readers x 0) bits)) ∙ length-set readers x (bit_or (get_or readers x 0) bits)

-- a cell's bit is set where it was, and where the cell is in the list
bit_of_cell : (m j c : ℕ) → m < 2 ^ j → (cells readers : List ℕ) → c < length readers → (b : Bool) → get_or readers c 0 ≡ m + cond b (2 ^ j) 0
    → get_or (with_bits (2 ^ j) cells readers) c 0 ≡ m + cond (b || has c cells) (2 ^ j) 0
unfolding has
bit_of_cell m j c l [] readers h b e = e ∙ go b
  where
    go : (b : Bool) → m + cond b (2 ^ j) 0 ≡ m + cond (b || false) (2 ^ j) 0
    go true = refl
    go false = refl
bit_of_cell m j c l (x ∷ xs) readers h b e =
    go (known (eqb c x)) (bit_of_cell m j c l xs (set readers x (bit_or (get_or readers x 0) (2 ^ j))) (rw length-set h))
  where
    next : List ℕ
    next = set readers x (bit_or (get_or readers x 0) (2 ^ j))

    or_true : (b : Bool) → b || true ≡ true
    or_true true = refl
    or_true false = refl

    go : (eqb c x ≡ true) ⊎ (eqb c x ≡ false)
        → ((b : Bool) → get_or next c 0 ≡ m + cond b (2 ^ j) 0 → get_or (with_bits (2 ^ j) xs next) c 0 ≡ m + cond (b || has c xs) (2 ^ j) 0)
        → get_or (with_bits (2 ^ j) xs next) c 0 ≡ m + cond (b || (eqb c x || has c xs)) (2 ^ j) 0
    go (inl q) ih =
        let z = eqb-true c x q in
        let f : get_or next c 0 ≡ m + 2 ^ j =
        rw (← z) (get_or-set_same readers c (bit_or (get_or readers c 0) (2 ^ j)) 0 h ∙ rw e (bit_set m j b l)) in
        ih true f ∙ rw (q, or_true b)
    go (inr q) ih = rw q (ih b (get_or-set_other readers x c (bit_or (get_or readers x 0) (2 ^ j)) 0 (eqb-false c x q) ∙ e))

module _ (reads : ℕ → List ℕ) (start : ℕ) where
  pub readers_start : ReadersOf reads start start (replicate max_cells 0)
  readers_start =
      let e : start - start ≡ 0 = omega arith in
      record { long = refl; bits = λ c h. get_or-replicate {A = ℕ} max_cells c 0 0 h ∙ rw e (sym (mask_start _)) }

  pub readers_next : (k : ℕ) (readers : List ℕ) → start ≤ k → ReadersOf reads start k readers
      → ReadersOf reads start (k + 1) (with_bits (2 ^ (k - start)) (reads k) readers)
  readers_next k readers h r =
      let e : k - start + 1 ≡ k + 1 - start = omega arith in
      let f : k ≡ start + (k - start) = omega arith in
      record {
        long = bits_length (2 ^ (k - start)) (reads k) readers ∙ r.long;
        bits = λ c l.
            bit_of_cell (mask_of (λ i. has c (reads (start + i))) (k - start)) (k - start) c (mask_lt (λ i. has c (reads (start + i))) (k - start))
            (reads k) readers (omega (arith, r.long)) false (r.bits c l ∙ omega arith)
            ∙ mask_next (λ i. has c (reads (start + i))) (k - start) _ (has c (reads k)) refl (ap (λ (x : ℕ). has c (reads x)) f)
            ∙ ap (mask_of (λ i. has c (reads (start + i)))) e;
      }

-- ---- the bits of a list's cells are the programs whose reads it meets

module _ (reads : ℕ → List ℕ) (start end : ℕ) (readers : List ℕ) (r : ReadersOf reads start end readers) where
  found_more : (p : ℕ → Bool) (found : ℕ) (cells : List ℕ) → All (λ c. c < max_cells) cells → found ≡ mask_of p (end - start)
      → bits_for readers found cells ≡ mask_of (λ k. p k || meets cells (reads (start + k))) (end - start)
  unfolding meets has
  found_more p found [] small e = e ∙ mask_ext p (λ k. p k || false) (end - start) (λ k h. go (p k))
    where
      go : (b : Bool) → b ≡ b || false
      go true = refl
      go false = refl
  found_more p found (x ∷ xs) small e =
      found_more (λ k. p k || has x (reads (start + k))) (bit_or found (get_or readers x 0)) xs (λ k d h. small (suc k) d (omega arith))
      (rw (e, r.bits x (small 0 x (omega arith))) (or_masks p (λ k. has x (reads (start + k))) (end - start)))
      ∙ mask_ext _ _ (end - start) (λ k h. regroup (p k) (has x (reads (start + k))) (meets xs (reads (start + k))))
    where
      regroup : (a b d : Bool) → (a || b) || d ≡ a || (b || d)
      regroup true b d = refl
      regroup false b d = refl

  pub found_is : (cells : List ℕ) → All (λ c. c < max_cells) cells
      → bits_for readers 0 cells ≡ mask_of (λ k. meets cells (reads (start + k))) (end - start)
  found_is cells small = found_more (λ k. false) 0 cells small (sym (mask_none (λ k. false) (end - start) (λ k h. refl)))

-- ---- the entries of the committed programs

pub blockers_start : (T programs : ℕ) (a : List ℕ) → programs < 2 ^ word_bits → Blockers T programs 0 a (replicate max_programs 0)
blockers_start T programs a h =
    record {
      long = refl;
      entry = λ i e. get_or-replicate {A = ℕ} max_programs i 0 0 (bit_below word_bits programs i h e) ∙ sym (mask_start (reads_stored T a i));
    }

-- the group's programs are added
pub blockers_next : (T programs start end : ℕ) (a readers before after : List ℕ) → SetIn T programs a → Octet start end → end ≤ max_programs
    → ReadersOf (committed_reads T a) start end readers → Blockers T programs start a before → Added T programs start a readers before after
    → Blockers T programs end a after
unfolding reads_stored
blockers_next T programs start end a readers before after s g few r b d =
    record {
      long = d.long;
      entry = λ i e.
          let f : start + (end - start) ≡ end = omega (arith, g.not_empty) in
          d.more i e
          ∙ rw (b.entry i e, found_is (committed_reads T a) start end readers r (stores_of T i a) (list_cells T i a (s.slotted i e) Stores))
          (bits_in (reads_stored T a i) start (end - start) (omega (arith, g.not_empty))
          ∙ ap (mask_of (reads_stored T a i)) f);
    }

-- those that are not in the rest have the group's bits, the others are as they were
pub record Adding (T programs start : ℕ) (a readers before : List ℕ) (rest : ℕ) (l : List ℕ) : Type 0 where
  pub part : (k : ℕ) → has_bit rest k ≡ true → has_bit programs k ≡ true
  pub long : length l ≡ max_programs
  pub done : (k : ℕ) → has_bit programs k ≡ true → has_bit rest k ≡ false
      → get_or l k 0 ≡ bit_or (get_or before k 0) ((bits_for readers 0 (stores_of T k a) * 2 ^ start) % 2 ^ word_bits)
  pub still : (k : ℕ) → has_bit rest k ≡ true → get_or l k 0 ≡ get_or before k 0

module _ {T programs start : ℕ} {a readers before : List ℕ} {rest : ℕ} {l : List ℕ} (t : Adding T programs start a readers before rest l) where
  pub adding_end : rest ≡ 0 → Added T programs start a readers before l
  adding_end e = record { long = t.long; more = λ i d. t.done i d (none_in rest i e) }

  pub adding_next : {i rest' found v : ℕ} → Out rest i rest' → found ≡ bits_for readers 0 (stores_of T i a) → v ≡ (found * 2 ^ start) % 2 ^ word_bits
      → Adding T programs start a readers before rest' (set l i (bit_or (get_or l i 0) v))
  adding_next {i} {rest'} {found} {v} o f e =
      record {
        part = λ k b. t.part k (inside k b).0;
        long = length-set l i new ∙ t.long;
        done = λ k d b. go k d (without_else i (has_bit rest) k (sym (o.others k) ∙ b));
        still = λ k b. let w = inside k b in get_or-set_other l i k new 0 w.1 ∙ t.still k w.0;
      }
    where
      new : ℕ
      new = bit_or (get_or l i 0) v

      inside : (k : ℕ) → has_bit rest' k ≡ true → (has_bit rest k ≡ true) × (k ≢ i)
      inside k b = without_is i (has_bit rest) k (sym (o.others k) ∙ b)

      go : (k : ℕ) → has_bit programs k ≡ true → (k ≡ i) ⊎ (has_bit rest k ≡ false)
          → get_or (set l i new) k 0 ≡ bit_or (get_or before k 0) ((bits_for readers 0 (stores_of T k a) * 2 ^ start) % 2 ^ word_bits)
      go k d (inl q) = rw (q, get_or-set_same l i new 0 (omega (arith, t.long, o.few)), t.still i o.smallest.member, e, f)
      go k d (inr q) = get_or-set_other l i k new 0 (λ z. clash o.smallest.member (rw z at q)) ∙ t.done k d q
