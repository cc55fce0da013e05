-- The area read as marks and slots: together they are the whole, and everything about a program stands in its slot. Assumes nothing.
use Prim.Native.Nat.{ℕ, zero, suc, ◌+◌, ◌-◌, ◌≤◌, ◌<◌}
use mathlib.Core.Path.{◌≡◌, sym, ap, ◌∙◌}
use mathlib.Core.List.{List}
use native.Mathlib.Omega.{arith}
use native.Mathlib.Decide.{dec_lt}
use lib.ListN.{length, get_or}
use lib.Seq.{ext_get_or}
use Rattle.base.specs.Words.{words}
use Rattle.base.proofs.Parts.{words_length, words_at, words_agree, words_in}
use Rattle.slot.specs.declared.ListKind.{ListKind}
use Rattle.slot.specs.declared.ListKind.TheVariants.{Reads, Stores}
use Rattle.slot.specs.Layout.{state_word, detail_word, list_words, first_value, count_word, first_word, slot_words}
use Rattle.slot.specs.Log.{log_of}
use Rattle.slot.proofs.ListKinds.{count_low, list_lies}
use Rattle.area.specs.declared.MarkKind.{MarkKind}
use Rattle.area.specs.declared.MarkKind.TheVariants.{Write, Read}
use Rattle.area.specs.Layout.{area_words, marks_at, first_slot, slot_start, state_at, count_at, state_of, detail_of, slot_at, list_of, reads_of}
use Rattle.area.specs.Layout.{stores_of, values_of}

-- ---- the kinds of marks

-- a fact of both kinds
pub each_mark : (P : MarkKind → Type 0) → P Write → P Read → (m : MarkKind) → P m
each_mark P w r Write = w
each_mark P w r Read = r

-- marks stand before the slots, and those of two kinds do not overlap
pub marks_low : (T : ℕ) (m : MarkKind) → marks_at m T + T ≤ first_slot T
marks_low T = each_mark _ (omega arith) (omega arith)

-- ---- marks and slots are the whole area

-- a word after the marks stands in some slot
in_slot : (T n i : ℕ) → first_slot T ≤ i → i < area_words T n
    → (k : ℕ) × (k < n) × (i - slot_start T k < slot_words) × (slot_start T k + (i - slot_start T k) ≡ i)
in_slot T zero i h l = absurd (omega arith)
in_slot T (suc n) i h l = go (dec_lt i (slot_start T n)) (in_slot T n i h)
  where
    go : Dec (i < slot_start T n)
        → (i < area_words T n → (k : ℕ) × (k < n) × (i - slot_start T k < slot_words) × (slot_start T k + (i - slot_start T k) ≡ i))
        → (k : ℕ) × (k < suc n) × (i - slot_start T k < slot_words) × (slot_start T k + (i - slot_start T k) ≡ i)
    go (yes p) f = let w = f p in (w.0, omega (arith, w.1), w.2, w.3)
    go (no p) f = (n, omega arith, omega arith, omega arith)

pub area_ext : (T n : ℕ) (a b : List ℕ) → length a ≡ area_words T n → length b ≡ area_words T n
    → ((m : MarkKind) → words (marks_at m T) T a ≡ words (marks_at m T) T b) → ((k : ℕ) → k < n → slot_at T k a ≡ slot_at T k b) → a ≡ b
unfolding slot_at
area_ext T n a b la lb w s =
    ext_get_or 0 a b (la ∙ sym lb) (λ i l. go i (omega (arith, la)) (dec_lt i T) (dec_lt i (first_slot T)))
  where
    at : (p m : ℕ) → words p m a ≡ words p m b → (i j : ℕ) → j < m → p + j ≡ i → get_or a i 0 ≡ get_or b i 0
    at p m e i j l q = rw q at (words_agree p m a b e j l)

    go : (i : ℕ) → i < area_words T n → Dec (i < T) → Dec (i < first_slot T) → get_or a i 0 ≡ get_or b i 0
    go i l (yes p) d = at (marks_at Write T) T (w Write) i i p (omega arith)
    go i l (no p) (yes q) = at (marks_at Read T) T (w Read) i (i - T) (omega arith) (omega arith)
    go i l (no p) (no q) =
        let k = in_slot T n i (omega arith) l in
        at (slot_start T k.0) slot_words (s k.0 k.1) i (i - slot_start T k.0) k.2 k.3

-- ---- what stands in a slot

pub slot_word : (T k : ℕ) (a : List ℕ) (i : ℕ) → i < slot_words → get_or (slot_at T k a) i 0 ≡ get_or a (slot_start T k + i) 0
unfolding slot_at
slot_word T k a i l = words_at (slot_start T k) slot_words a i l

pub slot_sized : (T k : ℕ) (a : List ℕ) → slot_start T k + slot_words ≤ length a → length (slot_at T k a) ≡ slot_words
unfolding slot_at
slot_sized T k a lies = words_length (slot_start T k) slot_words a lies

module _ (T k : ℕ) (a : List ℕ) where
  pub state_in_slot : state_of T k a ≡ get_or (slot_at T k a) state_word 0
  unfolding state_of
  state_in_slot = let e : slot_start T k + state_word ≡ state_at T k = omega arith in sym (rw e at (slot_word T k a state_word (omega arith)))

  pub detail_in_slot : detail_of T k a ≡ get_or (slot_at T k a) detail_word 0
  unfolding detail_of
  detail_in_slot = sym (slot_word T k a detail_word (omega arith))

  pub count_in_slot : (l : ListKind) → get_or a (count_at l T k) 0 ≡ get_or (slot_at T k a) (count_word l) 0
  count_in_slot l = sym (slot_word T k a (count_word l) (count_low l).1)

  -- a list of the slot, of as many words as there is room for
  words_in_slot : (at count n : ℕ) → at + list_words ≤ slot_words → count ≤ list_words → count ≡ n
      → words (slot_start T k + at) count a ≡ words at n (slot_at T k a)
  unfolding slot_at
  words_in_slot at count n room few e =
      sym (words_in (slot_start T k) slot_words at count a (omega arith)) ∙ ap (λ (m : ℕ). words at m (words (slot_start T k) slot_words a)) e

  module _ (few : (l : ListKind) → get_or a (count_at l T k) 0 ≤ list_words) where
    pub list_in_slot : (l : ListKind) → list_of l T k a ≡ words (first_word l) (get_or (slot_at T k a) (count_word l) 0) (slot_at T k a)
    unfolding list_of
    list_in_slot l = words_in_slot (first_word l) _ _ (list_lies l).1 (few l) (count_in_slot l)

    values_in_slot : values_of T k a ≡ words first_value (get_or (slot_at T k a) (count_word Stores) 0) (slot_at T k a)
    unfolding values_of
    values_in_slot = words_in_slot first_value _ _ (omega arith) (few Stores) (count_in_slot Stores)

    -- the log that the slot holds is the program's lists
    pub log_in_slot : log_of (slot_at T k a) ≡ record { reads = reads_of T k a; cells = stores_of T k a; values = values_of T k a }
    unfolding log_of
    log_in_slot = rw (list_in_slot Reads, list_in_slot Stores, values_in_slot)
