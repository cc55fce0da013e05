-- How long a sentence is whose numbers have 32 bits, so that one with a sign has at most 11 characters: none is longer than that of reason 3. The lengths
-- of the texts are computed. Assumes nothing.
use Prim.Native.Nat.{ℕ, ◌+◌, ◌-◌, ◌*◌, ◌≤◌, ◌<◌}
use mathlib.Core.Path.{◌≡◌}
use mathlib.Core.Logic.{◌⊎◌, inl, inr}
use mathlib.Core.Bool.{Bool, true, false, cond}
use mathlib.Core.List.{List, [], ◌∷◌, ◌++◌}
use native.Mathlib.Omega.{arith}
use lib.Dec.{eqb, ltb}
use lib.ListN.{length, length-append}
use borrow.Author.Tests.{ltb-true, ltb-false}
use Rattle.base.proofs.Bools.{known}
use Rattle.text.specs.Ascii.{ascii}
use Rattle.text.specs.Filled.{filled}
use Rattle.text.proofs.Decimals.{decimal_short}
use Rattle.text.proofs.Fillings.{Words, filled_short}
use Rattle.machine.specs.declared.Store.{Store}
use Rattle.causes.specs.declared.answers.Cause.{Cause}
use Rattle.sentences.specs.Sentences.{committed_line, waw_line, raw_line, raw_with_war_line, rejected_line, load_fault_line, store_fault_line, guard_fault_line}
use Rattle.sentences.specs.Sentences.{free, turned, waw, raw, raw_with_war, more_batches, again, rejected, load_fault, store_fault, longest_reason, longest_again}
use Rattle.sentences.specs.Sentences.{signed_text, then_signed, not_admitted, guard_fault}
use Rattle.guard.proofs.Laws.{half, word}
use Rattle.sentences.proofs.Signs.{no_sign, minus_sign}

abbrev pub Small : ℕ → Type 0
Small n = n < 4294967296

abbrev pub SmallCause : Cause → Type 0
SmallCause c = Small c.cell × Small c.program

-- a text; with words behind it; with another text behind it; one of two
module _ (s ns : List ℕ) (h : Words ns) where
  one_short : (m : ℕ) → length s + 10 * length ns ≤ m → length (filled s ns) ≤ m
  one_short m k = omega (arith, filled_short s ns h, k)

  then_short : (m : ℕ) → length s + 10 * length ns ≤ m → (w : List ℕ) (n : ℕ) → length w ≤ n → length (filled s ns ++ w) ≤ m + n
  then_short m k w n g = rw length-append (omega (arith, one_short m k, g))

  both_short : (t ms : List ℕ) → Words ms → length s + length t + 10 * (length ns + length ms) ≤ longest_reason
      → length (filled s ns ++ filled t ms) ≤ longest_reason
  both_short t ms g k = rw length-append (omega (arith, filled_short s ns h, filled_short t ms g, k))

  either_short : (t : List ℕ) (x : Bool) (m : ℕ) → length s + 10 * length ns ≤ m → length t + 10 * length ns ≤ m → length (filled (cond x s t) ns) ≤ m
  either_short t true m j k = omega (arith, filled_short s ns h, j)
  either_short t false m j k = omega (arith, filled_short t ns h, k)

module _ (k : ℕ) (h : Small k) where
  pub free_short : length (free k) ≤ longest_reason
  unfolding free committed_line
  free_short = both_short _ _ (omega arith) _ _ (omega arith) (omega arith)

  pub rejected_short : (code : ℕ) → Small code → length (rejected k code) ≤ longest_reason
  unfolding rejected rejected_line
  rejected_short code g = both_short _ _ (omega arith) _ _ (omega arith) (omega arith)

  module _ (place last : ℕ) (p : Small place) (l : Small last) where
    pub load_fault_short : length (load_fault k place last) ≤ longest_reason
    unfolding load_fault load_fault_line
    load_fault_short = both_short _ _ (omega arith) _ _ (omega arith) (omega arith)

    pub store_fault_short : length (store_fault k place last) ≤ longest_reason
    unfolding store_fault store_fault_line
    store_fault_short = both_short _ _ (omega arith) _ _ (omega arith) (omega arith)

  module _ (c : Cause) (s : SmallCause c) where
    pub turned_short : length (turned k c) ≤ longest_reason
    unfolding turned committed_line
    turned_short = both_short _ _ (omega arith) _ _ (omega arith) (omega arith)

    pub waw_short : length (waw k c) ≤ longest_reason
    unfolding waw waw_line
    waw_short = both_short _ _ (omega arith) _ _ (omega arith) (omega arith)

    pub raw_short : length (raw k c) ≤ longest_reason
    unfolding raw raw_line
    raw_short = both_short _ _ (omega arith) _ _ (omega arith) (omega arith)

    pub raw_with_war_short : (d : Cause) → SmallCause d → length (raw_with_war k c d) ≤ longest_reason
    unfolding raw_with_war raw_with_war_line
    raw_with_war_short d t = both_short _ _ (omega arith) _ _ (omega arith) (omega arith)

-- what comes of a carried program
more_short : (batches : ℕ) → Small batches → length (more_batches batches) ≤ 16 + 10
unfolding more_batches
more_short batches b = either_short _ _ (omega arith) _ (eqb batches 1) (16 + 10) (omega arith) (omega arith)

pub again_short : (place batches : ℕ) → Small place → Small batches → length (again place batches) ≤ longest_again
unfolding again
again_short place batches p b = then_short _ _ (omega arith) (87 + 10) (omega arith) _ (16 + 10) (more_short batches b)

-- a word as a signed number: at most a minus and ten digits
pub signed_short : (w : ℕ) → w < word → length (signed_text w) ≤ 11
signed_short w l = go (known (ltb w half))
  where
    go : (ltb w half ≡ true) ⊎ (ltb w half ≡ false) → length (signed_text w) ≤ 11
    go (inl e) = rw (no_sign w (ltb-true w half e)) (omega (arith, decimal_short w l))
    go (inr e) =
        let h = ltb-false w half e in
        rw (minus_sign w h l, length-append) (omega (arith, decimal_short (word - w) (omega arith)))

-- a store that a guard did not admit
then_signed_short : (s ns : List ℕ) (w : ℕ) → Words ns → Small w → length (then_signed s ns w) ≤ length s + 10 * length ns + 11
unfolding then_signed
then_signed_short s ns w h k = rw length-append (omega (arith, filled_short s ns h, signed_short w k))

pub guard_fault_short : (k place : ℕ) (store : Store) (low high : ℕ) → Small k → Small place → Small store.cell → Small store.value → Small low → Small high
    → length (guard_fault k place store low high) ≤ longest_reason
unfolding guard_fault guard_fault_line not_admitted
guard_fault_short k place store low high h p c v l g =
    simp length-append (omega (
      arith,
      filled_short (ascii "# faulted guard at #\n") (k ∷ place ∷ []) (h, (p, tt)),
      then_signed_short (ascii "  Its instruction #, counted from 0, stores ") (place ∷ []) store.value (p, tt) v,
      then_signed_short (ascii " to cell #, whose guard asks for at least ") (store.cell ∷ []) low (c, tt) l,
      then_signed_short (ascii " and at most ") [] high tt g,
    ))
