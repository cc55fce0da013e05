-- Each change keeps what check 7 asks, and with it all that the checks 1 to 7 have shown: a whole batch has to check once. Assumes nothing.
use Prim.Native.Nat.{ℕ, ◌+◌, ◌≤◌, ◌<◌}
use mathlib.Core.Path.{◌≡◌, sym, subst, ◌∙◌}
use mathlib.Core.Bool.{true}
use mathlib.Core.List.{List, [], ◌∷◌}
use native.Mathlib.Omega.{arith}
use native.Mathlib.Decide.{dec_lt, ℕ_discrete}
use lib.ListN.{length, get_or, set, replicate, length-replicate}
use lib.Seq.{get_or-set_same, get_or-set_other, set_out}
use Rattle.base.specs.Words.{has, words}
use Rattle.base.proofs.Parts.{words_agree}
use Rattle.image.specs.Refusals.{passed}
use Rattle.image.specs.Image.{count_of}
use Rattle.slot.specs.States.{last_state}
use Rattle.slot.specs.Layout.{state_word, detail_word, count_word, first_word, slot_words}
use Rattle.slot.proofs.ListKinds.{count_low, list_lies}
use Rattle.slot.proofs.Slots.{zeros_at}
use Rattle.area.specs.declared.MarkKind.{MarkKind}
use Rattle.area.specs.Layout.{area_words, marks_at, slot_start, slot_at, with_slot, with_state}
use Rattle.area.specs.Marks.{mark_of, lower, reserve}
use Rattle.area.specs.Checks.{open_refusal, Checked}
use Rattle.area.proofs.Views.{slot_word, slot_sized}
use Rattle.area.proofs.Changes.{slot_own, slot_other, slot_marks, state_own, state_other, state_marks, reserve_slot}
use Rattle.area.proofs.MarkBounds.{lower_few}
use Rattle.area.proofs.Checks.{SlotPassed, Passed, passed_good, open_shows, few}

same_passed : (T : ℕ) (s s' : List ℕ) → s' ≡ s → SlotPassed T s → SlotPassed T s'
same_passed T s s' e p = subst (λ (x : List ℕ). SlotPassed T x) (sym e) p

same_few : (p T n : ℕ) (a b : List ℕ) → words p T b ≡ words p T a → ((c : ℕ) → c < T → get_or a (p + c) 0 ≤ n) → (c : ℕ) → c < T
    → get_or b (p + c) 0 ≤ n
same_few p T n a b e h c l = omega (arith, words_agree p T b a e c l, h c l)

-- the slots where only slot k changes
one_slot : (T n k : ℕ) (a b : List ℕ) → SlotPassed T (slot_at T k b) → ((j : ℕ) → j < n → (j ≡ k → ⊥) → slot_at T j b ≡ slot_at T j a)
    → ((j : ℕ) → j < n → SlotPassed T (slot_at T j a)) → (j : ℕ) → j < n → SlotPassed T (slot_at T j b)
one_slot T n k a b own other slots j l = go (ℕ_discrete j k)
  where
    go : Dec (j ≡ k) → SlotPassed T (slot_at T j b)
    go (yes e) = rw e own
    go (no e) = same_passed T (slot_at T j a) (slot_at T j b) (other j l e) (slots j l)

-- ---- a slot that is put in

pub slot_keeps : (T n k : ℕ) (s a : List ℕ) → length s ≡ slot_words → length a ≡ area_words T n → k < n → SlotPassed T s → Passed T n a
    → Passed T n (with_slot T k s a)
slot_keeps T n k s a full sized l g p =
    record {
      marks = λ m. same_few (marks_at m T) T n a (with_slot T k s a) (slot_marks T n k s a full sized l m) (p.marks m);
      slots =
          one_slot T n k a (with_slot T k s a) (same_passed T s (slot_at T k (with_slot T k s a)) (slot_own T n k s a full sized l) g)
          (slot_other T n k s a full sized l) p.slots;
    }

-- ---- a state and a detail

state_passed : (T state detail : ℕ) (s : List ℕ) → length s ≡ slot_words → state ≤ last_state → SlotPassed T s
    → SlotPassed T (set (set s state_word state) detail_word detail)
state_passed T state detail s full few p =
    record {
      state_few =
          omega (
            arith,
            get_or-set_other (set s state_word state) detail_word state_word detail 0 (λ e. omega arith),
            get_or-set_same s state_word state 0 (omega arith),
          );
      few_cells = λ l. rw (after (count_word l) (count_low l).0) (p.few_cells l);
      cells_in = λ l i h.
          rw (after (first_word l + i) (omega (arith, (list_lies l).0))) (p.cells_in l i (rw (after (count_word l) (count_low l).0) at h));
    }
  where
    after : (i : ℕ) → detail_word < i → get_or (set (set s state_word state) detail_word detail) i 0 ≡ get_or s i 0
    after i h =
        get_or-set_other (set s state_word state) detail_word i detail 0 (λ e. omega arith) ∙ get_or-set_other s state_word i state 0 (λ e. omega arith)

pub state_keeps : (T n k state detail : ℕ) (a : List ℕ) → length a ≡ area_words T n → k < n → state ≤ last_state → Passed T n a
    → Passed T n (with_state T k state detail a)
state_keeps T n k state detail a sized l few p =
    let full : length (slot_at T k a) ≡ slot_words = slot_sized T k a (omega arith) in
    let own : SlotPassed T (slot_at T k (with_state T k state detail a)) =
    same_passed T _ _ (state_own T k state detail a) (state_passed T state detail (slot_at T k a) full few (p.slots k l)) in
    record {
      marks = λ m. same_few (marks_at m T) T n a (with_state T k state detail a) (state_marks T k state detail a m) (p.marks m);
      slots = one_slot T n k a (with_state T k state detail a) own (λ j h q. state_other T k state detail a j q) p.slots;
    }

-- ---- reservations

set_few : (a : List ℕ) (i v n j : ℕ) → v ≤ n → get_or a j 0 ≤ n → get_or (set a i v) j 0 ≤ n
set_few a i v n j h g = go (ℕ_discrete j i) (dec_lt i (length a))
  where
    go : Dec (j ≡ i) → Dec (i < length a) → get_or (set a i v) j 0 ≤ n
    go (no q) d = omega (arith, get_or-set_other a i j v 0 q)
    go (yes q) (yes l) = rw q (omega (arith, get_or-set_same a i v 0 l))
    go (yes q) (no l) = rw (set_out a i v (omega arith)) g

reserve_few : (at k n j : ℕ) (cs a : List ℕ) → k < n → get_or a j 0 ≤ n → get_or (reserve at cs k a) j 0 ≤ n
unfolding reserve
reserve_few at k n j [] a l h = h
reserve_few at k n j (c ∷ cs) a l h =
    let v : ℕ = lower (get_or a (at + c) 0) (mark_of k) in
    reserve_few at k n j cs (set a (at + c) v) l (set_few a (at + c) v n j (omega (arith, lower_few (get_or a (at + c) 0) (mark_of k))) h)

pub reserve_keeps : (T n k : ℕ) (m : MarkKind) (cs a : List ℕ) → k < n → ((c : ℕ) → has c cs ≡ true → c < T) → Passed T n a
    → Passed T n (reserve (marks_at m T) cs k a)
reserve_keeps T n k m cs a l f p =
    record {
      marks = λ q c h. reserve_few (marks_at m T) k n (marks_at q T + c) cs a l (p.marks q c h);
      slots = λ j h. same_passed T _ _ (reserve_slot T k cs a f m j) (p.slots j h);
    }

-- ---- an area of zeros

pub zeros_pass : (T n m : ℕ) → Passed T n (replicate m 0)
zeros_pass T n m =
    record {
      marks = λ q c l. omega (arith, zeros_at m (marks_at q T + c));
      slots = λ k l. record {
        state_few = omega (arith, zero_word k state_word (omega arith));
        few_cells = λ q. omega (arith, zero_word k (count_word q) (count_low q).1);
        cells_in = λ q i h. absurd (omega (arith, zero_word k (count_word q) (count_low q).1));
      };
    }
  where
    zero_word : (k i : ℕ) → i < slot_words → ◌≡◌ {A = ℕ} (get_or (slot_at T k (replicate m 0)) i 0) 0
    zero_word k i h = slot_word T k (replicate m 0) i h ∙ zeros_at m (slot_start T k + i)

-- ---- what the checks 1 to 7 have shown

-- of another area of the same size that passes, and of another table of the same size
pub checked_area : (image t a b : List ℕ) → Checked image t a → length b ≡ length a → Passed (length t) (count_of image) b → Checked image t b
checked_area image t a b c e p =
    record {
      accepted = c.accepted;
      programs = c.programs;
      cells_some = c.cells_some;
      cells_few = c.cells_few;
      sized = e ∙ c.sized;
      good = passed_good (length t) (count_of image) b p;
    }

pub checked_table : (image t u a : List ℕ) → Checked image t a → length u ≡ length t → Checked image u a
checked_table image t u a c e =
    record {
      accepted = c.accepted;
      programs = c.programs;
      cells_some = omega (arith, c.cells_some);
      cells_few = omega (arith, c.cells_few);
      sized = rw e c.sized;
      good = rw e c.good;
    }

-- an area that opening has set to 0
pub checked_open : (image t g a : List ℕ) → open_refusal image t g a ≡ passed → Checked image t (replicate (length a) 0)
checked_open image t g a e =
    let r = open_shows image t g a e in
    record {
      accepted = r.accepted;
      programs = few image r.accepted;
      cells_some = r.cells_some;
      cells_few = r.cells_few;
      sized = length-replicate (length a) 0 ∙ r.sized;
      good = passed_good (length t) (count_of image) (replicate (length a) 0) (zeros_pass (length t) (count_of image) (length a));
    }
