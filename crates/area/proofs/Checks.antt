-- Checks 1 to 7: what an area that passes has, in plain facts. Assumes nothing.
use Prim.Native.Nat.{ℕ, ◌+◌, ◌≤◌, ◌<◌}
use mathlib.Core.Path.{◌≡◌, refl, sym}
use mathlib.Core.Bool.{true, ◌&&◌}
use mathlib.Core.List.{List}
use native.Mathlib.Omega.{arith}
use lib.ListN.{length, get_or}
use lib.Dec.{ltb, leb}
use borrow.Author.Tests.{lt-ltb, le-leb, eq-eqb, ltb-true, leb-true, eqb-true}
use Rattle.base.proofs.Bools.{and_both, both_and}
use Rattle.base.proofs.Numbers.{every_at, every_from}
use Rattle.base.proofs.Members.{has_get_or}
use Rattle.image.specs.Limits.{max_programs, min_cells, max_cells}
use Rattle.image.specs.declared.refusals.Refusal.TheVariants as refusal
use Rattle.image.specs.Refusals.{passed}
use Rattle.image.specs.Image.{count_of, refusal_of, image_checks}
use Rattle.image.proofs.Laws.{accepted, few_programs_lem}
use Rattle.image.proofs.Refusing.{goes_on, none_fails, none_after, first_passes, given_passed, passed_given, checking}
use Rattle.guard.specs.Guards.{guard_words, pairs_for}
use Rattle.slot.specs.declared.ListKind.{ListKind}
use Rattle.slot.specs.declared.ListKind.TheVariants.{Reads, Stores}
use Rattle.slot.specs.States.{last_state}
use Rattle.slot.specs.Layout.{state_word, list_words, count_word, first_word}
use Rattle.slot.specs.Log.{Log, cells_of, layout, Fits}
use Rattle.slot.proofs.ListKinds.{each_kind, list_lies}
use Rattle.slot.proofs.Slots.{layout_state, layout_count, layout_list}
use Rattle.area.specs.declared.MarkKind.{MarkKind}
use Rattle.area.specs.declared.MarkKind.TheVariants.{Write, Read}
use Rattle.area.specs.Layout.{area_words, marks_at, slot_start, state_of, count_at, list_at, slot_at}
use Rattle.area.specs.Checks.{table_good, size_is, all_below, marks_good, state_good, list_good, slot_good, slots_good, words_good}
use Rattle.area.specs.Checks.{room_refusal, open_refusal, call_refusal, Checked, Paired, Measured, HasSlot, Slotted}
use Rattle.area.proofs.Views.{each_mark, slot_word, state_in_slot, count_in_slot}

-- ---- checks 1 to 6 with 14 among them, and 7

pub few : (image : List ℕ) → refusal_of image ≡ passed → count_of image ≤ max_programs
few image e = few_programs_lem image (accepted image e).header

pub few_cells : (t : List ℕ) → table_good t ≡ true → (min_cells ≤ length t) × (length t ≤ max_cells)
unfolding table_good
few_cells t e = let c = and_both (leb min_cells (length t)) (leb (length t) max_cells) e in (leb-true _ _ c.0, leb-true _ _ c.1)

-- what 5, 14 and 6 show of table, guards and area, after 1 to 4
pub record Room (image t g a : List ℕ) : Type 0 where
  pub accepted : refusal_of image ≡ passed
  pub cells_some : 0 < length t
  pub cells_few : length t ≤ max_cells
  pub pairs : Paired t g
  pub sized : length a ≡ area_words (length t) (count_of image)

module _ (image t g a : List ℕ) where
  pub open_shows : open_refusal image t g a ≡ passed → Room image t g a
  unfolding open_refusal room_refusal pairs_for size_is
  open_shows e =
      let w = none_after (image_checks image) _ e in
      let s = none_fails (table_good t) refusal.TableSize _ w.1 in
      let p = none_fails (pairs_for (length t) g) refusal.Guards _ s.1 in
      let z = none_fails (size_is (length t) (count_of image) a) refusal.AreaSize _ p.1 in
      let c = few_cells t s.0 in
      record {
        accepted = passed_given refusal.Image (refusal_of image) w.0;
        cells_some = c.0;
        cells_few = c.1;
        pairs = eqb-true _ _ p.0;
        sized = eqb-true _ _ z.0;
      }

  -- no refusal is exactly what `Checked` and `Paired` say
  pub checked : call_refusal image t g a ≡ passed → Checked image t a
  unfolding call_refusal
  checked e =
      let w = none_after (open_refusal image t g a) _ e in
      let words = none_fails (words_good (length t) (count_of image) a) refusal.Area _ w.1 in
      let r = open_shows w.0 in
      record {
        accepted = r.accepted;
        programs = few image r.accepted;
        cells_some = r.cells_some;
        cells_few = r.cells_few;
        sized = r.sized;
        good = words.0;
      }

  pub paired : call_refusal image t g a ≡ passed → Paired t g
  unfolding call_refusal
  paired e = (open_shows (none_after (open_refusal image t g a) _ e).0).pairs

  open_is : Checked image t a → Paired t g → open_refusal image t g a ≡ passed
  unfolding open_refusal room_refusal table_good pairs_for size_is
  open_is c p =
      sym (first_passes refl (given_passed refusal.Image c.accepted)
      (goes_on _ (both_and (le-leb min_cells (length t) c.cells_some) (le-leb (length t) max_cells c.cells_few))
      (goes_on _ (eq-eqb (length g) (guard_words (length t)) p)
      (goes_on _ (eq-eqb (length a) (area_words (length t) (count_of image)) c.sized) refl))))

  pub checked_is : Checked image t a → Paired t g → call_refusal image t g a ≡ passed
  unfolding call_refusal
  checked_is c p = sym (first_passes refl (open_is c p) (goes_on _ c.good refl))

-- ---- check 7, in plain facts

-- What it asks of the words of a slot.
pub record SlotPassed (T : ℕ) (s : List ℕ) : Type 0 where
  pub state_few : get_or s state_word 0 ≤ last_state
  pub few_cells : (l : ListKind) → get_or s (count_word l) 0 ≤ list_words
  pub cells_in : (l : ListKind) (i : ℕ) → i < get_or s (count_word l) 0 → get_or s (first_word l + i) 0 < T

-- What it asks of the area: of every mark, and of every slot.
pub record Passed (T n : ℕ) (a : List ℕ) : Type 0 where
  pub marks : (m : MarkKind) (c : ℕ) → c < T → get_or a (marks_at m T + c) 0 ≤ n
  pub slots : (k : ℕ) → k < n → SlotPassed T (slot_at T k a)

module _ (bound at count : ℕ) (a : List ℕ) where
  below_at : all_below bound at count a ≡ true → (i : ℕ) → i < count → get_or a (at + i) 0 < bound
  unfolding all_below
  below_at e i h = ltb-true _ _ (every_at count (λ q. ltb (get_or a (at + q) 0) bound) e i h)

  at_below : ((i : ℕ) → i < count → get_or a (at + i) 0 < bound) → all_below bound at count a ≡ true
  unfolding all_below
  at_below h = every_from count (λ i. ltb (get_or a (at + i) 0) bound) (λ i l. lt-ltb _ _ (h i l))

module _ (T k : ℕ) (a : List ℕ) where
  -- the words of a list of the slot, where they lie in the area
  list_word : (l : ListKind) (i : ℕ) → i < list_words → get_or (slot_at T k a) (first_word l + i) 0 ≡ get_or a (list_at l T k + i) 0
  list_word l i h =
      let e : slot_start T k + (first_word l + i) ≡ list_at l T k + i = omega arith in
      rw e at (slot_word T k a (first_word l + i) (omega (arith, (list_lies l).1)))

  good_count : (l : ListKind) → list_good l T k a ≡ true → get_or a (count_at l T k) 0 ≤ list_words
  unfolding list_good
  good_count l g = leb-true _ _ (and_both (leb (get_or a (count_at l T k) 0) list_words) _ g).0

  good_cells : (l : ListKind) → list_good l T k a ≡ true → (i : ℕ) → i < get_or a (count_at l T k) 0 → get_or a (list_at l T k + i) 0 < T
  unfolding list_good
  good_cells l g = below_at T (list_at l T k) (get_or a (count_at l T k) 0) a (and_both (leb (get_or a (count_at l T k) 0) list_words) _ g).1

  slot_passed : slot_good T k a ≡ true → SlotPassed T (slot_at T k a)
  unfolding slot_good
  slot_passed e =
      let w = and_both (state_good T k a && list_good Reads T k a) (list_good Stores T k a) e in
      let v = and_both (state_good T k a) (list_good Reads T k a) w.0 in
      let good : (l : ListKind) → list_good l T k a ≡ true = each_kind (λ l. list_good l T k a ≡ true) v.1 w.1 in
      record {
        state_few = omega (arith, leb-true (state_of T k a) last_state v.0, state_in_slot T k a);
        few_cells = λ l. omega (arith, good_count l (good l), count_in_slot T k a l);
        cells_in = λ l i h.
            let m : i < get_or a (count_at l T k) 0 = omega (arith, count_in_slot T k a l) in
            omega (arith, list_word l i (omega (arith, good_count l (good l))), good_cells l (good l) i m);
      }

  module _ (p : SlotPassed T (slot_at T k a)) where
    pub count_few : (l : ListKind) → get_or a (count_at l T k) 0 ≤ list_words
    count_few l = omega (arith, count_in_slot T k a l, p.few_cells l)

    list_in : (l : ListKind) (i : ℕ) → i < get_or a (count_at l T k) 0 → get_or a (list_at l T k + i) 0 < T
    list_in l i h = omega (arith, list_word l i (omega (arith, count_few l)), p.cells_in l i (omega (arith, count_in_slot T k a l)))

    passed_list : (l : ListKind) → list_good l T k a ≡ true
    unfolding list_good
    passed_list l =
        both_and (le-leb _ _ (count_few l)) (at_below T (list_at l T k) (get_or a (count_at l T k) 0) a (list_in l))

    passed_slot : slot_good T k a ≡ true
    unfolding slot_good
    passed_slot =
        both_and
        (both_and (le-leb (state_of T k a) last_state (omega (arith, state_in_slot T k a, p.state_few))) (passed_list Reads))
        (passed_list Stores)

    pub slotted : HasSlot T k a → Slotted T k a
    slotted lies = record { lies = lies; few = count_few; inside = list_in }

-- a slot that holds a log which fits passes
pub layout_passed : (T state detail : ℕ) (l : Log) → Fits T l → state ≤ last_state → SlotPassed T (layout state detail l)
layout_passed T state detail l f few =
    record {
      state_few = rw (layout_state state detail l) few;
      few_cells = λ k. rw (layout_count state detail l k) (f.few k);
      cells_in = λ k i h.
          let m : i < length (cells_of k l) = rw (layout_count state detail l k) at h in
          rw (layout_list state detail l T f k i (omega (arith, f.few k))) (f.inside k (get_or (cells_of k l) i 0) (has_get_or (cells_of k l) i m));
    }

module _ (T n : ℕ) (a : List ℕ) where
  pub good_passed : words_good T n a ≡ true → Passed T n a
  unfolding words_good slots_good
  good_passed good =
      let w = and_both (marks_good Write T n a && marks_good Read T n a) (slots_good T n a) good in
      let v = and_both (marks_good Write T n a) (marks_good Read T n a) w.0 in
      record {
        marks = each_mark _ (marks_few Write v.0) (marks_few Read v.1);
        slots = λ k l. slot_passed T k a (every_at n (λ q. slot_good T q a) w.1 k l);
      }
    where
      marks_few : (m : MarkKind) → marks_good m T n a ≡ true → (c : ℕ) → c < T → get_or a (marks_at m T + c) 0 ≤ n
      marks_few m e c l = let h = below_at (n + 1) (marks_at m T) T a e c l in omega arith

  pub passed_good : Passed T n a → words_good T n a ≡ true
  unfolding words_good slots_good
  passed_good p =
      both_and (both_and (few_marks Write) (few_marks Read)) (every_from n (λ k. slot_good T k a) (λ k l. passed_slot T k a (p.slots k l)))
    where
      few_marks : (m : MarkKind) → marks_good m T n a ≡ true
      few_marks m = at_below (n + 1) (marks_at m T) T a (λ c l. omega (arith, p.marks m c l))

-- ---- what the checks 1 to 7 show of the area and of a program

-- of an area that has passed checks 1 to 6, or 1 to 7
pub room_measured : (image t g a : List ℕ) → open_refusal image t g a ≡ passed → (n : ℕ) → n ≡ count_of image → Measured (length t) n a
room_measured image t g a e n q =
    let r = open_shows image t g a e in
    record { cells_few = r.cells_few; programs_few = omega (arith, few image r.accepted); sized = rw q r.sized }

pub measured_lies : (T n : ℕ) (a : List ℕ) → Measured T n a → (k : ℕ) → k < n → HasSlot T k a
measured_lies T n a m k l =
    record { cells_few = m.cells_few; number_few = omega (arith, m.programs_few); lies = omega (arith, m.sized) }

module _ (image t a : List ℕ) (c : Checked image t a) where
  pub measured : (n : ℕ) → n ≡ count_of image → Measured (length t) n a
  measured n e = record { cells_few = c.cells_few; programs_few = omega (arith, c.programs); sized = rw e c.sized }

  pub checked_passed : Passed (length t) (count_of image) a
  checked_passed = good_passed (length t) (count_of image) a c.good

  pub program_lies : (k : ℕ) → k < count_of image → HasSlot (length t) k a
  program_lies k l = measured_lies (length t) (count_of image) a (measured (count_of image) refl) k l

  pub program_slotted : (k : ℕ) → k < count_of image → Slotted (length t) k a
  program_slotted k l = slotted (length t) k a (checked_passed.slots k l) (program_lies k l)

-- how the calls go that check: check by check, and what those before have shown
pub ruleset room_by_check = (checking, few_cells)

pub ruleset open_by_check = (checking, few)

pub ruleset words_by_check = (checking, room_measured, measured, checked)
