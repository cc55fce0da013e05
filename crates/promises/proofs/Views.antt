-- The paper's batch laid out as an area, seen through the area's own views: its length, its marks, its slots, and what each slot says. Assumes
-- nothing.
use mathlib.Core.Path.{◌≡◌, refl, sym, ap, ◌∙◌}
use mathlib.Core.Bool.{Bool, true, ◌&&◌}
use mathlib.Core.List.{List, ◌++◌}
use Prim.Native.Nat.{ℕ, zero, suc, ◌+◌, ◌*◌, ◌≤◌, ◌<◌}
use native.Mathlib.Omega.{arith}
use lib.ListN.{length, get_or, length-append}
use Rattle.base.specs.Words.{tabulate, has, words}
use Rattle.base.proofs.Joins.{words_all, words_left, words_right}
use Rattle.base.proofs.Numbers.{first_le, first_ext}
use Rattle.base.proofs.Parts.{words_at}
use Rattle.base.proofs.Tables.{tabulate_length, tabulate_at, tabulate_ext}
use Rattle.slot.specs.Layout.{slot_words}
use Rattle.slot.specs.declared.ListKind.{ListKind}
use Rattle.slot.specs.Log.{Log, cells_of, log_of, Fits}
use Rattle.slot.proofs.ListKinds.{each_kind}
use Rattle.area.specs.declared.MarkKind.{MarkKind}
use Rattle.area.specs.declared.MarkKind.TheVariants.{Write, Read}
use Rattle.area.specs.Marks.{list_for}
use Rattle.area.specs.Layout.{area_words, marks_at, slot_start, list_of, state_of, detail_of, slot_at, reads_of, stores_of, values_of}
use Rattle.area.proofs.Views.{each_mark, state_in_slot, detail_in_slot, log_in_slot}
use Rattle.area.proofs.Checks.{Passed, count_few}
use Rattle.promises.specs.Paper.{Batch, sets, gets_settled}
use Rattle.promises.specs.Laid.{mark_on, slot_on, slots_to, area_on, gathered_in, settled_in}
use Rattle.promises.proofs.SlotLaws.{slot_ext, state_by, detail_by, log_by, by_started, by_settled}
use Rattle.promises.proofs.SlotLaws.{slot_state, slot_detail, slot_length, slot_log, slot_passes}

-- the log of each program of the batch fits a slot of a table of T cells
unfoldable pub Fitting : Batch → ℕ → Type 0
Fitting b T = (k : ℕ) → k < b.programs → Fits T (sets b k)

module _ (b : Batch) (G S : ℕ → Bool) (T : ℕ) (fits : Fitting b T) where
  -- ---- the slots, one after another

  slots_length : (m : ℕ) → m ≤ b.programs → length (slots_to b G S m) ≡ slot_words * m
  unfolding slots_to Fitting
  slots_length zero h = refl
  slots_length (suc m) h =
      omega (
        arith,
        length-append (slots_to b G S m) (slot_on b G S m),
        slots_length m (omega arith),
        slot_length b G S T m (fits m h),
      )

  slots_at : (m k : ℕ) → m ≤ b.programs → k < m → words (slot_words * k) slot_words (slots_to b G S m) ≡ slot_on b G S k
  unfolding slots_to Fitting
  slots_at zero k h l = absurd (omega arith)
  slots_at (suc m) k h l =
      let before = slots_to b G S m in
      let own = slot_on b G S m in
      let long = slots_length m (omega arith) in
      let last = words_all slot_words own (slot_length b G S T m (fits m h)) in
      grind (arith, slots_at m k, words_right before own (slot_words * m) 0 slot_words, words_left before own (slot_words * k) slot_words)

  -- ---- the area

  pub on_length : length (area_on b G S T) ≡ area_words T b.programs
  unfolding area_on
  on_length =
      omega (
        arith,
        length-append (tabulate (mark_on Write b G) T) (tabulate (mark_on Read b G) T ++ slots_to b G S b.programs),
        length-append (tabulate (mark_on Read b G) T) (slots_to b G S b.programs),
        tabulate_length (mark_on Write b G) T,
        tabulate_length (mark_on Read b G) T,
        slots_length b.programs (omega arith),
      )

  pub marks_on : (m : MarkKind) → words (marks_at m T) T (area_on b G S T) ≡ tabulate (mark_on m b G) T
  unfolding area_on
  marks_on =
      each_mark _
      (words_left (tabulate (mark_on Write b G) T) (tabulate (mark_on Read b G) T ++ slots_to b G S b.programs) 0 T
      (omega (arith, tabulate_length (mark_on Write b G) T))
      ∙ words_all T (tabulate (mark_on Write b G) T) (tabulate_length (mark_on Write b G) T))
      (words_right (tabulate (mark_on Write b G) T) (tabulate (mark_on Read b G) T ++ slots_to b G S b.programs) T 0 T
      (omega (arith, tabulate_length (mark_on Write b G) T))
      ∙ (words_left (tabulate (mark_on Read b G) T) (slots_to b G S b.programs) 0 T (omega (arith, tabulate_length (mark_on Read b G) T))
      ∙ words_all T (tabulate (mark_on Read b G) T) (tabulate_length (mark_on Read b G) T)))

  pub slot_on_lem : (k : ℕ) → k < b.programs → slot_at T k (area_on b G S T) ≡ slot_on b G S k
  unfolding area_on slot_at
  slot_on_lem k l =
      words_right (tabulate (mark_on Write b G) T) (tabulate (mark_on Read b G) T ++ slots_to b G S b.programs)
      (slot_start T k) (T + slot_words * k) slot_words (omega (arith, tabulate_length (mark_on Write b G) T))
      ∙ (words_right (tabulate (mark_on Read b G) T) (slots_to b G S b.programs) (T + slot_words * k) (slot_words * k) slot_words
      (omega (arith, tabulate_length (mark_on Read b G) T))
      ∙ slots_at b.programs k (omega arith) l)

  -- ---- mark by mark

  pub mark_on_lem : (m : MarkKind) (c : ℕ) → c < T → get_or (area_on b G S T) (marks_at m T + c) 0 ≡ mark_on m b G c
  mark_on_lem m c l =
      sym (words_at (marks_at m T) T (area_on b G S T) c l)
      ∙ (ap (λ (x : List ℕ). get_or x c 0) (marks_on m) ∙ tabulate_at (mark_on m b G) T c l)

  -- it passes check 7
  pub on_passes : Passed T b.programs (area_on b G S T)
  unfolding mark_on Fitting
  on_passes =
      record {
        marks = λ m c l. rw (mark_on_lem m c l) (first_le _ b.programs);
        slots = λ k l. rw (slot_on_lem k l) (slot_passes b G S T k (fits k l));
      }

  -- ---- what program k's slot says

  module _ (k : ℕ) (l : k < b.programs) where
    pub state_on : state_of T k (area_on b G S T) ≡ state_by b k (G k) (S k)
    state_on = state_in_slot T k (area_on b G S T) ∙ rw (slot_on_lem k l) (slot_state b G S k)

    pub detail_on : detail_of T k (area_on b G S T) ≡ detail_by b k (G k) (S k)
    detail_on = detail_in_slot T k (area_on b G S T) ∙ rw (slot_on_lem k l) (slot_detail b G S k)

    pub log_on : log_of (slot_at T k (area_on b G S T)) ≡ log_by b k (G k)
    unfolding Fitting
    log_on = rw (slot_on_lem k l) (slot_log b G S T k (fits k l))

    abbrev a : List ℕ
    a = area_on b G S T

    lists_on : record { reads = reads_of T k a; cells = stores_of T k a; values = values_of T k a } ≡ log_by b k (G k)
    lists_on = sym (log_in_slot T k a (count_few T k a (on_passes.slots k l))) ∙ log_on

    pub list_on : (q : ListKind) → list_of q T k (area_on b G S T) ≡ cells_of q (log_by b k (G k))
    list_on = each_kind _ (ap (λ (x : Log). x.reads) lists_on) (ap (λ (x : Log). x.cells) lists_on)

    pub values_on : values_of T k (area_on b G S T) ≡ (log_by b k (G k)).values
    values_on = ap (λ (x : Log). x.values) lists_on

    -- its state tells whether it is gathered, and, where it is settled at all, whether it has been
    pub gathered_on : gathered_in T (area_on b G S T) k ≡ G k
    unfolding gathered_in
    gathered_on = rw state_on (by_started b k (G k) (S k))

    pub settled_on : gets_settled b k ≡ true → settled_in T (area_on b G S T) k ≡ G k && S k
    unfolding settled_in
    settled_on f = rw state_on (by_settled b k (G k) (S k) f)

-- ---- two areas on the way are equal where the same programs are gathered and, of those that are settled at all, the same have been

module _ (b : Batch) (G S G' S' : ℕ → Bool) (T : ℕ) (g : (k : ℕ) → k < b.programs → G k ≡ G' k)
    (s : (k : ℕ) → k < b.programs → gets_settled b k ≡ true → S k ≡ S' k) where
  slots_ext : (m : ℕ) → m ≤ b.programs → slots_to b G S m ≡ slots_to b G' S' m
  unfolding slots_to
  slots_ext zero h = refl
  slots_ext (suc m) h = rw (slots_ext m (omega arith), slot_ext b G S m G' S' (g m h) (s m h))

  mark_ext : (m : MarkKind) (c : ℕ) → mark_on m b G c ≡ mark_on m b G' c
  unfolding mark_on
  mark_ext m c = first_ext _ _ b.programs (λ k l. ap (λ (x : Bool). x && has c (cells_of (list_for m) (sets b k))) (g k l))

  pub on_ext : area_on b G S T ≡ area_on b G' S' T
  unfolding area_on
  on_ext =
      rw (
        tabulate_ext (mark_on Write b G) (mark_on Write b G') T (λ c _. mark_ext Write c),
        tabulate_ext (mark_on Read b G) (mark_on Read b G') T (λ c _. mark_ext Read c),
        slots_ext b.programs (omega arith),
      )
